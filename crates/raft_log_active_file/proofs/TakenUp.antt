-- The last file of a queue is taken up again: it is cut behind what was read of it, and the queue goes on.
use Rattle.std.specs.Prelude.{Result, Ok, Err}
use Rattle.std.specs.Result.{IfOk, IfErr, OnOk, OnErr}
use Rattle.std.specs.declared.io.ErrorKind.{ErrorKind}
use Rattle.std.proofs.Common.{◌≡◌, ℕ, ◌<◌, false, true, Option, Some, None, List, [], length, refl, sym, ◌∙◌, ap, subst, inl, inr, arith, unwrap_or}
use Rattle.std.proofs.lemmas.Bool.{ltb-true}
use Rattle.std.proofs.lemmas.List.{append-nil}
use Rattle.raft_log_fs.specs.Disk.{ShortenedTo, File, Disk, at_rest, grown}
use Rattle.raft_log_fs.specs.Causes.{Fails, IsLater}
use Rattle.raft_log_fs.specs.Image.{IsSound}
use Rattle.raft_log_fs.specs.Calls.{after_change, with_change, flushed, Changes, InPart, IsRight}
use Rattle.raft_log_fs.specs.Arguments.{WrongWriter, WrongHandle}
use Rattle.raft_log_fs.specs.Exits.{Shortens, Syncs, FailsToSync}
use Rattle.raft_log_file_writer.specs.LogFormat.{Format, IsFormat, HasHeader}
use Rattle.raft_log_file_writer.specs.LogQueue.{LogFiles, HoldsLast, IsPast, IsLeftover, recent}
use Rattle.raft_log_fs.specs.Touching.{HasFile}
use Rattle.raft_log_fs.specs.declared.handle.Handle.{Handle}
use Rattle.raft_log_fs.specs.declared.handle.Permission.TheVariants.{ReadWrite}
use Rattle.raft_log_fs.proofs.Public.{fails_after, fails_change, fails_whole, same_file, touches_same}
use Rattle.raft_log_file_writer.specs.Writer.{needs_header, TakesUp, goes_on, begins as writes_header}
use Rattle.raft_log_file_writer.specs.declared.writer.LogFileWriter.{LogFileWriter}
use Rattle.raft_log_active_file.specs.Queue.{whole, finished, with_room, settled, begun}
use Rattle.raft_log_active_file.specs.States.{IsActive, IsFront, IsCut, IsNew}
use Rattle.raft_log_active_file.specs.Standing.{Names, HaveOneName, OwnsPaths, Stands}
use Rattle.raft_log_active_file.specs.Reopening.{reread}
use Rattle.raft_log_active_file.proofs.FileSteps.{front_cut, front_tried, front_holds, cut_holds, cut_past, cut_flushed_holds, past_settled, new_over, new_holds}
use Rattle.raft_log_active_file.proofs.Standing.{have_one_name, stands_changed, stands_synced, stands_done, stands_touched}
use Rattle.raft_log_active_file.proofs.Reopening.{stands_as, new_shortened, empty_holds, leftover_front, leftover_end, leftover_new}
use Rattle.raft_log_active_file.specs.LastFile.{IsActiveTo}
use Rattle.raft_log_active_file.specs.Exits.{IsOpen, IsGiven, Begins, FailsToBegin, BeginMakes}
use Rattle.raft_log_active_file.specs.Rotation.{StandsWithRecords}
use Rattle.raft_log_active_file.specs.TakingUp.{IsLeftBehind, HandleBeginsWith, Trims, TrimMakes, uncut, unsynced, IsHalfOpen, TrimsLeftover, FailsToTrim, Reopens, FailsToReopen, TakeUpMakes, ReopenMakes, not_taken_up}
use Rattle.raft_log_active_file.proofs.Writing.{no_room}

-- no file is shorter than no bytes
no_header_short : (content : List ℕ) → needs_header [] false content ≡ true → ⊥
no_header_short content short = (let less : length content < 0 = ltb-true (length content) 0 short in omega (arith, less))

abbrev refused : ErrorKind → Result (Unit {0}) ErrorKind
refused e = Err e

right_writer : (handle : Handle) (P : File → Type 0) (d : Disk) → handle.permission ≡ ReadWrite → HasFile handle.file P d → IsRight (WrongWriter handle d)
right_writer handle P d permitted has kind (inl (why, none)) = let here = has.is in cc
right_writer handle P d permitted has kind (inr (why, only)) = let both = permitted in cc

right_handle : (handle : Handle) (P : File → Type 0) (d : Disk) → HasFile handle.file P d → IsRight (WrongHandle handle d)
right_handle handle P d has kind (why, none) = let here = has.is in cc

shortened_later : (handle : Handle) (size : ℕ) (old new : Disk) → Changes handle.file (after_change (ShortenedTo size)) old new → IsLater old new
shortened_later handle size old new changes = record { failures = omega (arith, ap (λ (d : Disk). d.failures) changes.done); stopped = λ stops. ap (λ (d : Disk). d.stopped) changes.done ∙ stops }

module _ {R : Type 0} (F : Format R) (own : List ℕ → Type 0) (lawful : IsFormat F) (owns : OwnsPaths F own) where
  -- without records it makes no difference that they are durable
  as_reread : (header stale : List ℕ) (q : LogFiles R) → recent q ≡ [] → begun header stale q ≡ reread header stale q
  as_reread header stale q none = λ i. record q { header = header; stale = stale; durable = sym none i; pending = [] }

  -- the same disk, and what is known of its last file under another header
  known : (base : Disk) (q p : LogFiles R) (path : List ℕ) (id : ℕ) (P Q : File → Type 0) (N : Names) (d : Disk) → HaveOneName N → p.older ≡ q.older → p.last ≡ q.last → F.IsHeader p.header → HasFile id Q d
      → Stands F own base q path id P N d → Stands F own base p path id Q N d
  known base q p path id P Q N d one older last header has s = stands_touched F own base lawful owns p path id P Q N d d one (touches_same id d) has (stands_as F own base q p path id P N d older last header s)

  cause : (base : Disk) (q : LogFiles R) (path : List ℕ) (P Q : File → Type 0) (N : Names) (handle : Handle) (size : ℕ) (error : ErrorKind) (old new : Disk) → HaveOneName N → handle.permission ≡ ReadWrite
      → Stands F own base q path handle.file P N old → ((file : File) → P file → Q (after_change (ShortenedTo size) file)) → TrimMakes handle size error old new → Fails old new
  cause base q path P Q N handle size error old new one permitted s step (uncut fails) = fails_change (right_writer handle P old permitted s.file) fails
  cause base q path P Q N handle size error old new one permitted s step (unsynced cut shortens fails) =
      let there = stands_done F own base lawful owns q path handle.file P Q N (after_change (ShortenedTo size)) old cut one shortens step s in
      fails_after old cut new (shortened_later handle size old cut shortens) (fails_whole (right_handle handle Q cut there.file) fails)

  -- A file with a header.

  pub read_front : (base : Disk) (handle : Handle) (end : ℕ) (q : LogFiles R) (path : List ℕ) (N : Names) (d : Disk) → HaveOneName N → IsLeftBehind F own base handle (Some end) q path N d
      → (front : List ℕ) × HandleBeginsWith F handle front d × (end ≡ length (whole (reread front [] q)))
      × Stands F own base (reread front [] q) path handle.file (IsFront F (reread front [] q) []) N d
  read_front base handle end q path N d one is =
      let (front, ws, has, reads, ends) = is.read.has in
      let file = is.read.file in
      let same : is.stands.file.file ≡ file = same_file d handle.file is.stands.file.file file is.stands.file.is is.read.is in
      let left : IsLeftover F q file = subst (IsLeftover F q) same is.stands.file.has in
      let next = reread front [] q in (
        front,
        record { file = file; is = is.read.is; has = has },
        ends ∙ leftover_end F lawful q front ws file has reads left,
        known base q next path handle.file (IsLeftover F q) (IsFront F next []) N d one refl refl has.is (record { file = file; is = is.read.is; has = leftover_front F lawful q front file has left }) is.stands,
      )

  front_trimmed : (base : Disk) (handle : Handle) (size : ℕ) (front : List ℕ) (q : LogFiles R) (path : List ℕ) (N : Names) (old new : Disk) → HaveOneName N → size ≡ length (whole (reread front [] q)) → Trims handle size old new
      → Stands F own base (reread front [] q) path handle.file (IsFront F (reread front [] q) []) N old
      → Stands F own base (reread front [] q) path handle.file (IsPast F q.last (finished (reread front [] q))) N new
  front_trimmed base handle size front q path N old new one at trims s =
      let next = reread front [] q in
      let cut = stands_done F own base lawful owns next path handle.file (IsFront F next []) (IsCut F next []) N (after_change (ShortenedTo size)) old trims.cut one trims.shortens
      (λ file was. subst (λ (n : ℕ). IsCut F next [] (after_change (ShortenedTo n) file)) (sym at) (front_cut F next [] file was)) s in
      stands_done F own base lawful owns next path handle.file (IsCut F next []) (IsPast F q.last (finished next)) N flushed trims.cut new one trims.syncs (λ file was. cut_past F lawful next [] file s.headed was) cut

  front_untrimmed : (base : Disk) (handle : Handle) (size : ℕ) (front : List ℕ) (q : LogFiles R) (path : List ℕ) (N : Names) (error : ErrorKind) (old new : Disk) → HaveOneName N → size ≡ length (whole (reread front [] q))
      → TrimMakes handle size error old new → Stands F own base (reread front [] q) path handle.file (IsFront F (reread front [] q) []) N old
      → Stands F own base (reread front [] q) path handle.file (HoldsLast F (reread front [] q)) N new
  front_untrimmed base handle size front q path N error old new one at (uncut fails) s =
      let next = reread front [] q in
      stands_changed F own base lawful owns next path handle.file (IsFront F next []) (HoldsLast F next) N (WrongWriter handle old) (refused error) (ShortenedTo size) one
      (λ file was. front_holds F next [] file was)
      (λ file content was part. front_holds F next [] (with_change (ShortenedTo size) content file)
      (subst (λ (n : ℕ). IsFront F next [] (with_change (ShortenedTo n) content file)) (sym at) (front_tried F next [] content file was (subst (λ (n : ℕ). InPart (ShortenedTo n) file.content content) at part)))) tt fails s
  front_untrimmed base handle size front q path N error old new one at (unsynced cut shortens fails) s =
      let next = reread front [] q in
      let there = stands_done F own base lawful owns next path handle.file (IsFront F next []) (IsCut F next []) N (after_change (ShortenedTo size)) old cut one shortens
      (λ file was. subst (λ (n : ℕ). IsCut F next [] (after_change (ShortenedTo n) file)) (sym at) (front_cut F next [] file was)) s in
      stands_synced F own base lawful owns next path handle.file (IsCut F next []) (HoldsLast F next) N (WrongHandle handle cut) (refused error) one
      (λ file was. cut_holds F next [] file was) (λ file was. cut_flushed_holds F lawful next [] file was) tt fails there

  -- A file without one.

  abbrev IsEmptied : List ℕ → List ℕ → LogFiles R → File → Type 0
  IsEmptied header stale q file = HoldsLast F (begun header stale q) file × (file.content ≡ [])

  read_new : (base : Disk) (handle : Handle) (header : List ℕ) (q : LogFiles R) (path : List ℕ) (N : Names) (d : Disk) → HaveOneName N → F.IsHeader header → IsLeftBehind F own base handle None q path N d
      → (stale : List ℕ) × HasFile handle.file (λ file. stale ≡ file.content) d × (recent q ≡ []) × Stands F own base (begun header stale q) path handle.file (IsNew F (begun header stale q)) N d
  read_new base handle header q path N d one head is =
      let file = is.read.file in
      let same : is.stands.file.file ≡ file = same_file d handle.file is.stands.file.file file is.stands.file.is is.read.is in
      let left : IsLeftover F q file = subst (IsLeftover F q) same is.stands.file.has in
      let (none, new) = leftover_new F lawful q header file is.read.has left in
      let next = begun header file.content q in (
        file.content,
        record { file = file; is = is.read.is; has = refl },
        none,
        known base q next path handle.file (IsLeftover F q) (IsNew F next) N d one refl refl head (record { file = file; is = is.read.is; has = new }) is.stands,
      )

  emptied_untrimmed : (base : Disk) (handle : Handle) (header stale : List ℕ) (q : LogFiles R) (path : List ℕ) (N : Names) (error : ErrorKind) (old new : Disk) → HaveOneName N → TrimMakes handle 0 error old new
      → Stands F own base (begun header stale q) path handle.file (IsNew F (begun header stale q)) N old → Stands F own base (begun header stale q) path handle.file (HoldsLast F (begun header stale q)) N new
  emptied_untrimmed base handle header stale q path N error old new one (uncut fails) s =
      let next = begun header stale q in
      stands_changed F own base lawful owns next path handle.file (IsNew F next) (HoldsLast F next) N (WrongWriter handle old) (refused error) (ShortenedTo 0) one
      (λ file was. new_holds F header stale q file was) (λ file content was part. new_shortened F header stale q 0 content file was) tt fails s
  emptied_untrimmed base handle header stale q path N error old new one (unsynced cut shortens fails) s =
      let next = begun header stale q in
      let there = stands_done F own base lawful owns next path handle.file (IsNew F next) (IsEmptied header stale q) N (after_change (ShortenedTo 0)) old cut one shortens
      (λ file was. (new_shortened F header stale q 0 _ file was, refl)) s in
      stands_synced F own base lawful owns next path handle.file (IsEmptied header stale q) (HoldsLast F next) N (WrongHandle handle cut) (refused error) one (λ file (held, empty). held)
      (λ file (held, empty). subst (λ (b : List ℕ). HoldsLast F next (at_rest b)) (sym empty) (empty_holds F lawful header stale q)) tt fails there

  -- Either is cut, or not.

  pub trims_leftover : (handle : Handle) (end : Option ℕ) (old new : Disk) → IsSound old → Trims handle (unwrap_or end 0) old new → TrimsLeftover F own handle end old new
  trims_leftover handle (Some end) old new sound trims base q path N is =
      let one = have_one_name old N sound is.stands.names in
      let (front, begins, ends, s) = read_front base handle end q path N old one is in
      (front, begins, front_trimmed base handle end front q path N old new one ends trims s)
  trims_leftover handle None old new sound trims base q path N is =
      let one = have_one_name old N sound is.stands.names in
      let (none, new_one) = leftover_new F lawful q q.header is.stands.file.file headless is.stands.file.has in
      let cut = stands_done F own base lawful owns q path handle.file (IsLeftover F q) (λ f. f.content ≡ []) N (after_change (ShortenedTo 0)) old trims.cut one trims.shortens (λ file was. refl) is.stands in
      (none, stands_done F own base lawful owns q path handle.file (λ f. f.content ≡ []) (λ f. f ≡ at_rest []) N flushed trims.cut new one trims.syncs (λ file was. ap at_rest was) cut)
    where
      headless : (other : List ℕ) → HasHeader F other is.stands.file.file.content → ⊥
      headless other has =
          let same : is.stands.file.file ≡ is.read.file = same_file old handle.file is.stands.file.file is.read.file is.stands.file.is is.read.is in
          is.read.has other (subst (λ (f : File). HasHeader F other f.content) same has)

  half_open : (base : Disk) (handle : Handle) (end : Option ℕ) (header : List ℕ) (q : LogFiles R) (path : List ℕ) (N : Names) (error : ErrorKind) (old new : Disk) → HaveOneName N → F.IsHeader header
      → TrimMakes handle (unwrap_or end 0) error old new → IsLeftBehind F own base handle end q path N old → IsHalfOpen F own base handle end header q old new
  half_open base handle (Some end) header q path N error old new one head makes is =
      let (front, begins, ends, s) = read_front base handle end q path N old one is in (
        front,
        [],
        begins,
        inr (0, refl),
        record { path = path; id = handle.file; N = N; stands = front_untrimmed base handle end front q path N error old new one ends makes s },
      )
  half_open base handle None header q path N error old new one head makes is =
      let (stale, was, none, s) = read_new base handle header q path N old one head is in (
        header,
        stale,
        refl,
        inl was,
        subst (λ (p : LogFiles R). StandsWithRecords F own base p new) (as_reread header stale q none)
            (record { path = path; id = handle.file; N = N; stands = emptied_untrimmed base handle header stale q path N error old new one makes s }),
      )

  pub fails_to_trim : (handle : Handle) (end : Option ℕ) (error : ErrorKind) (old new : Disk) → IsSound old → TrimMakes handle (unwrap_or end 0) error old new → FailsToTrim F own handle end old new
  fails_to_trim handle end error old new sound makes base q path N is =
      let one = have_one_name old N sound is.stands.names in (
        cause base q path (IsLeftover F q) (λ f. Unit {0}) N handle (unwrap_or end 0) error old new one is.permitted is.stands (λ file was. tt) makes,
        λ header head. half_open base handle end header q path N error old new one head makes is,
      )

  -- The queue goes on behind the records that were read.

  settled_again : (front : List ℕ) (q : LogFiles R) → settled (reread front [] q) ≡ reread front [] q
  settled_again front q = λ i. record q { header = front; stale = []; durable = append-nil (recent q) i; pending = [] }

  pub goes_on_behind : (handle : Handle) (end : ℕ) (header : List ℕ) (writer : LogFileWriter) (old trimmed new : Disk) → IsSound old → TrimsLeftover F own handle (Some end) old trimmed → TakesUp handle [] false writer trimmed new
      → Reopens F own handle (Some end) header writer old new
  goes_on_behind handle end header writer old trimmed new sound trims (writes_header file is short writes at) base q path N head was = absurd (no_header_short file.content short)
  goes_on_behind handle end header writer old trimmed new sound trims (goes_on file is enough same at) base q path N head was =
      let (front, begins, s) = trims base q path N was in
      let next = reread front [] q in
      let here : s.file.file ≡ file = same_file trimmed handle.file s.file.file file s.file.is is in
      let past : IsPast F q.last (finished next) file = subst (IsPast F q.last (finished next)) here s.file.has in
      let long : length file.content ≡ length (whole next) = ap (λ (f : File). length f.content) past.is in
      let active : Stands F own base next path handle.file (IsActiveTo F writer.capacity next) N trimmed =
      known base next next path handle.file (IsPast F q.last (finished next)) (IsActiveTo F writer.capacity next) N trimmed (have_one_name old N sound was.stands.names) refl refl s.headed (record {
        file = file;
        is = is;
        has = record { active = subst (λ (p : LogFiles R). IsActive F p file) (settled_again front q) (past_settled F lawful next file past); ends = omega (arith, at.capacity_is) };
      }) s in (
        front,
        0,
        begins,
        subst (λ (p : LogFiles R). IsOpen F own base writer p path N new) (sym (no_room F next)) (record {
          permitted = ap (λ (h : Handle). h.permission) at.handle_is ∙ was.permitted;
          written = at.written_is ∙ long;
          stands = subst (λ (h : Handle). Stands F own base next path h.file (IsActiveTo F writer.capacity next) N new) (sym at.handle_is)
              (subst (λ (d : Disk). Stands F own base next path handle.file (IsActiveTo F writer.capacity next) N d) (sym same) active);
        }),
      )

  -- Or behind a header that its empty file gets.

  given_again : (base : Disk) (handle : Handle) (header : List ℕ) (q : LogFiles R) (path : List ℕ) (N : Names) (d : Disk) → HaveOneName N → F.IsHeader header → handle.permission ≡ ReadWrite
      → Stands F own base q path handle.file (λ file. file ≡ at_rest []) N d → IsGiven F own base handle (begun header [] q) path N d
  given_again base handle header q path N d one head permitted s =
      let next = begun header [] q in (
        permitted,
        known base q next path handle.file (λ file. file ≡ at_rest []) (IsNew F next) N d one refl refl head
            (record { file = s.file.file; is = s.file.is; has = subst (IsNew F next) (sym s.file.has) (new_over F header [] q) }) s,
      )

  pub begins_again : (handle : Handle) (header : List ℕ) (writer : LogFileWriter) (old trimmed new : Disk) → IsSound old → TrimsLeftover F own handle None old trimmed → Begins F own handle header writer trimmed new
      → Reopens F own handle None header writer old new
  begins_again handle header writer old trimmed new sound trims begin base q path N head was =
      let (none, s) = trims base q path N was in
      let (room, is) = begin base q [] path N (given_again base handle header q path N trimmed (have_one_name old N sound was.stands.names) head was.permitted s) in
      (header, room, refl, subst (λ (p : LogFiles R). IsOpen F own base writer (with_room room p) path N new) (as_reread header [] q none) is)

  pub begins_not_again : (handle : Handle) (header : List ℕ) (old trimmed new : Disk) → IsSound old → TrimsLeftover F own handle None old trimmed → IsLater old trimmed → FailsToBegin F own handle header trimmed new
      → FailsToReopen F own handle None header old new
  begins_not_again handle header old trimmed new sound trims later fails base q path N head was =
      let (none, s) = trims base q path N was in
      let (why, (room, held)) = fails base q [] path N (given_again base handle header q path N trimmed (have_one_name old N sound was.stands.names) head was.permitted s) in (
        fails_after old trimmed new later why,
        (
          header,
          grown room [],
          refl,
          inr (room, refl),
          subst (λ (p : LogFiles R). StandsWithRecords F own base p new) (as_reread header (grown room []) q none) (record { path = path; id = handle.file; N = N; stands = held }),
        ),
      )

  pub not_trimmed_not_reopened : (handle : Handle) (end : Option ℕ) (header : List ℕ) (old new : Disk) → FailsToTrim F own handle end old new → FailsToReopen F own handle end header old new
  not_trimmed_not_reopened handle end header old new fails base q path N head was =
      let (why, half) = fails base q path N was in
      (why, half header head)

  -- Either, by the answer.

  pub reopened_front : (result : Result LogFileWriter ErrorKind) (handle : Handle) (end : Option ℕ) (place : ℕ) (header : List ℕ) (old trimmed new : Disk) → end ≡ Some place → IsSound old → TrimsLeftover F own handle end old trimmed
      → IfOk result (λ writer. TakesUp handle [] false writer trimmed new) → IfOk result (λ writer. Reopens F own handle end header writer old new)
  reopened_front (Ok writer) handle end place header old trimmed new at sound trims ok =
      subst (λ (o : Option ℕ). Reopens F own handle o header writer old new) (sym at)
      (goes_on_behind handle place header writer old trimmed new sound (subst (λ (o : Option ℕ). TrimsLeftover F own handle o old trimmed) at trims) ok)
  reopened_front (Err e) handle end place header old trimmed new at sound trims ok = tt

  pub reopened_empty : (result : Result LogFileWriter ErrorKind) (handle : Handle) (end : Option ℕ) (header : List ℕ) (old trimmed new : Disk) → end ≡ None → IsSound old → TrimsLeftover F own handle end old trimmed
      → IfOk result (λ writer. Begins F own handle header writer trimmed new) → IfOk result (λ writer. Reopens F own handle end header writer old new)
  reopened_empty (Ok writer) handle end header old trimmed new at sound trims ok =
      subst (λ (o : Option ℕ). Reopens F own handle o header writer old new) (sym at) (begins_again handle header writer old trimmed new sound (subst (λ (o : Option ℕ). TrimsLeftover F own handle o old trimmed) at trims) ok)
  reopened_empty (Err e) handle end header old trimmed new at sound trims ok = tt

  pub unopened_empty : (result : Result LogFileWriter ErrorKind) (handle : Handle) (end : Option ℕ) (header : List ℕ) (old trimmed new : Disk) → end ≡ None → IsSound old → TrimsLeftover F own handle end old trimmed
      → IsLater old trimmed → OnErr result (FailsToBegin F own handle header trimmed new) → OnErr result (FailsToReopen F own handle end header old new)
  unopened_empty (Ok writer) handle end header old trimmed new at sound trims later err = tt
  unopened_empty (Err e) handle end header old trimmed new at sound trims later err =
      subst (λ (o : Option ℕ). FailsToReopen F own handle o header old new) (sym at) (begins_not_again handle header old trimmed new sound (subst (λ (o : Option ℕ). TrimsLeftover F own handle o old trimmed) at trims) later err)

pub refusal_empty : (result : Result LogFileWriter ErrorKind) (handle : Handle) (end : Option ℕ) (header : List ℕ) (old trimmed new : Disk) → end ≡ None → Trims handle (unwrap_or end 0) old trimmed
    → IfErr result (λ error. BeginMakes handle header error trimmed new) → IfErr result (λ error. ReopenMakes handle end header error old new)
refusal_empty (Ok writer) handle end header old trimmed new at trims err = tt
refusal_empty (Err e) handle end header old trimmed new at trims err =
    not_taken_up trimmed trims (subst (λ (o : Option ℕ). TakeUpMakes handle o header e trimmed new) (sym at) err)

-- the cut was answered: so is the whole where the sync is
pub trimmed_either : {R : Type 0} (F : Format R) (own : List ℕ → Type 0) (lawful : IsFormat F) (owns : OwnsPaths F own) (result : Result (Unit {0}) ErrorKind) (handle : Handle) (end : Option ℕ) (old cut new : Disk) → IsSound old
    → Shortens handle (unwrap_or end 0) old cut → OnOk result (Syncs handle cut new) → OnOk result (TrimsLeftover F own handle end old new)
trimmed_either F own lawful owns (Ok v) handle end old cut new sound shortens ok = trims_leftover F own lawful owns handle end old new sound (record { cut = cut; shortens = shortens; syncs = ok })
trimmed_either F own lawful owns (Err e) handle end old cut new sound shortens ok = tt

pub untrimmed_either : {R : Type 0} (F : Format R) (own : List ℕ → Type 0) (lawful : IsFormat F) (owns : OwnsPaths F own) (result : Result (Unit {0}) ErrorKind) (handle : Handle) (end : Option ℕ) (old cut new : Disk) → IsSound old
    → Shortens handle (unwrap_or end 0) old cut → IfErr result (λ error. FailsToSync handle error cut new) → OnErr result (FailsToTrim F own handle end old new)
untrimmed_either F own lawful owns (Ok v) handle end old cut new sound shortens err = tt
untrimmed_either F own lawful owns (Err e) handle end old cut new sound shortens err = fails_to_trim F own lawful owns handle end e old new sound (unsynced cut shortens err)

pub refusal_synced : (result : Result (Unit {0}) ErrorKind) (handle : Handle) (size : ℕ) (old cut new : Disk) → Shortens handle size old cut → IfErr result (λ error. FailsToSync handle error cut new)
    → IfErr result (λ error. TrimMakes handle size error old new)
refusal_synced (Ok v) handle size old cut new shortens err = tt
refusal_synced (Err e) handle size old cut new shortens err = unsynced cut shortens err
