-- A pipe that is opened: its lists are those of the files that were found, and the queue stands as they say.
use Rattle.std.specs.Map.{update}
use Rattle.std.specs.Str.{bytes_eq}
use Rattle.std.proofs.Common.{◌≡◌, ℕ, ◌<◌, ◌≤◌, Option, Some, None, List, [], ◌∷◌, ◌++◌, false, refl, sym, ◌∙◌, ap, subst, arith}
use Rattle.std.specs.declared.io.ErrorKind.{ErrorKind}
use Rattle.std.specs.Prelude.{Result, Ok, Err}
use Rattle.std.specs.Result.{IfOk, IfErr}
use Rattle.raft_log_record_base.specs.declared.errors.Error.{Error}
use Rattle.raft_log_fs.specs.Disk.{File, Disk}
use Rattle.raft_log_fs.specs.Image.{IsSound}
use Rattle.raft_log_file_writer.specs.LogFormat.{Format}
use Rattle.raft_log_fs.specs.Touching.{TouchesOnly}
use Rattle.raft_log_fs.specs.declared.handle.Handle.{Handle}
use Rattle.raft_log_fs.proofs.Public.{name_apart, name_here, same_file}
use Rattle.raft_log_file_format.specs.declared.header.LogFileFormat.{LogFileFormat}
use Rattle.raft_log_file_format.specs.Header.{header_bytes}
use Rattle.raft_log_active_file.specs.Queue.{with_room}
use Rattle.raft_log_active_file.specs.Beginning.{fresh_queue}
use Rattle.raft_log_active_file.specs.Reopening.{reread}
use Rattle.raft_log_active_file.specs.Standing.{Names}
use Rattle.raft_log_active_file.specs.Layout.{FilePaths, IsLayout, IsUnaligned, path_of}
use Rattle.raft_log_active_file.specs.Exits.{IsOpen}
use Rattle.raft_log_active_file.specs.Opening.{AllFilesStay, CanBegin, BeginsQueue, BeginsQueueBy, FailsToBeginQueue, BeginQueueMakes}
use Rattle.raft_log_active_file.specs.TakingUp.{GoesOnBehind, HandleBeginsWith, Reopens, ReopensBy, FailsToReopen, ReopenMakes}
use Rattle.raft_log_file_pipe.specs.declared.pipe_files.PipeFiles.{PipeFiles}
use Rattle.raft_log_file_pipe.specs.Files.{Listed, IsSpan, AllKept, IsPipe}
use Rattle.raft_log_file_pipe.specs.declared.found_files.FoundFiles.{FoundFiles}
use Rattle.raft_log_file_pipe.specs.declared.new_files.NewFiles.{NewFiles}
use Rattle.raft_log_file_pipe.specs.Opening.OpensPipe.{takes_up as takes_up_case}
use Rattle.raft_log_file_pipe.specs.Opening.OpenLeaves.{not_taken_up}
use Rattle.raft_log_file_pipe.specs.Opening.{OpensPipe, OpenLeaves, TakeUpLeaves, CanBeginWith, BeginsPipe, FailsToBeginPipe, IsListedAs, TakesUpFound, FailsToTakeUpFound, HasOwnHeader, first_number, taken_up}
use Rattle.raft_log_file_pipe.proofs.Lists.{span_end, span_moved, kept_all, kept_is_no_number}

-- taking a file up changes its format alone
pub taken_path : (paths : FilePaths) (end : Option ℕ) (last : Listed) → path_of paths (taken_up end last) ≡ path_of paths last
taken_path paths (Some e) last = refl
taken_path paths None last = refl

pub taken_number : (end : Option ℕ) (last : Listed) → (taken_up end last).seq ≡ last.seq
taken_number (Some e) last = refl
taken_number None last = refl

pub taken_listed : (end : Option ℕ) (last : Listed) → (taken_up end last).reserved ≡ last.reserved
taken_listed (Some e) last = refl
taken_listed None last = refl

pub taken_handle : (end : Option ℕ) (last : Listed) → (taken_up end last).handle ≡ last.handle
taken_handle (Some e) last = refl
taken_handle None last = refl

pub taken_first : (earlier : List Listed) (end : Option ℕ) (last : Listed) → first_number earlier (taken_up end last) ≡ first_number earlier last
taken_first [] end last = taken_number end last
taken_first (f ∷ fs) end last = refl

module _ {R : Type 0} (F : Format R) (own : List ℕ → Type 0) (paths : FilePaths) (lawful : IsLayout F own paths) where
  -- a file begins with one header
  one_header : (handle : Handle) (a b : List ℕ) (d : Disk) → HandleBeginsWith F handle a d → HandleBeginsWith F handle b d → a ≡ b
  one_header handle a b d left right =
      let same : left.file ≡ right.file = same_file d handle.file left.file right.file left.is right.is in
      let spelled : a ++ left.has.rest ≡ b ++ right.has.rest = sym left.has.splits ∙ ap (λ (f : File). f.content) same ∙ right.has.splits in
      lawful.format.headers a b left.has.rest right.has.rest left.has.is right.has.is spelled

  -- the header behind which the queue goes on is that of the file as it is taken up
  pub header_is : (end : Option ℕ) (last : Listed) (front : List ℕ) (d : Disk) → HasOwnHeader F end last d → GoesOnBehind F last.handle end (header_bytes (taken_up end last).format) d front → front ≡ header_bytes (taken_up end last).format
  header_is (Some e) last front d own_header goes = one_header last.handle front (header_bytes last.format) d goes own_header
  header_is None last front d own_header goes = goes

  -- the files that are kept for use, through a call on the last file
  kept_touched : (first q_last : ℕ) (path : List ℕ) (id : ℕ) (old new : Disk) (fs : List Listed) → IsSound old → first ≤ q_last → q_last < F.limit → F.IsPath q_last path → old.names path ≡ Some id → TouchesOnly id old new
      → AllKept F paths first old fs → AllKept F paths first new fs
  kept_touched first q_last path id old new fs sound from bound at named only are = kept_all F paths first first old new fs (λ g was.
      (let mine : g.handle.file ≡ id → ⊥ = λ same. kept_is_no_number F own paths lawful first old g q_last was from bound
      (subst (F.IsPath q_last) (sound.one_name path (path_of paths g) id named (was.named ∙ ap Some same)) at) in
      record {
        named = ap (λ (N : Names). N (path_of paths g)) only.names ∙ was.named;
        below = was.below;
        small = was.small;
        usable = record { file = was.usable.file; is = only.others g.handle.file mine ∙ was.usable.is; has = was.usable.has };
      })) are

  pub takes_up : (earlier : List Listed) (last : Listed) (end : Option ℕ) (kept : List Listed) (header : List ℕ) (files : PipeFiles) (old new : Disk) → IsSound old → IsUnaligned (taken_up end last).format → header ≡ header_bytes (taken_up end last).format
      → IsListedAs earlier (taken_up end last) kept files → Reopens F own last.handle end header files.writer old new → TouchesOnly last.handle.file old new → ReopensBy last.handle end header files.writer old new → TakesUpFound F own paths earlier last end kept files old new
  takes_up earlier last end kept header files old new sound has spelled listed reopens only calls base q found =
      let format = (taken_up end last).format in
      let head : F.IsHeader header = subst F.IsHeader (sym spelled) (lawful.headed format has) in
      let (front, room, goes, stands) = reopens base q (path_of paths last) old.names head found.left in
      let front_is : front ≡ header_bytes format = header_is end last front old found.headed (subst (λ (h : List ℕ). GoesOnBehind F last.handle end h old front) spelled goes) in
      let active_front : front ≡ header_bytes files.active.format = front_is ∙ ap (λ (f : Listed). header_bytes f.format) (sym listed.active) in
      let names : new.names ≡ old.names = only.names in
      let path_is : path_of paths files.active ≡ path_of paths last = ap (path_of paths) listed.active ∙ taken_path paths end last in
      let first = first_number earlier last in
      let first_is : files.first_seq ≡ first = listed.first ∙ taken_first earlier end last in
      let ends = span_end paths old.names first q.last earlier found.span in
      let here = found.left.stands.named in
      let there = stands.stands.named in
      let bound = found.left.stands.bound in
      let pipe : IsPipe F own paths base files (with_room room (reread front [] q)) new = record {
        active = subst (λ (p : List ℕ). IsOpen F own base files.writer (with_room room (reread front [] q)) p new.names new) (sym path_is)
            (subst (λ (N : Names). IsOpen F own base files.writer (with_room room (reread front [] q)) (path_of paths last) N new) (sym names) stands);
        number = ap (λ (f : Listed). f.seq) listed.active ∙ taken_number end last ∙ found.number;
        listed = ap (λ (f : Listed). f.reserved) listed.active ∙ taken_listed end last ∙ found.listed;
        header = active_front;
        handle = ap (λ (f : Listed). f.handle.file) listed.active ∙ ap (λ (h : Handle). h.file) (taken_handle end last) ∙ cc (here, there);
        span = subst (λ (n : ℕ). IsSpan paths new.names n files.earlier.items q.last) (sym first_is) (subst (λ (fs : List Listed). IsSpan paths new.names first fs q.last) (sym listed.before)
            (span_moved paths old.names new.names first q.last earlier (λ directory n from less. ap (λ (N : Names). N (paths.numbered directory n)) names) found.span));
        kept = subst (λ (n : ℕ). AllKept F paths n new files.recycled.items) (sym first_is) (subst (AllKept F paths first new) (sym listed.spares)
            (kept_touched first q.last (path_of paths last) last.handle.file old new kept sound (omega (arith, ends)) bound found.left.stands.at (ap (λ (N : Names). N (path_of paths last)) found.left.stands.names ∙ here) only found.spares));
      } in (
        room,
        subst (λ (h : List ℕ). IsPipe F own paths base files (with_room room (reread h [] q)) new) active_front pipe,
        λ m below none path at. ap (λ (N : Names). N path) names ∙ none path at,
        subst (λ (h : List ℕ). ReopensBy last.handle end h files.writer old new) spelled calls,
      )

  pub fails_to_take_up : (earlier : List Listed) (last : Listed) (end : Option ℕ) (kept : List Listed) (header : List ℕ) (old new : Disk) → IsUnaligned (taken_up end last).format → header ≡ header_bytes (taken_up end last).format
      → FailsToReopen F own last.handle end header old new → TouchesOnly last.handle.file old new → FailsToTakeUpFound F own paths earlier last end kept old new
  fails_to_take_up earlier last end kept header old new has spelled fails only base q found =
      let format = (taken_up end last).format in
      let (cause, held) = subst (λ (h : List ℕ). FailsToReopen F own last.handle end h old new) spelled fails base q (path_of paths last) old.names (lawful.headed format has) found.left in
      (cause, λ m below none path at. ap (λ (N : Names). N path) only.names ∙ none path at, subst (λ (N : Names). IsSpan paths N (first_number earlier last) earlier q.last) (sym only.names) found.span, held)

  -- A queue that begins.

  pub can_begin : (base : Disk) (kept : List Listed) (format : LogFileFormat) (directory : ℕ) (old : Disk) → IsUnaligned format → CanBeginWith F own paths base kept old → CanBegin F own base (header_bytes format) (paths.numbered directory 1) old
  can_begin base kept format directory old has can = record {
    fresh = can.fresh;
    header_is = lawful.headed format has;
    path_is = lawful.numbered directory 1 (let limit = lawful.limit in omega (arith, limit));
  }

  pub begins : (kept : List Listed) (format : LogFileFormat) (directory : ℕ) (header path : List ℕ) (handle : Handle) (files : PipeFiles) (old new : Disk) → IsUnaligned format → header ≡ header_bytes format → path ≡ paths.numbered directory 1
      → files.first_seq ≡ 1 → files.earlier.items ≡ [] → files.active ≡ record { seq = 1; handle = handle; format = format; path_id = directory; reserved = false } → files.recycled.items ≡ kept
      → BeginsQueue F own header path handle files.writer old new → AllFilesStay old new → BeginsQueueBy path header handle files.writer old new → BeginsPipe F own paths format kept files old new
  begins kept format directory header path handle files old new has header_is path_is first earlier active recycled begun stay calls base older can =
      let limit = lawful.limit in
      let less : 1 < F.limit = omega (arith, limit) in
      let head = header_bytes format in
      let at = paths.numbered directory 1 in
      let ready : CanBegin F own base head at old = can_begin base kept format directory old has can in
      let (permitted, room, stands, absent) = subst (λ (p : List ℕ). BeginsQueue F own head p handle files.writer old new) path_is (subst (λ (h : List ℕ). BeginsQueue F own h path handle files.writer old new) header_is begun) base older ready in
      let q = with_room room (fresh_queue older head) in
      let names : new.names ≡ update bytes_eq old.names at (Some handle.file) = stands.stands.names in
      let there = stands.stands.named in
      let here = name_here old.names at (Some handle.file) in
      let same : handle.file ≡ files.writer.handle.file = cc (here, there) in
      let kept_new : AllKept F paths 1 new kept = kept_all F paths 1 1 old new kept (λ g was.
      (let apart : path_of paths g ≡ at → ⊥ = λ e. kept_is_no_number F own paths lawful 1 old g 1 was (omega arith) less (subst (F.IsPath 1) (sym e) (lawful.numbered directory 1 less)) in
      record {
        named = ap (λ (N : Names). N (path_of paths g)) names ∙ name_apart old.names at (Some handle.file) (path_of paths g) apart ∙ was.named;
        below = was.below;
        small = was.small;
        usable = record { file = was.usable.file; is = stay g.handle.file was.usable.file was.usable.is; has = was.usable.has };
      })) can.spares in (
        room,
        record {
          active = subst (λ (f : Listed). IsOpen F own base files.writer q (path_of paths f) new.names new) (sym active) (subst (λ (N : Names). IsOpen F own base files.writer q at N new) (sym names) stands);
          number = ap (λ (f : Listed). f.seq) active;
          listed = ap (λ (f : Listed). f.reserved) active;
          header = ap (λ (f : Listed). header_bytes f.format) (sym active);
          handle = ap (λ (f : Listed). f.handle.file) active ∙ same;
          span = subst (λ (n : ℕ). IsSpan paths new.names n files.earlier.items 1) (sym first) (subst (λ (fs : List Listed). IsSpan paths new.names 1 fs 1) (sym earlier) refl);
          kept = subst (λ (n : ℕ). AllKept F paths n new files.recycled.items) (sym first) (subst (AllKept F paths 1 new) (sym recycled) kept_new);
        },
        absent,
        subst (λ (f : Listed). BeginsQueueBy (path_of paths f) head f.handle files.writer old new) (sym active)
            (subst (λ (p : List ℕ). BeginsQueueBy p head handle files.writer old new) path_is (subst (λ (h : List ℕ). BeginsQueueBy path h handle files.writer old new) header_is calls)),
      )

  pub fails_to_begin : (kept : List Listed) (format : LogFileFormat) (directory : ℕ) (header path : List ℕ) (old new : Disk) → IsUnaligned format → header ≡ header_bytes format → path ≡ paths.numbered directory 1
      → FailsToBeginQueue F own header path old new → FailsToBeginPipe F own paths format kept old new
  fails_to_begin kept format directory header path old new has header_is path_is fails base older can =
      subst (λ (p : List ℕ). FailsToBeginQueue F own (header_bytes format) p old new) path_is (subst (λ (h : List ℕ). FailsToBeginQueue F own h path old new) header_is fails) base older (can_begin base kept format directory old has can)

-- whose refusal is told, by the header and path that were lent
pub refused_by : (kind : ErrorKind) (lent header path at : List ℕ) (old new : Disk) → lent ≡ header → path ≡ at → BeginQueueMakes path lent kind old new → BeginQueueMakes at header kind old new
refused_by kind lent header path at old new header_is path_is makes = subst (λ (p : List ℕ). BeginQueueMakes p header kind old new) path_is (subst (λ (h : List ℕ). BeginQueueMakes path h kind old new) header_is makes)

module _ {R : Type 0} (F : Format R) (own : List ℕ → Type 0) (paths : FilePaths) (lawful : IsLayout F own paths) where
  handle_of : (end : Option ℕ) (last active : Listed) → active ≡ taken_up end last → active.handle ≡ last.handle
  handle_of end last active is = ap (λ (f : Listed). f.handle) is ∙ taken_handle end last

  format_of : (end : Option ℕ) (last active : Listed) → active ≡ taken_up end last → active.format ≡ (taken_up end last).format
  format_of end last active is = ap (λ (f : Listed). f.format) is

  -- the same by the file as it is taken up
  pub takes_up_as : (earlier : List Listed) (last active : Listed) (end : Option ℕ) (kept : List Listed) (header : List ℕ) (files : PipeFiles) (old new : Disk) → IsSound old → active ≡ taken_up end last → IsUnaligned active.format → header ≡ header_bytes active.format
      → IsListedAs earlier (taken_up end last) kept files → Reopens F own active.handle end header files.writer old new → TouchesOnly active.handle.file old new → ReopensBy active.handle end header files.writer old new
      → TakesUpFound F own paths earlier last end kept files old new
  takes_up_as earlier last active end kept header files old new sound is has spelled listed reopens only calls =
      takes_up F own paths lawful earlier last end kept header files old new sound (subst IsUnaligned (format_of end last active is) has) (spelled ∙ ap header_bytes (format_of end last active is)) listed
      (subst (λ (h : Handle). Reopens F own h end header files.writer old new) (handle_of end last active is) reopens) (subst (λ (h : Handle). TouchesOnly h.file old new) (handle_of end last active is) only)
      (subst (λ (h : Handle). ReopensBy h end header files.writer old new) (handle_of end last active is) calls)

  pub fails_to_take_up_as : (earlier : List Listed) (last active : Listed) (end : Option ℕ) (kept : List Listed) (header : List ℕ) (kind : ErrorKind) (old new : Disk) → active ≡ taken_up end last → IsUnaligned active.format → header ≡ header_bytes active.format
      → FailsToReopen F own active.handle end header old new → TouchesOnly active.handle.file old new → ReopenMakes active.handle end header kind old new
      → ReopenMakes last.handle end (header_bytes (taken_up end last).format) kind old new × FailsToTakeUpFound F own paths earlier last end kept old new
  fails_to_take_up_as earlier last active end kept header kind old new is has spelled fails only makes =
      let spelled_is = spelled ∙ ap header_bytes (format_of end last active is) in (
        subst (λ (h : Handle). ReopenMakes h end (header_bytes (taken_up end last).format) kind old new) (handle_of end last active is) (subst (λ (h : List ℕ). ReopenMakes active.handle end h kind old new) spelled_is makes),
        fails_to_take_up F own paths lawful earlier last end kept header old new (subst IsUnaligned (format_of end last active is) has) spelled_is
            (subst (λ (h : Handle). FailsToReopen F own h end header old new) (handle_of end last active is) fails) (subst (λ (h : Handle). TouchesOnly h.file old new) (handle_of end last active is) only),
      )

-- what was found had a last file
pub opens_found : {R : Type 0} (F : Format R) (own : List ℕ → Type 0) (paths : FilePaths) (begin : NewFiles) (found : FoundFiles) (earlier : List Listed) (last : Listed) (result : Result PipeFiles Error) (old new : Disk) → found.files.items ≡ earlier ++ last ∷ []
    → IfOk result (λ files. TakesUpFound F own paths earlier last found.end found.recycled.items files old new) → IfOk result (IsListedAs earlier (taken_up found.end last) found.recycled.items) → IfOk result (λ files. OpensPipe F own paths begin found files old new)
opens_found F own paths begin found earlier last (Ok files) old new split takes listed = takes_up_case earlier last split takes listed
opens_found F own paths begin found earlier last (Err e) old new split takes listed = tt

pub leaves_found : {R : Type 0} (F : Format R) (own : List ℕ → Type 0) (paths : FilePaths) (begin : NewFiles) (found : FoundFiles) (earlier : List Listed) (last : Listed) (result : Result PipeFiles Error) (old new : Disk) → found.files.items ≡ earlier ++ last ∷ []
    → IfErr result (λ error. TakeUpLeaves F own paths earlier last found.end found.recycled.items error old new) → IfErr result (λ error. OpenLeaves F own paths begin found error old new)
leaves_found F own paths begin found earlier last (Ok files) old new split leaves = tt
leaves_found F own paths begin found earlier last (Err e) old new split leaves = not_taken_up earlier last split leaves
