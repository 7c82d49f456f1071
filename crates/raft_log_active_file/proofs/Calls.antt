-- The calls of a pipe on the last file of its queue, from what the writer's calls do.
use Rattle.std.specs.Prelude.{Result, Ok, Err}
use Rattle.std.specs.Result.{IfErr, OnOk, OnErr}
use Rattle.std.specs.declared.io.ErrorKind.{ErrorKind}
use Rattle.std.proofs.Common.{◌≡◌, ℕ, ◌+◌, true, Some, List, [], ◌∷◌, ◌++◌, length, drop, refl, sym, ◌∙◌, ap, subst, arith, length-append}
use Rattle.std.proofs.lemmas.List.{append-nil}
use Rattle.raft_log_fs.specs.Disk.{File, Disk, grown}
use Rattle.raft_log_fs.specs.Causes.{Fails, IsLater}
use Rattle.raft_log_fs.specs.Calls.{flushed, Changes}
use Rattle.raft_log_fs.specs.Exits.{Syncs, FailsToSync}
use Rattle.raft_log_fs.specs.Image.{IsSound}
use Rattle.raft_log_file_writer.specs.LawsChains.{Written, spelled}
use Rattle.raft_log_file_writer.specs.LogFormat.{Format, IsFormat}
use Rattle.raft_log_file_writer.specs.LogQueue.{LogFiles, HoldsLast, recent}
use Rattle.raft_log_fs.proofs.Public.{fails_after, fails_still, same_file}
use Rattle.raft_log_fs.specs.declared.handle.Handle.{Handle}
use Rattle.raft_log_file_writer.specs.Writer.{IsWritten, KeepsWritten, WritesAtPlace, FailsToWriteAt, WritesNext, FailsToWriteNext, CutsBehind, ends_there, is_cut, Closes, FailsToClose, reach, TakesUp, goes_on, begins as writes_header, FailsToTakeUp, not_measured, not_begun, CanBeTakenUp, IsTakenUp, taken_up}
use Rattle.raft_log_file_writer.specs.declared.writer.LogFileWriter.{LogFileWriter}
use Rattle.raft_log_active_file.specs.Queue.{whole, with_more, with_room, settled, begun}
use Rattle.raft_log_active_file.specs.States.{IsNew}
use Rattle.raft_log_active_file.specs.Standing.{Names, HaveOneName, OwnsPaths, Stands}
use Rattle.raft_log_active_file.proofs.FileSteps.{active_front, whole_more, new_holds}
use Rattle.raft_log_active_file.proofs.Standing.{have_one_name, same_files, stands_weaker}
use Rattle.raft_log_active_file.specs.LastFile.{IsActiveTo, IsFrontTo, IsPastTo, IsNewTo, IsHeadedTo, HasRoom}
use Rattle.raft_log_active_file.specs.Exits.{IsOpen, AppendsRecord, FailsToAppend, SyncsAll, FailsToSyncAll, Finishes, FailsToFinish, Begins, FailsToBegin}
use Rattle.raft_log_active_file.specs.declared.last_file.WriteFault.TheVariants.{CutBack, Failed}
use Rattle.raft_log_active_file.proofs.Writing.{record_stands, refused_stands, closed_stands, unclosed_stands, settled_stands, roomy_stands, synced_stands, unsynced_stands, no_room, header_stands, headless_stands, begun_stands, unbegun_stands}

-- a writer that has closed its file stands where it stood
closed_at : (before after : LogFileWriter) (old new : Disk) → Closes before after old new → (after.handle ≡ before.handle) × (after.written ≡ before.written)
closed_at before after old new closes = cut_at closes.cuts
  where
    cut_at : CutsBehind before after old closes.between → (after.handle ≡ before.handle) × (after.written ≡ before.written)
    cut_at (ends_there short same none) = (ap (λ (w : LogFileWriter). w.handle) same, ap (λ (w : LogFileWriter). w.written) same)
    cut_at (is_cut longer shortens at) = (at.handle_is, at.written_is)

module _ {R : Type 0} (F : Format R) (own : List ℕ → Type 0) (lawful : IsFormat F) (owns : OwnsPaths F own) where
  -- what stands in the file, in the writer's words
  pub is_written : (base : Disk) (writer : LogFileWriter) (q : LogFiles R) (path : List ℕ) (N : Names) (d : Disk) → IsOpen F own base writer q path N d → IsWritten writer (whole q) d
  is_written base writer q path N d is = (let s = is.stands in record {
    permitted = is.permitted;
    offset = is.written;
    file = s.file.file;
    is = s.file.is;
    behind = drop (length (whole q)) q.stale;
    content = s.file.has.active.all;
    end = s.file.has.ends;
  })

  -- no record more is none
  with_none : (q : LogFiles R) → with_more [] q ≡ q
  with_none q = λ i. record q { pending = append-nil q.pending i }

  whole_settled : (q : LogFiles R) → whole (settled q) ≡ whole q
  whole_settled q = ap (λ (ws : List (Written R)). q.header ++ spelled ws) (append-nil (recent q))

  -- A record was written.
  pub appends : (before after : LogFileWriter) (bytes : List ℕ) (target : ℕ) (old new : Disk) → IsSound old → WritesNext before after bytes target old new → AppendsRecord F own bytes before after old new
  appends before after bytes target old new sound next base q w path N framed same was =
      let s = was.stands in
      let one = have_one_name old N sound s.names in
      let moved = next.moved in
      let to = reach before.capacity (length (whole q) + length w.bytes) target in
      let calls : WritesAtPlace before.handle (length (whole q)) before.capacity w.bytes target old new =
      subst (λ (n : ℕ). WritesAtPlace before.handle n before.capacity w.bytes target old new) was.written (subst (λ (b : List ℕ). WritesAtPlace before.handle before.written before.capacity b target old new) (sym same) next.calls) in
      let capacity : after.capacity ≡ to = moved.capacity_is ∙ (λ i. reach before.capacity (was.written i + length (sym same i)) target) in
      let written = record_stands F own base lawful owns before.handle before.capacity target q w path N old new one framed calls s in
      let (room, stands) = roomy_stands F own base lawful owns (IsActiveTo F to) (with_more (w ∷ []) q) path before.handle.file N new
      (same_files F own base q (with_more (w ∷ []) q) path before.handle.file (HasRoom (IsActiveTo F to) (with_more (w ∷ []) q)) N new refl refl refl written) in (
        room,
        record {
          permitted = ap (λ h. h.permission) moved.handle_is ∙ was.permitted;
          written = moved.written_is ∙ (λ i. was.written i + length (sym same i)) ∙ sym (ap length (whole_more F (with_room room q) (w ∷ [])) ∙ length-append (whole q) (w.bytes ++ []) ∙ ap (λ (b : List ℕ). length (whole q) + length b) (append-nil w.bytes));
          stands = subst (λ h. Stands F own base (with_more (w ∷ []) (with_room room q)) path h.file (IsActiveTo F after.capacity (with_more (w ∷ []) (with_room room q))) N new) (sym moved.handle_is)
              (subst (λ (n : ℕ). Stands F own base (with_more (w ∷ []) (with_room room q)) path before.handle.file (IsActiveTo F n (with_more (w ∷ []) (with_room room q))) N new) (sym capacity) stands);
        },
      )

  -- It was refused: what stands before the file is cut back.
  to_cut : (base : Disk) (before after : LogFileWriter) (q : LogFiles R) (w : Written R) (path : List ℕ) (N : Names) (bytes : List ℕ) (target : ℕ) (error : ErrorKind) (old new : Disk) → HaveOneName N
      → F.IsFrame q.last q.header w.bytes w.value → w.bytes ≡ bytes → IsOpen F own base before q path N old → FailsToWriteNext before after bytes target error old new
      → (room : ℕ) × Stands F own base (with_room room q) path after.handle.file (IsFrontTo F after.capacity (with_room room q) (w ∷ [])) N new
  to_cut base before after q w path N bytes target error old new one framed same was next =
      let stays = next.stays in
      let to = reach before.capacity (length (whole q) + length w.bytes) target in
      let calls : FailsToWriteAt before.handle (length (whole q)) before.capacity w.bytes target error old new =
      subst (λ (n : ℕ). FailsToWriteAt before.handle n before.capacity w.bytes target error old new) was.written (subst (λ (b : List ℕ). FailsToWriteAt before.handle before.written before.capacity b target error old new) (sym same) next.calls) in
      let capacity : after.capacity ≡ to = stays.capacity_is ∙ (λ i. reach before.capacity (was.written i + length (sym same i)) target) in
      let left = refused_stands F own base lawful owns before.handle before.capacity target q w path N error old new one framed calls was.stands in
      let (room, stands) = roomy_stands F own base lawful owns (λ p f. IsFrontTo F to p (w ∷ []) f) q path before.handle.file N new left in (
        room,
        subst (λ h. Stands F own base (with_room room q) path h.file (IsFrontTo F after.capacity (with_room room q) (w ∷ [])) N new) (sym stays.handle_is)
            (subst (λ (n : ℕ). Stands F own base (with_room room q) path before.handle.file (IsFrontTo F n (with_room room q) (w ∷ [])) N new) (sym capacity) stands),
      )

  pub cut_back : (before middle after : LogFileWriter) (bytes : List ℕ) (target : ℕ) (error : ErrorKind) (old mid new : Disk) → IsSound old → FailsToWriteNext before middle bytes target error old mid → Closes middle after mid new
      → KeepsWritten before middle old mid → IsLater mid new → FailsToAppend F own bytes (CutBack error) before after old new
  cut_back before middle after bytes target error old mid new sound next closes kept later base q w path N framed same was =
      let one = have_one_name old N sound was.stands.names in
      let (room, stands) = to_cut base before middle q w path N bytes target error old mid one framed same was next in
      let stays = next.stays in
      let (handle, written) = closed_at middle after mid new closes in
      let at : middle.written ≡ length (whole q) = stays.written_is ∙ was.written in
      let past = closed_stands F own base lawful owns middle after (with_room room q) (w ∷ []) path N mid new one at closes stands in
      let open_again = settled_stands F own base lawful owns after.capacity (with_room room q) path middle.handle.file N new past in (
        fails_still old mid new (kept (whole q) (is_written base before q path N old was)).1 later,
        record {
          permitted = ap (λ h. h.permission) (handle ∙ stays.handle_is) ∙ was.permitted;
          written = written ∙ at ∙ sym (ap length (whole_settled q));
          stands = subst (λ h. Stands F own base (settled q) path h.file (IsActiveTo F after.capacity (settled q)) N new) (sym handle) open_again;
        },
      )

  pub not_cut_back : (before middle after : LogFileWriter) (bytes : List ℕ) (target : ℕ) (error again : ErrorKind) (old mid new : Disk) → IsSound old → FailsToWriteNext before middle bytes target error old mid → FailsToClose middle after again mid new
      → KeepsWritten before middle old mid → IsLater mid new → FailsToAppend F own bytes (Failed again) before after old new
  not_cut_back before middle after bytes target error again old mid new sound next fails kept later base q w path N framed same was =
      let one = have_one_name old N sound was.stands.names in
      let (room, stands) = to_cut base before middle q w path N bytes target error old mid one framed same was next in
      let stays = next.stays in
      let at : middle.written ≡ length (whole q) = stays.written_is ∙ was.written in
      let held = unclosed_stands F own base lawful owns middle after (with_room room q) (w ∷ []) path N again mid new one at fails stands in
      let more = with_more (w ∷ []) (with_room room q) in (
        fails_still old mid new (kept (whole q) (is_written base before q path N old was)).1 later,
        (room, subst (λ h. Stands F own base more path h.file (HoldsLast F more) N new) stays.handle_is (same_files F own base (with_room room q) more path middle.handle.file (HoldsLast F more) N new refl refl refl held)),
      )

  -- All records are synced, or not.
  pub syncs_all : (writer : LogFileWriter) (old new : Disk) → IsSound old → Changes writer.handle.file flushed old new → SyncsAll F own writer old new
  syncs_all writer old new sound syncs base q path N was =
      let one = have_one_name old N sound was.stands.names in
      record {
        permitted = was.permitted;
        written = was.written ∙ sym (ap length (ap (λ (ws : List (Written R)). q.header ++ spelled ws) (append-nil (recent q))));
        stands = synced_stands F own base lawful owns writer.handle writer.capacity q path N old new one syncs was.stands;
      }

  pub fails_to_sync_all : (writer : LogFileWriter) (error : ErrorKind) (old new : Disk) → IsSound old → FailsToSync writer.handle error old new → KeepsWritten writer writer old new → FailsToSyncAll F own writer old new
  fails_to_sync_all writer error old new sound fails kept base q path N was =
      let one = have_one_name old N sound was.stands.names in
      ((kept (whole q) (is_written base writer q path N old was)).1, unsynced_stands F own base lawful owns writer.handle writer.capacity q path N error old new one fails was.stands)

  -- The file is finished, or not.
  as_front : (base : Disk) (writer : LogFileWriter) (q : LogFiles R) (path : List ℕ) (N : Names) (d : Disk) → IsOpen F own base writer q path N d → Stands F own base q path writer.handle.file (IsFrontTo F writer.capacity q []) N d
  as_front base writer q path N d was =
      stands_weaker F own base q path writer.handle.file (IsActiveTo F writer.capacity q) (IsFrontTo F writer.capacity q []) N d (λ file is. record { front = active_front F q [] file tt is.active; ends = is.ends }) was.stands

  pub finishes : (before after : LogFileWriter) (old new : Disk) → IsSound old → Closes before after old new → Finishes F own before after old new
  finishes before after old new sound closes base q path N was =
      let one = have_one_name old N sound was.stands.names in
      let (handle, written) = closed_at before after old new closes in
      let past = closed_stands F own base lawful owns before after q [] path N old new one was.written closes (as_front base before q path N old was) in
      record {
        permitted = ap (λ h. h.permission) handle ∙ was.permitted;
        written = written ∙ was.written;
        stands = subst (λ h. Stands F own base q path h.file (IsPastTo F after.capacity q) N new) (sym handle) past;
      }

  pub fails_to_finish : (before after : LogFileWriter) (error : ErrorKind) (old new : Disk) → IsSound old → FailsToClose before after error old new → KeepsWritten before after old new → FailsToFinish F own before old new
  fails_to_finish before after error old new sound fails kept base q path N was =
      let one = have_one_name old N sound was.stands.names in
      let held = unclosed_stands F own base lawful owns before after q [] path N error old new one was.written fails (as_front base before q path N old was) in (
        (kept (whole q) (is_written base before q path N old was)).1,
        subst (λ (p : LogFiles R). Stands F own base q path before.handle.file (HoldsLast F p) N new) (with_none q) held,
      )

  -- Either, by the answer.

  pub synced_either : (result : Result (Unit {0}) ErrorKind) (writer : LogFileWriter) (old new : Disk) → IsSound old → OnOk result (Syncs writer.handle old new) → OnOk result (SyncsAll F own writer old new)
  synced_either (Ok v) writer old new sound ok = syncs_all writer old new sound ok
  synced_either (Err e) writer old new sound ok = tt

  pub unsynced_either : (result : Result (Unit {0}) ErrorKind) (writer : LogFileWriter) (old new : Disk) → IsSound old → IfErr result (λ e. FailsToSync writer.handle e old new) → OnErr result (KeepsWritten writer writer old new)
      → OnErr result (FailsToSyncAll F own writer old new)
  unsynced_either (Ok v) writer old new sound err kept = tt
  unsynced_either (Err e) writer old new sound err kept = fails_to_sync_all writer e old new sound err kept

  pub finished_either : (result : Result (Unit {0}) ErrorKind) (before after : LogFileWriter) (old new : Disk) → IsSound old → OnOk result (Closes before after old new) → OnOk result (Finishes F own before after old new)
  finished_either (Ok v) before after old new sound ok = finishes before after old new sound ok
  finished_either (Err e) before after old new sound ok = tt

  pub unfinished_either : (result : Result (Unit {0}) ErrorKind) (before after : LogFileWriter) (old new : Disk) → IsSound old → IfErr result (λ e. FailsToClose before after e old new) → OnErr result (KeepsWritten before after old new)
      → OnErr result (FailsToFinish F own before old new)
  unfinished_either (Ok v) before after old new sound err kept = tt
  unfinished_either (Err e) before after old new sound err kept = fails_to_finish before after e old new sound err kept

  -- The last file gets its header, or not.

  -- as long as it is measured
  measured : (base : Disk) (handle : Handle) (q : LogFiles R) (path : List ℕ) (N : Names) (d : Disk) (file : File) → d.files handle.file ≡ Some file → Stands F own base q path handle.file (IsNew F q) N d
      → Stands F own base q path handle.file (IsNewTo F (length file.content) q) N d
  measured base handle q path N d file is s =
      (let same : s.file.file ≡ file = same_file d handle.file s.file.file file s.file.is is in
      record {
        names = s.names;
        bound = s.bound;
        at = s.at;
        named = s.named;
        alone = s.alone;
        none = s.none;
        headed = s.headed;
        places = s.places;
        file = record { file = s.file.file; is = s.file.is; has = record { new = s.file.has; ends = omega (arith, ap (λ (f : File). length f.content) same) } };
        older = s.older;
        single = s.single;
        others = s.others;
      })

  pub begins : (writer : LogFileWriter) (handle : Handle) (header : List ℕ) (old mid new : Disk) → IsSound old → TakesUp handle header true writer old mid → Changes writer.handle.file flushed mid new → Begins F own handle header writer old new
  begins writer handle header old mid new sound (goes_on file is enough same at) syncs base q stale path N (permitted, s) = absurd (cc enough)
  begins writer handle header old mid new sound (writes_header file is short writes at) syncs base q stale path N (permitted, s) =
      let b = begun header stale q in
      let to = reach (length file.content) (length header) 0 in
      let one = have_one_name old N sound s.names in
      let headed = header_stands F own base lawful owns handle (length file.content) header stale q path N old mid one writes (measured base handle b path N old file is s) in
      let (room, stands) = roomy_stands F own base lawful owns (IsHeadedTo F to) b path handle.file N mid headed in
      let here : Changes handle.file flushed mid new = subst (λ (h : Handle). Changes h.file flushed mid new) at.handle_is syncs in
      let active = begun_stands F own base lawful owns handle to header (grown room stale) q path N mid new one here stands in (
        room,
        record {
          permitted = ap (λ (h : Handle). h.permission) at.handle_is ∙ permitted;
          written = at.written_is ∙ sym (ap length (append-nil header));
          stands = subst (λ (h : Handle). Stands F own base (with_room room b) path h.file (IsActiveTo F writer.capacity (with_room room b)) N new) (sym at.handle_is)
              (subst (λ (n : ℕ). Stands F own base (with_room room b) path handle.file (IsActiveTo F n (with_room room b)) N new) (sym at.capacity_is) active);
        },
      )

  pub fails_to_take_up : (handle : Handle) (header : List ℕ) (error : ErrorKind) (old new : Disk) → IsSound old → FailsToTakeUp handle header true error old new → (CanBeTakenUp handle old → Fails old new) → FailsToBegin F own handle header old new
  fails_to_take_up handle header error old new sound fails cause base q stale path N (permitted, s) =
      let b = begun header stale q in
      let one = have_one_name old N sound s.names in
      (cause (record { permitted = permitted; there = λ gone. (let there = s.file.is in cc (gone, there)) }), left one fails)
    where
      b : LogFiles R
      b = begun header stale q

      left : HaveOneName N → FailsToTakeUp handle header true error old new → (room : ℕ) × Stands F own base (with_room room (begun header stale q)) path handle.file (HoldsLast F (with_room room (begun header stale q))) N new
      left one (not_measured why same) = (
        0,
        subst (Stands F own base (with_room 0 (begun header stale q)) path handle.file (HoldsLast F (with_room 0 (begun header stale q))) N) (sym same)
            (subst (λ (p : LogFiles R). Stands F own base p path handle.file (HoldsLast F p) N old) (sym (no_room F (begun header stale q)))
            (stands_weaker F own base (begun header stale q) path handle.file (IsNew F (begun header stale q)) (HoldsLast F (begun header stale q)) N old (λ file was. new_holds F header stale q file was) s)),
      )
      left one (not_begun file is short writes) =
          roomy_stands F own base lawful owns (HoldsLast F) (begun header stale q) path handle.file N new
          (headless_stands F own base lawful owns handle (length file.content) header stale q path N error old new one writes (measured base handle (begun header stale q) path N old file is s))

  pub fails_to_sync_header : (writer : LogFileWriter) (handle : Handle) (header : List ℕ) (error : ErrorKind) (old mid new : Disk) → IsSound old → TakesUp handle header true writer old mid → FailsToSync writer.handle error mid new
      → IsTakenUp handle header true writer old mid → KeepsWritten writer writer mid new → IsLater old mid → FailsToBegin F own handle header old new
  fails_to_sync_header writer handle header error old mid new sound (goes_on file is enough same at) fails taken kept later base q stale path N (permitted, s) = absurd (cc enough)
  fails_to_sync_header writer handle header error old mid new sound (writes_header file is short writes at) fails taken kept later base q stale path N (permitted, s) =
      let b = begun header stale q in
      let to = reach (length file.content) (length header) 0 in
      let one = have_one_name old N sound s.names in
      let headed = header_stands F own base lawful owns handle (length file.content) header stale q path N old mid one writes (measured base handle b path N old file is s) in
      let (room, stands) = roomy_stands F own base lawful owns (IsHeadedTo F to) b path handle.file N mid headed in
      let here : FailsToSync handle error mid new = subst (λ (h : Handle). FailsToSync h error mid new) at.handle_is fails in
      let held = unbegun_stands F own base lawful owns handle to header (grown room stale) q path N error mid new one here stands in
      (fails_after old mid new later (kept (taken_up header true file.content) (taken file permitted is)).1, (room, held))
