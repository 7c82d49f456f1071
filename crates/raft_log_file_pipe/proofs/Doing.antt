-- What a call does, by the files as they are listed and the bytes and paths that were lent.
use Rattle.std.specs.Prelude.{Result, Ok, Err}
use Rattle.std.specs.Result.{IfErr, IfOk, OnOk}
use Rattle.std.specs.declared.io.ErrorKind.{ErrorKind}
use Rattle.std.proofs.Common.{◌≡◌, inl, inr, ℕ, suc, Option, Some, None, List, [], ◌∷◌, ◌++◌, drop, length, false, refl, sym, ◌∙◌, ap, subst, arith}
use Rattle.raft_log_fs.specs.Disk.{Disk}
use Rattle.raft_log_fs.specs.Calls.{Creates, Renames}
use Rattle.raft_log_fs.specs.Exits.{FailsToCreate, FailsToRename}
use Rattle.raft_log_fs.specs.Reading.{IsOpened}
use Rattle.raft_log_fs.specs.declared.handle.Handle.{Handle}
use Rattle.raft_log_fs.specs.declared.handle.Permission.TheVariants.{ReadWrite}
use Rattle.raft_log_record_base.specs.declared.errors.Error.{Error}
use Rattle.raft_log_record_base.specs.declared.errors.Error.TheVariants as errors
use Rattle.raft_log_file_format.specs.Header.{header_bytes}
use Rattle.raft_log_file_format.specs.Name.{IsNameRefusal}
use Rattle.raft_log_file_format.specs.declared.header.LogFileFormat.{LogFileFormat}
use Rattle.raft_log_file_writer.specs.declared.writer.LogFileWriter.{LogFileWriter}
use Rattle.raft_log_active_file.specs.Layout.{FilePaths, path_of, plain_place}
use Rattle.raft_log_active_file.specs.Opening.{BeginsQueueBy}
use Rattle.raft_log_active_file.specs.Rotation.{RotatesBy, RotationMakes}
use Rattle.raft_log_active_file.specs.TakingUp.{ReopensBy}
use Rattle.raft_log_file_pipe.specs.declared.pipe_files.PipeFiles.{PipeFiles}
use Rattle.raft_log_file_pipe.specs.declared.found_files.FoundFiles.{FoundFiles}
use Rattle.raft_log_file_pipe.specs.Files.{Listed}
use Rattle.raft_log_file_pipe.specs.Calls.{TurnsBy, TurnsNot, next_path}
use Rattle.raft_log_file_pipe.specs.Exits.{IsTurned, SameFiles, StaysClosed}
use Rattle.raft_log_file_pipe.specs.Opening.{IsListedAs, taken_up}
use Rattle.raft_log_file_pipe.specs.Doing.{FailsToTurnBy, OldestIsFar, OpensPipeBy, TurnsPipeBy}
use Rattle.raft_log_file_pipe.specs.Doing.OpensPipeBy.{takes_up as takes_up_case}
use Rattle.raft_log_file_pipe.proofs.Lists.{path_numbered}
use Rattle.raft_log_file_pipe.proofs.Turning.{IsTurnedTo, same_then, turned_same, turned_over, turned_new}

-- A rotation.

same_files : (files : PipeFiles) → SameFiles files files
same_files files = record { first = refl; earlier = refl; active = refl; writer = refl; recycled = refl }

turned_as : (format : LogFileFormat) (before after : PipeFiles) (next : Listed) → next.seq ≡ suc before.active.seq → next.format ≡ format → IsTurnedTo next before after → IsTurned format before after
turned_as format before after next number formed turns = record {
  first = turns.first;
  earlier = turns.earlier;
  number = ap (λ (f : Listed). f.seq) turns.active ∙ number;
  format_is = ap (λ (f : Listed). f.format) turns.active ∙ formed;
  recycled = turns.recycled;
}

-- over the oldest of the files kept for use
pub turns_over : (paths : FilePaths) (old new : Disk) (before after : PipeFiles) (kept next : Listed) (from to lent : List ℕ) (format : LogFileFormat) (handle : Handle) → from ≡ path_of paths kept → to ≡ path_of paths next → lent ≡ header_bytes format
    → before.recycled.items ≡ kept ∷ drop 1 before.recycled.items → IsOpened from ReadWrite handle old → next.seq ≡ suc before.active.seq → next.format ≡ format → next.reserved ≡ false → next.handle ≡ handle → IsTurnedTo next before after
    → RotatesBy before.writer lent (λ named. Renames from to) handle after.writer old new → TurnsPipeBy paths format before after old new
turns_over paths old new before after kept next from to lent format handle from_is to_is header_is list opened number formed listed itself turns calls =
    let header = header_bytes format in
    let made = subst (λ (h : List ℕ). RotatesBy before.writer h (λ named. Renames (path_of paths kept) (path_of paths next)) handle after.writer old new) header_is
    (subst (λ (p : List ℕ). RotatesBy before.writer lent (λ named. Renames p (path_of paths next)) handle after.writer old new) from_is
    (subst (λ (p : List ℕ). RotatesBy before.writer lent (λ named. Renames from p) handle after.writer old new) to_is calls)) in
    record {
      turned = turned_as format before after next number formed turns;
      numbered = ap (λ (f : Listed). f.reserved) turns.active ∙ listed;
      calls = subst (λ (fs : List Listed). TurnsBy paths header fs before.writer after.active after.writer old new) (sym list)
          (turned_over paths old new after.active kept next (drop 1 before.recycled.items) header handle before.writer after.writer turns.active itself (subst (λ (p : List ℕ). IsOpened p ReadWrite handle old) from_is opened) made);
    }

-- into a new one
pub turns_new : (paths : FilePaths) (old new : Disk) (before after : PipeFiles) (next : Listed) (to lent : List ℕ) (format : LogFileFormat) (handle : Handle) → to ≡ path_of paths next → lent ≡ header_bytes format
    → before.recycled.items ≡ [] → next.seq ≡ suc before.active.seq → next.format ≡ format → next.reserved ≡ false → next.handle ≡ handle → IsTurnedTo next before after
    → RotatesBy before.writer lent (λ made. Creates to made.file) handle after.writer old new → TurnsPipeBy paths format before after old new
turns_new paths old new before after next to lent format handle to_is header_is list number formed listed itself turns calls =
    let header = header_bytes format in
    let made = subst (λ (h : List ℕ). RotatesBy before.writer h (λ made. Creates (path_of paths next) made.file) handle after.writer old new) header_is
    (subst (λ (p : List ℕ). RotatesBy before.writer lent (λ made. Creates p made.file) handle after.writer old new) to_is calls) in
    record {
      turned = turned_as format before after next number formed turns;
      numbered = ap (λ (f : Listed). f.reserved) turns.active ∙ listed;
      calls = subst (λ (fs : List Listed). TurnsBy paths header fs before.writer after.active after.writer old new) (sym list)
          (turned_new paths old new after.active next header handle before.writer after.writer turns.active itself made);
    }

-- the next number's path
next_at : (paths : FilePaths) (before : PipeFiles) (next : Listed) → next.seq ≡ suc before.active.seq → next.reserved ≡ false → path_of paths next ≡ paths.numbered next.path_id (suc before.active.seq)
next_at paths before next number listed = path_numbered paths next listed ∙ ap (paths.numbered next.path_id) number

-- rotations whose calls were refused
pub over_not : (paths : FilePaths) (old new : Disk) (before : PipeFiles) (kept next : Listed) (from to lent : List ℕ) (format : LogFileFormat) (kind : ErrorKind) → from ≡ path_of paths kept → to ≡ path_of paths next → lent ≡ header_bytes format
    → before.recycled.items ≡ kept ∷ drop 1 before.recycled.items → next.seq ≡ suc before.active.seq → next.reserved ≡ false → next.path_id ≡ plain_place (length paths.directories) kept.path_id
    → RotationMakes before.writer lent (FailsToRename from to) (λ named. Renames from to) kind old new → TurnsNot paths (header_bytes format) before.recycled.items before.writer (suc before.active.seq) old new
over_not paths old new before kept next from to lent format kind from_is to_is header_is list number listed beside makes =
    let at : to ≡ next_path paths kept (suc before.active.seq) = to_is ∙ next_at paths before next number listed ∙ ap (λ (n : ℕ). paths.numbered n (suc before.active.seq)) beside in
    subst (λ (fs : List Listed). TurnsNot paths (header_bytes format) fs before.writer (suc before.active.seq) old new) (sym list) (inr (
      kind,
      subst (λ (h : List ℕ). RotationMakes before.writer h (FailsToRename (path_of paths kept) (next_path paths kept (suc before.active.seq))) (λ named. Renames (path_of paths kept) (next_path paths kept (suc before.active.seq))) kind old new) header_is
          (subst (λ (p : List ℕ). RotationMakes before.writer lent (FailsToRename p (next_path paths kept (suc before.active.seq))) (λ named. Renames p (next_path paths kept (suc before.active.seq))) kind old new) from_is
          (subst (λ (p : List ℕ). RotationMakes before.writer lent (FailsToRename from p) (λ named. Renames from p) kind old new) at makes)),
    ))

pub new_not : (paths : FilePaths) (old new : Disk) (before : PipeFiles) (next : Listed) (to lent : List ℕ) (format : LogFileFormat) (kind : ErrorKind) → to ≡ path_of paths next → lent ≡ header_bytes format → before.recycled.items ≡ []
    → next.seq ≡ suc before.active.seq → next.reserved ≡ false → RotationMakes before.writer lent (FailsToCreate to) (λ made. Creates to made.file) kind old new
    → TurnsNot paths (header_bytes format) before.recycled.items before.writer (suc before.active.seq) old new
new_not paths old new before next to lent format kind to_is header_is list number listed makes =
    let at = to_is ∙ next_at paths before next number listed in
    subst (λ (fs : List Listed). TurnsNot paths (header_bytes format) fs before.writer (suc before.active.seq) old new) (sym list) (
      next.path_id,
      kind,
      subst (λ (h : List ℕ). RotationMakes before.writer h (FailsToCreate (paths.numbered next.path_id (suc before.active.seq))) (λ made. Creates (paths.numbered next.path_id (suc before.active.seq)) made.file) kind old new) header_is
          (subst (λ (p : List ℕ). RotationMakes before.writer lent (FailsToCreate p) (λ made. Creates p made.file) kind old new) at makes),
    )

-- one that never began, as the file that was to be used wasn't opened, or has no name
pub closed_not : (paths : FilePaths) (d : Disk) (before : PipeFiles) (kept : Listed) (path : List ℕ) (format : LogFileFormat) (error : Error) → path ≡ path_of paths kept → before.recycled.items ≡ kept ∷ drop 1 before.recycled.items → StaysClosed path d error
    → FailsToTurnBy paths format before before error d d
closed_not paths d before kept path format errors.Memory is list why = (same_files before, refl)
closed_not paths d before kept path format errors.Failed is list why = (
  record { first = refl; earlier = refl; active = refl; recycled = refl },
  subst (λ (fs : List Listed). TurnsNot paths (header_bytes format) fs before.writer (suc before.active.seq) d d) (sym list) (inl (subst (λ (p : List ℕ). StaysClosed p d errors.Failed) is why, refl)),
)
closed_not paths d before kept path format _ is list why = absurd why

pub unnamed_not : (paths : FilePaths) (d : Disk) (before : PipeFiles) (kept : Listed) (format : LogFileFormat) (error : Error) → before.recycled.items ≡ kept ∷ drop 1 before.recycled.items → IsNameRefusal kept.seq error → FailsToTurnBy paths format before before error d d
unnamed_not paths d before kept format errors.Memory list why = (same_files before, refl)
unnamed_not paths d before kept format errors.NumberRange list why = (inr (subst OldestIsFar (sym list) why), same_files before, refl)
unnamed_not paths d before kept format _ list why = absurd why

-- the same of files that are listed alike
turns_like : (paths : FilePaths) (format : LogFileFormat) (before like after : PipeFiles) (old new : Disk) → SameFiles before like → TurnsPipeBy paths format like after old new → TurnsPipeBy paths format before after old new
turns_like paths format before like after old new same turns = record {
  turned = turned_same format before like after same turns.turned;
  numbered = turns.numbered;
  calls = subst (λ (w : LogFileWriter). TurnsBy paths (header_bytes format) before.recycled.items w after.active after.writer old new) same.writer
      (subst (λ (fs : List Listed). TurnsBy paths (header_bytes format) fs like.writer after.active after.writer old new) same.recycled turns.calls);
}

fails_like : (paths : FilePaths) (format : LogFileFormat) (before like after : PipeFiles) (error : Error) (old new : Disk) → SameFiles before like → FailsToTurnBy paths format like after error old new → FailsToTurnBy paths format before after error old new
fails_like paths format before like after errors.Memory old new same (then, is) = (same_then before like after same then, is)
fails_like paths format before like after errors.NumberRange old new same (why, then, is) = (
  elim why [
    | inl far ↦ (let active = ap (λ (f : Listed). f.seq) same.active in inl (omega (arith, far, active)))
    | inr far ↦ inr (subst OldestIsFar same.recycled far)
  ],
  same_then before like after same then,
  is,
)
fails_like paths format before like after errors.Failed old new same (then, calls) = (
  record { first = then.first ∙ same.first; earlier = then.earlier ∙ same.earlier; active = then.active ∙ same.active; recycled = then.recycled ∙ same.recycled },
  subst (λ (f : Listed). TurnsNot paths (header_bytes format) before.recycled.items before.writer (suc f.seq) old new) same.active
      (subst (λ (w : LogFileWriter). TurnsNot paths (header_bytes format) before.recycled.items w (suc like.active.seq) old new) same.writer
      (subst (λ (fs : List Listed). TurnsNot paths (header_bytes format) fs like.writer (suc like.active.seq) old new) same.recycled calls)),
)
fails_like paths format before like after _ old new same left = absurd left

pub turns_either : (result : Result (Unit {0}) Error) (paths : FilePaths) (format : LogFileFormat) (before like after : PipeFiles) (old new : Disk) → SameFiles before like → OnOk result (TurnsPipeBy paths format like after old new)
    → OnOk result (TurnsPipeBy paths format before after old new)
turns_either (Ok v) paths format before like after old new same is = turns_like paths format before like after old new same is
turns_either (Err e) paths format before like after old new same is = tt

pub fails_either : (result : Result (Unit {0}) Error) (paths : FilePaths) (format : LogFileFormat) (before like after : PipeFiles) (old new : Disk) → SameFiles before like → IfErr result (λ e. FailsToTurnBy paths format like after e old new)
    → IfErr result (λ e. FailsToTurnBy paths format before after e old new)
fails_either (Ok v) paths format before like after old new same is = tt
fails_either (Err e) paths format before like after old new same is = fails_like paths format before like after e old new same is

-- An open.

pub begins_by : (paths : FilePaths) (files : PipeFiles) (first : Listed) (path lent header : List ℕ) (old new : Disk) → files.active ≡ first → path ≡ path_of paths first → lent ≡ header → BeginsQueueBy path lent first.handle files.writer old new
    → BeginsQueueBy (path_of paths files.active) header files.active.handle files.writer old new
begins_by paths files first path lent header old new is path_is header_is calls =
    subst (λ (f : Listed). BeginsQueueBy (path_of paths f) header f.handle files.writer old new) (sym is)
    (subst (λ (p : List ℕ). BeginsQueueBy p header first.handle files.writer old new) path_is (subst (λ (h : List ℕ). BeginsQueueBy path h first.handle files.writer old new) header_is calls))

pub handle_stays : (end : Option ℕ) (last : Listed) → (taken_up end last).handle ≡ last.handle
handle_stays (Some end) last = refl
handle_stays None last = refl

pub reopens_by : (end : Option ℕ) (last active : Listed) (lent : List ℕ) (writer : LogFileWriter) (old new : Disk) → active ≡ taken_up end last → lent ≡ header_bytes active.format → ReopensBy active.handle end lent writer old new
    → ReopensBy last.handle end (header_bytes (taken_up end last).format) writer old new
reopens_by end last active lent writer old new is spelled calls =
    subst (λ (h : Handle). ReopensBy h end (header_bytes (taken_up end last).format) writer old new) (ap (λ (f : Listed). f.handle) is ∙ handle_stays end last)
    (subst (λ (h : List ℕ). ReopensBy active.handle end h writer old new) (spelled ∙ ap (λ (f : Listed). header_bytes f.format) is) calls)

-- what was found had a last file
pub opens_by : (paths : FilePaths) (format : LogFileFormat) (found : FoundFiles) (earlier : List Listed) (last : Listed) (result : Result PipeFiles Error) (old new : Disk) → found.files.items ≡ earlier ++ last ∷ []
    → IfOk result (IsListedAs earlier (taken_up found.end last) found.recycled.items) → IfOk result (λ files. ReopensBy last.handle found.end (header_bytes (taken_up found.end last).format) files.writer old new)
    → IfOk result (λ files. OpensPipeBy paths format found files old new)
opens_by paths format found earlier last (Ok files) old new split listed calls = takes_up_case earlier last split listed calls
opens_by paths format found earlier last (Err e) old new split listed calls = tt
