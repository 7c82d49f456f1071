-- Which names change where a rotation is refused: none but those that its calls on names are about.
use Rattle.std.specs.Prelude.{Result, Err}
use Rattle.std.specs.declared.io.ErrorKind.{ErrorKind}
use Rattle.std.specs.Map.{update}
use Rattle.std.specs.Str.{bytes_eq}
use Rattle.std.proofs.Common.{◌≡◌, ℕ, true, Some, None, List, refl, ◌∙◌, ap, inl, inr}
use Rattle.raft_log_fs.specs.Disk.{Disk, ShortenedTo}
use Rattle.raft_log_fs.specs.Arguments.{WrongCreate, WrongHandle, WrongRename, WrongWriter}
use Rattle.raft_log_fs.specs.Calls.{Creates, Renames}
use Rattle.raft_log_fs.specs.Exits.{FailsToCreate, FailsToRename, FailsToSync}
use Rattle.raft_log_fs.specs.declared.handle.Handle.{Handle}
use Rattle.raft_log_fs.proofs.Public.{kept_create, kept_rename, name_apart, touches_change, touches_sync, IsCalm}
use Rattle.raft_log_file_writer.specs.Writer.{Closes, FailsToClose, FailsToTakeUp, TakesUp}
use Rattle.raft_log_file_writer.specs.Writer.FailsToClose.{not_cut, not_synced}
use Rattle.raft_log_file_writer.specs.Writer.FailsToTakeUp.{not_measured, not_begun}
use Rattle.raft_log_file_writer.specs.Writer.TakesUp.{goes_on, begins}
use Rattle.raft_log_file_writer.specs.declared.writer.LogFileWriter.{LogFileWriter}
use Rattle.raft_log_file_writer.proofs.Public.{cut_touches, touches_next, touches_refused}
use Rattle.raft_log_active_file.specs.Standing.{Names}
use Rattle.raft_log_active_file.specs.Exits.{BeginMakes}
use Rattle.raft_log_active_file.specs.Rotation.{RotationMakes}
use Rattle.raft_log_active_file.specs.Rotation.RotationMakes.{unfinished, unnamed, unbegun}

-- all names but these two are as they were
abbrev pub NamesStayBut : List ℕ → List ℕ → Disk → Disk → Type 0
NamesStayBut from to old new = (path : List ℕ) → (path ≡ from → ⊥) → (path ≡ to → ⊥) → new.names path ≡ old.names path

-- Calls on one file.

synced_names : (handle : Handle) (error : ErrorKind) (old new : Disk) → FailsToSync handle error old new → new.names ≡ old.names
synced_names handle error old new fails = (touches_sync {T = Unit {0}} (WrongHandle handle old) (Err error) handle.file tt fails).names

closes_names : (before after : LogFileWriter) (old new : Disk) → Closes before after old new → new.names ≡ old.names
closes_names before after old new closes = ap (λ (d : Disk). d.names) closes.syncs.done ∙ (cut_touches before after old closes.between closes.cuts).names

not_closed_names : (before after : LogFileWriter) (error : ErrorKind) (old new : Disk) → FailsToClose before after error old new → new.names ≡ old.names
not_closed_names before after error old new (not_cut fails) = (touches_change {T = Unit {0}} (WrongWriter before.handle old) (Err error) before.handle.file (ShortenedTo before.written) tt fails.fails).names
not_closed_names before after error old new (not_synced between cuts fails) = synced_names before.handle error between new fails ∙ (cut_touches before after old between cuts).names

taken_up_names : (handle : Handle) (header : List ℕ) (writer : LogFileWriter) (old new : Disk) → TakesUp handle header true writer old new → new.names ≡ old.names
taken_up_names handle header writer old new (goes_on file is needs same at) = ap (λ (d : Disk). d.names) same
taken_up_names handle header writer old new (begins file is needs calls at) = (touches_next handle 0 _ header 0 old new calls).names

not_taken_up_names : (handle : Handle) (header : List ℕ) (error : ErrorKind) (old new : Disk) → FailsToTakeUp handle header true error old new → new.names ≡ old.names
not_taken_up_names handle header error old new (not_measured why same) = ap (λ (d : Disk). d.names) same
not_taken_up_names handle header error old new (not_begun file is needs calls) = (touches_refused handle 0 _ header 0 old new error calls).names

begin_names : (handle : Handle) (header : List ℕ) (error : ErrorKind) (old new : Disk) → BeginMakes handle header error old new → new.names ≡ old.names
begin_names handle header error old new makes = elim makes [
  | inl not_taken ↦ not_taken_up_names handle header error old new not_taken
  | inr unsynced ↦
      (let (writer, between, taken, fails) = unsynced in synced_names writer.handle error between new fails ∙ taken_up_names handle header writer old between taken)
]

-- Calls on names.

stay_calm : (from to : List ℕ) (old : Disk) → IsCalm (NamesStayBut from to old)
stay_calm from to old = record { at_count = λ d stay. stay; at_end = λ d stay. stay }

-- a rotation over a file that was kept for use
pub over_names : (before : LogFileWriter) (header from to : List ℕ) (error : ErrorKind) (old new : Disk) → RotationMakes before header (FailsToRename from to) (λ named. Renames from to) error old new → NamesStayBut from to old new
over_names before header from to error old new (unfinished after fails) path a b = ap (λ (N : Names). N path) (not_closed_names before after error old new fails)
over_names before header from to error old new (unnamed after closed closes fails) path a b =
    let refused : Result (Unit {0}) ErrorKind = Err error in
    kept_rename (NamesStayBut from to closed) (WrongRename from to closed) refused from to (stay_calm from to closed) (λ p c d. refl)
    (λ id here apart home p c d. name_apart (update bytes_eq closed.names from None) to (Some id) p d ∙ name_apart closed.names from None p c) tt fails path a b
    ∙ ap (λ (N : Names). N path) (closes_names before after old closed closes)
over_names before header from to error old new (unbegun after handle closed named closes renames fails) path a b =
    ap (λ (N : Names). N path) (begin_names handle header error named new fails) ∙ ap (λ (d : Disk). d.names path) renames.done
    ∙ name_apart (update bytes_eq closed.names from None) to (Some renames.id) path b ∙ name_apart closed.names from None path a ∙ ap (λ (N : Names). N path) (closes_names before after old closed closes)

-- one into a new file
pub new_names : (before : LogFileWriter) (header to : List ℕ) (error : ErrorKind) (old new : Disk) → RotationMakes before header (FailsToCreate to) (λ handle. Creates to handle.file) error old new → NamesStayBut to to old new
new_names before header to error old new (unfinished after fails) path a b = ap (λ (N : Names). N path) (not_closed_names before after error old new fails)
new_names before header to error old new (unnamed after closed closes fails) path a b =
    let refused : Result ℕ ErrorKind = Err error in
    kept_create (NamesStayBut to to closed) (λ n. n) (WrongCreate to closed) refused to (stay_calm to to closed) (λ p c d. refl) (λ free apart home p c d. name_apart closed.names to (Some closed.unused) p c) tt fails path a b
    ∙ ap (λ (N : Names). N path) (closes_names before after old closed closes)
new_names before header to error old new (unbegun after handle closed named closes creates fails) path a b =
    ap (λ (N : Names). N path) (begin_names handle header error named new fails) ∙ ap (λ (d : Disk). d.names path) creates.done
    ∙ name_apart closed.names to (Some closed.unused) path a ∙ ap (λ (N : Names). N path) (closes_names before after old closed closes)
