-- Why a file isn't made, and what stands in one that is.
use Rattle.std.specs.Prelude.{Result, Err}
use Rattle.std.specs.Map.{update}
use Rattle.std.proofs.Common.{◌≡◌, ℕ, Some, None, List, [], nat_eq, refl, sym, ◌∙◌, ap, subst, inl, inr, arith}
use Rattle.std.specs.declared.io.ErrorKind.{ErrorKind}
use Rattle.raft_log_fs.specs.Disk.{File, Disk, Wrote, at_rest, overwritten}
use Rattle.raft_log_record_base.specs.declared.errors.Error.TheVariants as errors
use Rattle.raft_log_fs.specs.Arguments.{WrongHandle, WrongWriter}
use Rattle.raft_log_fs.specs.declared.handle.Handle.{Handle}
use Rattle.raft_log_fs.specs.declared.handle.Permission.TheVariants.{ReadWrite}
use Rattle.raft_log_fs.specs.Calls.{Changes, Creates, IsRight, after_change, created, flushed}
use Rattle.raft_log_fs.specs.Exits.{FailsToSync, FailsToWrite}
use Rattle.raft_log_fs.proofs.Public.{fails_after, fails_change, fails_whole, file_here, kept_change, kept_sync, name_here, overwritten_at_end}
use Rattle.raft_log_fs.specs.Image.{IsSound}
use Rattle.raft_log_offline.specs.Copies.{AddsOnly}
use Rattle.raft_log_offline.specs.Steps.{FailsToMake, Fills, MakesFile}
use Rattle.raft_log_offline.proofs.Adds.{adds_calm, adds_created, adds_file, adds_none}

-- a new file is empty, and has the name
pub created_has : (path : List ℕ) (id : ℕ) (old new : Disk) → Creates path id old new → (new.names path ≡ Some id) × (new.files id ≡ Some (at_rest []))
created_has path id old new made = (
  ap (λ (d : Disk). d.names path) made.done ∙ (name_here old.names path (Some old.unused) ∙ ap (λ (n : ℕ). Some n) (sym made.number)),
  ap (λ (d : Disk). d.files id) made.done ∙ (ap (λ (n : ℕ). update nat_eq old.files old.unused (Some (at_rest [])) n) made.number ∙ file_here old.files old.unused (Some (at_rest []))),
)

-- what is written into an empty file is all that stands there
pub all_written : (bytes : List ℕ) → overwritten 0 bytes [] ≡ bytes
all_written bytes = overwritten_at_end bytes []

-- the file with a number has these bytes
abbrev pub HasBytes : ℕ → List ℕ → Disk → Type 0
HasBytes id bytes d = (file : File) × (d.files id ≡ Some file) × (file.content ≡ bytes)

pub written_has : (id : ℕ) (bytes : List ℕ) (old new : Disk) → old.files id ≡ Some (at_rest []) → Changes id (after_change (Wrote 0 bytes)) old new → HasBytes id bytes new
written_has id bytes old new is made =
    let was = made.is in
    let same : made.file ≡ at_rest [] = cc in (
      after_change (Wrote 0 bytes) made.file,
      ap (λ (d : Disk). d.files id) made.done ∙ file_here old.files id (Some (after_change (Wrote 0 bytes) made.file)),
      ap (λ (f : File). overwritten 0 bytes f.content) same ∙ all_written bytes,
    )

pub synced_has : (id : ℕ) (bytes : List ℕ) (old new : Disk) → HasBytes id bytes old → Changes id flushed old new → new.files id ≡ Some (at_rest bytes)
synced_has id bytes old new (file, is, all) made =
    let was = made.is in
    let same : made.file ≡ file = cc in
    ap (λ (d : Disk). d.files id) made.done ∙ (file_here old.files id (Some (flushed made.file))
    ∙ ap (λ (l : List ℕ). Some (at_rest l)) (ap (λ (f : File). f.content) same ∙ all))

-- a change of a file leaves names
pub changed_names : (id : ℕ) (next : File → File) (old new : Disk) (path : List ℕ) → Changes id next old new → new.names path ≡ old.names path
changed_names id next old new path made = ap (λ (d : Disk). d.names path) made.done

-- A file that is made is all that is added.

open_made : (target path : List ℕ) (old : Disk) → IsSound old → old.names path ≡ None → AddsOnly target (λ other. other ≡ path) old (created path old)
open_made target path old sound free =
    adds_created target (λ other. other ≡ path) old old path (adds_none target (λ other. other ≡ path) old) refl free (sound.fresh old.unused (omega arith))

pub made_first : (target path : List ℕ) (id : ℕ) (old made : Disk) → IsSound old → Creates path id old made → AddsOnly target (λ other. other ≡ path) old made
made_first target path id old made sound is = subst (AddsOnly target (λ other. other ≡ path) old) (sym is.done) (open_made target path old sound is.free)

-- its number was free
pub was_free : (path : List ℕ) (id : ℕ) (old made : Disk) → IsSound old → Creates path id old made → old.files id ≡ None
was_free path id old made sound is = sound.fresh id (omega (arith, is.number))

pub filled : (target path bytes : List ℕ) (id : ℕ) (old made new : Disk) → IsSound old → Creates path id old made → Fills id bytes made new → AddsOnly target (λ other. other ≡ path) old new
filled target path bytes id old made new sound is (inl (none, same)) = subst (AddsOnly target (λ other. other ≡ path) old) (sym same) (made_first target path id old made sound is)
filled target path bytes id old made new sound is (inr wrote) =
    let adds = made_first target path id old made sound is in
    subst (AddsOnly target (λ other. other ≡ path) old) (sym wrote.done) (adds_file target (λ other. other ≡ path) old made id _ adds (was_free path id old made sound is))

-- the file that was filled has the bytes
pub filled_has : (path bytes : List ℕ) (id : ℕ) (old made new : Disk) → Creates path id old made → Fills id bytes made new → HasBytes id bytes new
filled_has path bytes id old made new is (inl (none, same)) = (at_rest [], ap (λ (d : Disk). d.files id) same ∙ (created_has path id old made is).1, sym none)
filled_has path bytes id old made new is (inr wrote) = written_has id bytes made new (created_has path id old made is).1 wrote

filled_name : (path bytes : List ℕ) (id : ℕ) (old made new : Disk) → Creates path id old made → Fills id bytes made new → new.names path ≡ Some id
filled_name path bytes id old made new is (inl (none, same)) = ap (λ (d : Disk). d.names path) same ∙ (created_has path id old made is).0
filled_name path bytes id old made new is (inr wrote) = changed_names id _ made new path wrote ∙ (created_has path id old made is).0

-- what wasn't written may have been begun
pub unfilled : (path bytes : List ℕ) (handle : Handle) (kind : ErrorKind) (old made new : Disk) → IsSound old → Creates path handle.file old made → handle.permission ≡ ReadWrite
    → FailsToWrite handle 0 bytes kind made new → FailsToMake path (errors.Io kind) old new
unfilled path bytes handle kind old made new sound is permitted refused = (
  (λ target.
      let own : List ℕ → Type 0 = λ other. other ≡ path in
      let adds = made_first target path handle.file old made sound is in
      let result : Result (Unit {0}) ErrorKind = Err kind in
      kept_change (AddsOnly target own old) (WrongWriter handle made) result handle.file (Wrote 0 bytes) (adds_calm target own old) adds
      (λ file content has part. adds_file target own old made handle.file _ adds (was_free path handle.file old made sound is)) tt refused),
  inl (fails_after old made new (made_first path path handle.file old made sound is).later (fails_change right refused)),
)
  where
    right : IsRight (WrongWriter handle made)
    right error (inl gone) = let none = gone.1 in let there = (created_has path handle.file old made is).1 in absurd cc
    right error (inr denied) = let only = denied.1 in absurd cc

-- what wasn't synced may have been written
pub unsynced : (path bytes : List ℕ) (handle : Handle) (kind : ErrorKind) (old made full new : Disk) → IsSound old → Creates path handle.file old made → Fills handle.file bytes made full
    → FailsToSync handle kind full new → FailsToMake path (errors.Io kind) old new
unsynced path bytes handle kind old made full new sound is fills refused = (
  (λ target.
      let own : List ℕ → Type 0 = λ other. other ≡ path in
      let adds = filled target path bytes handle.file old made full sound is fills in
      let result : Result (Unit {0}) ErrorKind = Err kind in
      kept_sync (AddsOnly target own old) (WrongHandle handle full) result handle.file (adds_calm target own old) adds
      (λ file has. adds_file target own old full handle.file _ adds (was_free path handle.file old made sound is)) tt refused),
  inl (fails_after old full new (filled path path bytes handle.file old made full sound is fills).later (fails_whole right refused)),
)
  where
    right : IsRight (WrongHandle handle full)
    right error gone = let none = gone.1 in let there = (filled_has path bytes handle.file old made full is fills).1 in absurd cc

-- a file that was created, filled and synced
pub made_file : (path bytes : List ℕ) (id : ℕ) (old made full new : Disk) → IsSound old → Creates path id old made → Fills id bytes made full → Changes id flushed full new → MakesFile path bytes old new
made_file path bytes id old made full new sound is fills synced = record {
  adds = λ target.
      let adds = filled target path bytes id old made full sound is fills in
      subst (AddsOnly target (λ other. other ≡ path) old) (sym synced.done) (adds_file target (λ other. other ≡ path) old full id _ adds (was_free path id old made sound is));
  copy = id;
  named = changed_names id flushed full new path synced ∙ filled_name path bytes id old made full is fills;
  stands = synced_has id bytes full new (filled_has path bytes id old made full is fills) synced;
}
