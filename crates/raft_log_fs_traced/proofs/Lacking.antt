-- What a call says whose change the device undid for lack of space, and that no other end of a call is one.
use Rattle.std.specs.Prelude.{◌≡◌, ℕ, ◌+◌, ◌<◌, ◌⊎◌, suc, min, false, Option, Some, List, ◌∷◌, length, Result, Ok, Err}
use Rattle.std.specs.Map.{update}
use Rattle.std.specs.Str.{bytes_eq}
use Rattle.std.specs.Result.{IfErr, OnOk, OnErr}
use Rattle.std.specs.declared.io.ErrorKind.{ErrorKind}
use Rattle.std.specs.declared.io.ErrorKind.TheVariants.{OutOfMemory, ResourceBusy, StorageFull}
use Rattle.std.proofs.Common.{sym, ◌∙◌, ap, subst, arith, inl, inr}
use Rattle.raft_log_fs.specs.Disk.{Change, Wrote, Disk, file_limit}
use Rattle.raft_log_fs.specs.Calls.{IsToldAtStop}
use Rattle.raft_log_fs.proofs.Public.{changed_in_part}
use Rattle.raft_log_fs_state.specs.Steps.{IsRoomFault}
use Rattle.raft_log_fs_state.specs.Storage.{contents_of}
use Rattle.raft_log_fs_memory.specs.Space.{HasUsed, LiesIn, unlimited}
use Rattle.raft_log_fs_traced.specs.Device.{Changed, Undone, Trace, noted, MayBeMade}
use Rattle.raft_log_fs_traced.specs.Directory.{CountIsFull, FailsOnce, IsToldOf, disk_of}
use Rattle.raft_log_fs_traced.specs.Space.{full_of, NotesFull, CountsLack}
use Rattle.raft_log_fs_traced.specs.declared.device.Device as device
use Rattle.raft_log_fs_traced.specs.declared.directory.DirectoryFileSystem.{DirectoryFileSystem}

module _ (file : ℕ) (change : Change) (old later : Trace) where
  -- no call was made
  pub none_undone : later ≡ old → later ≡ noted (Undone file change) old → ⊥
  none_undone same undone =
      let longer : length old.made ≡ suc (length old.made) = ap (λ (t : Trace). length t.made) (sym same ∙ undone) in
      omega (arith, longer)

  -- a change was made
  pub made_undone : (other : Change) → later ≡ noted (Changed file other) old → later ≡ noted (Undone file change) old → ⊥
  made_undone other made undone = other_call (ap (λ (t : Trace). t.made) (sym made ∙ undone))
    where
      other_call : (Changed file other ∷ old.made) ≡ (Undone file change ∷ old.made) → ⊥
      other_call is = cc

  pub maybe_undone : (other : Change) → MayBeMade (Changed file other) old later → later ≡ noted (Undone file change) old → ⊥
  maybe_undone other (inl same) undone = none_undone same undone
  maybe_undone other (inr made) undone = made_undone other made undone

  pub tried_undone : (r : Result (Unit {0}) ErrorKind) (other : Change) → OnOk r (later ≡ noted (Changed file other) old) → OnErr r (MayBeMade (Changed file other) old later)
      → later ≡ noted (Undone file change) old → ⊥
  tried_undone (Ok v) other made maybe undone = made_undone other made undone
  tried_undone (Err e) other made maybe undone = maybe_undone other maybe undone

-- an attempt succeeded or failed
pub done_or_not : {T E P Q R : Type 0} (r : Result T E) → (P → R) → OnOk r P → OnErr r Q → Q ⊎ R
done_or_not (Ok v) gives done not = inr (gives done)
done_or_not (Err e) gives done not = inl not

-- what is true of each error
pub each_error : {T : Type 0} (r : Result T ErrorKind) (P : ErrorKind → Type 0) → ((e : ErrorKind) → P e) → IfErr r P
each_error (Ok v) P all = tt
each_error (Err e) P all = all e

-- a change for which there was room lacks only memory
pub lacks_memory : (r : Result (Unit {0}) ErrorKind) (id at : ℕ) (bytes : List ℕ) (d : Disk) → at + length bytes < file_limit
    → IfErr r (IsRoomFault unlimited id (Wrote at bytes) d) → IfErr r (λ kind. kind ≡ OutOfMemory)
lacks_memory (Ok v) id at bytes d short fault = tt
lacks_memory (Err k) id at bytes d short (inl memory) = memory
lacks_memory (Err k) id at bytes d short (inr (full, inl past)) = absurd (let no : ⊥ = omega (arith, short, past) in no)
lacks_memory (Err k) id at bytes d short (inr (full, inr grows)) =
    let most = (changed_in_part (Wrote at bytes) grows.file.content).within (length grows.file.content + unlimited) (omega arith) (omega (arith, short)) in
    absurd (let no : ⊥ = omega (arith, most, grows.past) in no)

-- a stop for want of memory
pub busy : (made result : Result (Unit {0}) ErrorKind) (e : ErrorKind) → IsToldOf made result → result ≡ Err e → IfErr made (λ kind. kind ≡ OutOfMemory) → e ≡ ResourceBusy
busy (Ok v) result e told is memory = absurd (clash (sym told ∙ is))
  where
    clash : Ok v ≡ Err e → ⊥
    clash same = cc
busy (Err k) result e told is memory =
    let at_stop : IsToldAtStop k e = subst (λ (r : Result (Unit {0}) ErrorKind). IfErr r (IsToldAtStop k)) is told.0 in
    elim at_stop.told [ inl same ↦ absurd (at_stop.stops (same ∙ memory)) | inr other ↦ other.1 ]

module _ {D : Type 0} (g : device.Ghosts D) where
  -- what was noted before the failure was counted
  pub still_notes : (file : ℕ) (old before mid new : DirectoryFileSystem D g) → full_of g before ≡ full_of g old → full_of g new ≡ full_of g mid → contents_of new.storage ≡ contents_of mid.storage
      → NotesFull g file before mid → NotesFull g file old new
  still_notes file old before mid new was full same (inl none) = inl (full ∙ none ∙ was)
  still_notes file old before mid new was full same (inr notes) = inr record {
    directory = notes.directory;
    inside = subst (LiesIn file notes.directory) (sym same) notes.inside;
    used = notes.used;
    has = subst (λ (d : Disk). HasUsed notes.directory d notes.used) (sym same) notes.has;
    noted = full ∙ notes.noted ∙ ap (λ (m : List ℕ → Option ℕ). update bytes_eq m notes.directory (Some (min notes.used unlimited))) was;
  }

  -- a lack of space, counted
  pub counts_lack : (file : ℕ) (old new : DirectoryFileSystem D g) (mid : Disk) (error : ErrorKind) → mid.stopped ≡ false → mid.failures ≡ (disk_of g old).failures → mid.kinds ≡ (disk_of g old).kinds
      → NotesFull g file old new → FailsOnce StorageFull error mid (disk_of g new)
      → CountsLack g file error old new ⊎ (CountIsFull (disk_of g old) ⊎ (error ≡ ResourceBusy))
  counts_lack file old new mid error runs failures kinds full (inl (told, is)) = inl record {
    told = told;
    runs = ap (λ (d : Disk). d.stopped) is ∙ runs;
    failures = ap (λ (d : Disk). d.failures) is ∙ ap suc failures;
    kinds = ap (λ (d : Disk). d.kinds) is ∙ ap (λ (es : List ErrorKind). error ∷ es) kinds ∙ ap (λ (e : ErrorKind). e ∷ (disk_of g old).kinds) told;
    full = full;
  }
  counts_lack file old new mid error runs failures kinds full (inr (told, most, is)) = inr (inl (sym failures ∙ most))
