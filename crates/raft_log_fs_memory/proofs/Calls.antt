-- The exits of the calls of the file system in memory.
use Rattle.std.specs.Prelude.{◌≡◌, ℕ, ◌⊎◌, Bool, false, Option, Some, None, List, [], Result, Ok, Err}
use Rattle.std.specs.Result.{IfErr, OnOk, OnErr, MatchResult}
use Rattle.std.specs.declared.alloc.AllocError.{AllocError}
use Rattle.std.specs.declared.io.ErrorKind.{ErrorKind}
use Rattle.std.specs.declared.io.ErrorKind.TheVariants.{Other}
use Rattle.std.proofs.Common.{refl, sym, ◌∙◌, ap, subst, inl, inr, take, drop}
use Rattle.std.proofs.lemmas.Bool.{false≢true}
use Rattle.raft_log_fs.specs.Disk.{Change, Wrote, File, Disk, overwritten, with_file, HasDirectory}
use Rattle.raft_log_fs.specs.Calls.{IsStopKind, IsRight, with_change, after_change, counted, at_stop, Changes, failed, stops, none, some, SomeOf, RefusedChange, RefusedWhole}
use Rattle.raft_log_fs.proofs.Public.{some_file}
use Rattle.raft_log_fs.specs.declared.handle.Handle.{Handle}
use Rattle.raft_log_fs.specs.declared.handle.Permission.TheVariants.{ReadWrite}
use Rattle.raft_log_fs_memory.specs.declared.memory.MemoryFileSystem.{MemoryFileSystem}
use Rattle.raft_log_fs_state.specs.declared.storage.Storage.{Storage}
use Rattle.raft_log_fs.specs.Arguments.{WrongCreate, WrongName, WrongRename, WrongDirectory, WrongHandle, WrongWriter}
use Rattle.std.specs.Option.{option_map}
use Rattle.raft_log_fs_state.specs.Held.{Held, file_of}
use Rattle.raft_log_fs_state.specs.Storage.{contents_of}
use Rattle.raft_log_fs_state.specs.Steps.{IsSame, Makes}
use Rattle.raft_log_fs_memory.specs.Memory.{disk_of, failed_once, IsToldOnce}
use Rattle.raft_log_fs_memory.specs.Answers.{LacksWriter}
use Rattle.raft_log_fs_memory.specs.Turns.{IsRefusedChange, uncounted, IsChangeEnded, IsCallEnded, at_the_stop, not_made}
use Rattle.raft_log_fs_state.proofs.Public.{after_whole, front_change, front_torn}
use Rattle.raft_log_fs_memory.proofs.Turns.{over, IsFrontOnDisk, counted_or_stop, other_stops, told_once}

-- a change after a stop, or by a wrong handle, doesn't count
pub no_writer : (handle : Handle) (change : Change) (error : ErrorKind) (system : MemoryFileSystem) → LacksWriter handle (disk_of system) error
    → IsRefusedChange handle.file change (WrongWriter handle (disk_of system)) error system system
no_writer handle change error system (inl stopped) = uncounted (inl stopped) refl refl
no_writer handle change error system (inr (runs, wrong)) = uncounted (inr wrong) refl refl

-- a refused call that did nothing
pub refused_whole : {done : Disk → Type 0} {wrong : ErrorKind → Type 0} {error : ErrorKind} (old mid new : Disk) → old.stopped ≡ false → IsRight wrong → mid ≡ old
    → (new ≡ counted error mid) ⊎ ((new ≡ at_stop mid) × IsStopKind error) → RefusedWhole done wrong error old new
refused_whole {error = error} old mid new runs right same (inl is) = failed runs right old refl (is ∙ ap (counted error) same)
refused_whole old mid new runs right same (inr (is, told)) = stops runs told old (inl refl) (is ∙ ap at_stop same)

pub refused_piece : {id : ℕ} {piece : Change} {wrong : ErrorKind → Type 0} {error : ErrorKind} (old new : Disk) → old.stopped ≡ false → IsRight wrong
    → (new ≡ counted error old) ⊎ ((new ≡ at_stop old) × IsStopKind error) → RefusedChange id piece wrong error old new
refused_piece old new runs right (inl is) = failed runs right old (none refl) is
refused_piece old new runs right (inr (is, told)) = stops runs told old (inl refl) is

-- what stands after the storage made a change, or didn't
pub changed_or_not : {E : Type 0} (id : ℕ) (next : File → File) (done : Result (Unit {0}) E) (begun : MemoryFileSystem) (after : Storage) (old : Disk) → disk_of begun ≡ old
    → OnOk done ((file : File) → (contents_of begun.storage).files id ≡ Some file → contents_of after ≡ with_file id (Some (next file)) (contents_of begun.storage))
    → OnErr done (contents_of after ≡ contents_of begun.storage)
    → old.stopped ≡ false → (old.files id ≡ None → ⊥)
    → MatchResult done (λ v. Changes id next old (over begun (contents_of after))) (λ e. over begun (contents_of after) ≡ old)
changed_or_not id next (Ok v) begun after old same ok err runs there =
    let got = some_file (old.files id) there in
    record {
      runs = runs;
      file = got.0;
      is = got.1;
      done = ap (over begun) (ok got.0 (ap (λ (d : Disk). d.files id) same ∙ got.1)) ∙ ap (with_file id (Some (next got.0))) same;
    }
changed_or_not id next (Err e) begun after old same ok err runs there = ap (over begun) err ∙ same

-- the same from what the storage says of a change
pub made_or_not : (id : ℕ) (change : Change) (done : Result (Unit {0}) ErrorKind) (begun : MemoryFileSystem) (after : Storage) (old : Disk) → disk_of begun ≡ old
    → OnOk done (Makes id change [] begun.storage after) → OnErr done (IsSame begun.storage after)
    → old.stopped ≡ false → (old.files id ≡ None → ⊥)
    → MatchResult done (λ v. Changes id (after_change change) old (over begun (contents_of after))) (λ e. over begun (contents_of after) ≡ old)
made_or_not id change (Ok v) begun after old same ok err runs there =
    changed_or_not {E = ErrorKind} id (after_change change) (Ok v) begun after old same
    (λ file is. ok.contents file is ∙ ap (λ (f : File). with_file id (Some f) (contents_of begun.storage)) (after_whole change file)) err runs there
made_or_not id change (Err e) begun after old same ok err runs there = changed_or_not {E = ErrorKind} id (after_change change) (Err e) begun after old same ok err.contents runs there

-- the same of the front of a write
pub front_or_not : (id at : ℕ) (bytes : List ℕ) (count : ℕ) (done : Result (Unit {0}) ErrorKind) (begun : MemoryFileSystem) (after : Storage) (old : Disk) → disk_of begun ≡ old
    → OnOk done (Makes id (Wrote at (take count bytes)) (drop count bytes) begun.storage after) → OnErr done (IsSame begun.storage after)
    → (old.files id ≡ None → ⊥)
    → MatchResult done (λ v. IsFrontOnDisk id at bytes count old (over begun (contents_of after))) (λ e. over begun (contents_of after) ≡ old)
front_or_not id at bytes count (Ok v) begun after old same ok err there =
    let got = some_file (old.files id) there in
    record {
      file = got.0;
      is = got.1;
      disk = ap (over begun) (ok.contents got.0 (ap (λ (d : Disk). d.files id) same ∙ got.1))
          ∙ (ap (λ (f : File). with_file id (Some f) (disk_of begun)) (front_change at bytes count got.0)
          ∙ ap (with_file id (Some (with_change (Wrote at bytes) (overwritten at (take count bytes) got.0.content) got.0))) same);
    }
front_or_not id at bytes count (Err e) begun after old same ok err there = ap (over begun) err.contents ∙ same

-- and what the disk then has of a write that was refused in part
pub part_err : {wrong : ErrorKind → Type 0} {error : ErrorKind} (id at : ℕ) (bytes : List ℕ) (count : ℕ) (done : Result (Unit {0}) ErrorKind) (old mid new : Disk)
    → old.stopped ≡ false → IsRight wrong
    → MatchResult done (λ v. IsFrontOnDisk id at bytes count old mid) (λ e. mid ≡ old)
    → MatchResult done (λ v. error ≡ Other) (λ kind. IsToldOnce kind error mid) → new ≡ failed_once error mid → RefusedChange id (Wrote at bytes) wrong error old new
part_err {error = error} id at bytes count (Ok v) old mid new runs right made kind fail =
    let part : SomeOf id (Wrote at bytes) old mid = some made.file _ made.is (front_torn at bytes count made.file.content) made.disk in
    elim (counted_or_stop mid new fail (λ full. other_stops error kind)) [
      | inl one ↦ failed runs right mid part one
      | inr (stop, told) ↦ stops runs told mid (inr (right, inl part)) stop
    ]
part_err id at bytes count (Err e) old mid new runs right made kind fail = elim (counted_or_stop mid new fail (told_once _ _ mid kind)) [
  | inl one ↦ failed runs right mid (none made) one
  | inr (stop, told) ↦ stops runs told mid (inl made) stop
]

pub change_ok : {T : Type 0} (id : ℕ) (next : File → File) (done : Result (Unit {0}) ErrorKind) (ends : Bool) (old mid new : Disk) (result : Result T ErrorKind)
    → MatchResult done (λ v. Changes id next old mid) (λ e. mid ≡ old)
    → OnOk result ((ends ≡ false) × OnErr done ⊥ × (new ≡ mid)) → OnOk result (Changes id next old new)
change_ok id next (Ok v) ends old mid new (Ok w) is ok = record { runs = is.runs; file = is.file; is = is.is; done = ok.2 ∙ is.done }
change_ok id next (Err e) ends old mid new (Ok w) is ok = absurd (ok.1)
change_ok id next done ends old mid new (Err e) is ok = tt

pub change_err : {T : Type 0} (id : ℕ) (change : Change) (wrong : ErrorKind → Type 0) (done : Result (Unit {0}) ErrorKind) (ends : Bool) (old mid new : Disk) (result : Result T ErrorKind)
    → old.stopped ≡ false → IsRight wrong
    → MatchResult done (λ v. Changes id (after_change change) old mid) (λ e. mid ≡ old)
    → IfErr result (λ error. IsChangeEnded ends done error mid new) → IfErr result (λ error. RefusedChange id change wrong error old new)
change_err id change wrong done ends old mid new (Ok w) runs right is ended = tt
change_err id change wrong (Ok v) ends old mid new (Err e) runs right is (at_the_stop falls kind stop) = stops runs (other_stops e kind) mid (inr (right, inr is)) stop
change_err id change wrong (Err k) ends old mid new (Err e) runs right is (at_the_stop falls kind stop) = stops runs kind.stops mid (inl is) stop
change_err id change wrong (Ok v) ends old mid new (Err e) runs right is (not_made past same fail) = absurd same
change_err id change wrong (Err k) ends old mid new (Err e) runs right is (not_made past same fail) = elim (counted_or_stop mid new fail (told_once _ _ mid same)) [
  | inl one ↦ failed runs right mid (none is) one
  | inr (stop, told) ↦ stops runs told mid (inl is) stop
]

-- what stands after a call that is done whole or not at all
pub call_ok : {T E : Type 0} (does : Disk → Type 0) (done : Result (Unit {0}) E) (ends : Bool) (old mid new : Disk) (result : Result T ErrorKind)
    → MatchResult done (λ v. does mid) (λ e. mid ≡ old)
    → OnOk result ((ends ≡ false) × OnErr done ⊥ × (new ≡ mid)) → OnOk result (does new)
call_ok does (Ok v) ends old mid new (Ok w) is ok = subst does (sym ok.2) is
call_ok does (Err e) ends old mid new (Ok w) is ok = absurd (ok.1)
call_ok does done ends old mid new (Err e) is ok = tt

pub call_err : {T : Type 0} (does : Disk → Type 0) (wrong : ErrorKind → Type 0) (done : Result (Unit {0}) AllocError) (ends : Bool) (old mid new : Disk) (result : Result T ErrorKind)
    → old.stopped ≡ false → IsRight wrong
    → MatchResult done (λ v. does mid) (λ e. mid ≡ old)
    → IfErr result (λ error. IsCallEnded ends done error mid new) → IfErr result (λ error. RefusedWhole does wrong error old new)
call_err does wrong done ends old mid new (Ok w) runs right is ended = tt
call_err does wrong (Ok v) ends old mid new (Err e) runs right is (at_the_stop falls kind stop) = stops runs (other_stops e kind) mid (inr (right, inr is)) stop
call_err does wrong (Err k) ends old mid new (Err e) runs right is (at_the_stop falls kind stop) = stops runs kind.stops mid (inl is) stop
call_err does wrong (Ok v) ends old mid new (Err e) runs right is (not_made past same fail) = absurd same
call_err does wrong (Err k) ends old mid new (Err e) runs right is (not_made past same fail) = refused_whole old mid new runs right is (counted_or_stop mid new fail (told_once _ _ mid same))

-- what stands after the storage did such a call, or didn't
pub done_or_not : {E : Type 0} (does : Disk → Type 0) (next : Disk → Disk) (done : Result (Unit {0}) E) (begun : MemoryFileSystem) (after : Storage) (old : Disk) → disk_of begun ≡ old
    → ((mid : Disk) → mid ≡ over begun (next (contents_of begun.storage)) → does mid)
    → OnOk done (contents_of after ≡ next (contents_of begun.storage)) → OnErr done (contents_of after ≡ contents_of begun.storage)
    → MatchResult done (λ v. does (over begun (contents_of after))) (λ e. over begun (contents_of after) ≡ old)
done_or_not does next (Ok v) begun after old same step ok err = step (over begun (contents_of after)) (ap (over begun) ok)
done_or_not does next (Err e) begun after old same step ok err = ap (over begun) err ∙ same

-- arguments that are right
pub right_name : (path : List ℕ) (d : Disk) (id : ℕ) → d.names path ≡ Some id → (e : ErrorKind) → WrongName path d e → ⊥
right_name path d id is e wrong = let none : d.names path ≡ None = wrong.1 in cc (is, none)

pub right_create : (path : List ℕ) (d : Disk) → d.names path ≡ None → d.directories path ≡ false → HasDirectory path d → (e : ErrorKind) → WrongCreate path d e → ⊥
right_create path d free apart home e (inl (at, inl taken)) = taken free
right_create path d free apart home e (inl (at, inr taken)) = false≢true (sym apart ∙ taken)
right_create path d free apart home e (inr (at, absent)) = absent home

pub right_rename : (from to : List ℕ) (d : Disk) (id : ℕ) → d.names from ≡ Some id → d.directories to ≡ false → HasDirectory to d → (e : ErrorKind) → WrongRename from to d e → ⊥
right_rename from to d id is apart home e (inl wrong) = right_name from d id is e wrong
right_rename from to d id is apart home e (inr (inl (at, taken))) = false≢true (sym apart ∙ taken)
right_rename from to d id is apart home e (inr (inr (at, absent))) = absent home

pub right_directory : (path : List ℕ) (d : Disk) → d.names path ≡ None → d.directories path ≡ false → (e : ErrorKind) → WrongDirectory path d e → ⊥
right_directory path d free apart e (at, inl taken) = taken free
right_directory path d free apart e (at, inr taken) = false≢true (sym apart ∙ taken)

pub right_handle : (handle : Handle) (d : Disk) → (d.files handle.file ≡ None → ⊥) → (e : ErrorKind) → WrongHandle handle d e → ⊥
right_handle handle d there e wrong = there wrong.1

pub right_writer : (handle : Handle) (d : Disk) → (d.files handle.file ≡ None → ⊥) → handle.permission ≡ ReadWrite → (e : ErrorKind) → WrongWriter handle d e → ⊥
right_writer handle d there writes e (inl wrong) = there wrong.1
right_writer handle d there writes e (inr (at, reads)) = cc (writes, reads)

-- what is kept of a file that is there
pub held_there : (o : Option Held) → (option_map file_of o ≡ None → ⊥) → (file : Held) × (o ≡ Some file)
held_there None there = absurd (there refl)
held_there (Some file) there = (file, refl)
