-- Which calls what is armed falls at, and what a refused or stopped call leaves.
use Rattle.std.specs.Prelude.{◌≡◌, ℕ, ◌⊎◌, ◌↔◌, ◌++◌, ◌∷◌, [], Bool, true, false, cond, suc, Some, IsTrue, List, Result, Ok, Err}
use Rattle.std.specs.Result.{IfErr, OnOk, OnErr, MatchResult}
use Rattle.std.specs.declared.alloc.AllocError.{AllocError}
use Rattle.std.specs.declared.io.ErrorKind.{ErrorKind}
use Rattle.std.specs.declared.io.ErrorKind.TheVariants.{OutOfMemory, Other, ResourceBusy}
use Rattle.std.proofs.Common.{refl, sym, ◌∙◌, ap, subst, inl, inr, arith, ◌≤◌, nat_lt, take, drop}
use Rattle.std.proofs.lemmas.Bool.Decides.{nat_tests}
use Rattle.std.proofs.lemmas.Bool.{cases_Bool}
use Rattle.raft_log_fs.specs.Disk.{Change, Wrote, File, Disk, overwritten, with_file}
use Rattle.raft_log_fs.specs.Calls.{IsStopKind, IsToldAtStop, with_change, after_change, counted, at_stop, Changes}
use Rattle.raft_log_fs_state.specs.declared.storage.Storage.{Storage}
use Rattle.raft_log_fs_state.specs.Storage.{contents_of, unsynced_of}
use Rattle.raft_log_fs_state.specs.Steps.{IsSame, Makes}
use Rattle.raft_log_fs_memory.specs.declared.memory.MemoryFileSystem.{MemoryFileSystem}
use Rattle.raft_log_fs_memory.specs.Memory.{is_denied, disk_of, unsynced, Kept, kept, failed_once, IsToldOnce, most_failures}
use Rattle.raft_log_fs_memory.specs.Answers.{HasRefused, HasFallen}
use Rattle.raft_log_fs_memory.specs.Turns.{armed, ArmedRefusalFell, call_later, IsSpared, PartFalls, part_fell, Untouched, IsCounted, IsAnswered, IsRefusedCall, stop_fell, refusal_fell, room_short, after_failure, after_stop, IsRefusedWhole, NoRoomFor, HasSpaceFor, IsRefusedChange, IsChangeEnded, IsCallEnded, LeftAtStop, StopsAfter, at_the_stop, not_made}

-- the contents as the file system's disk has them
abbrev pub over : MemoryFileSystem → Disk → Disk
over system d = record d {
  unreadable = is_denied system.denied.items;
  stopped = system.stopped;
  failures = system.failures;
  kinds = system.kinds.told;
}

-- the first bytes of a write stand on the disk
pub record IsFrontOnDisk (id at : ℕ) (bytes : List ℕ) (count : ℕ) (old left : Disk) : Type 0 where
  pub file : File
  pub is : old.files id ≡ Some file
  pub disk : left ≡ with_file id (Some (with_change (Wrote at bytes) (overwritten at (take count bytes) file.content) file)) old

-- what is held, by its parts
kept_ext : (a b : Kept) → a.disk ≡ b.disk → a.unsynced ≡ b.unsynced → a ≡ b
kept_ext a b disk order =
    ap (λ (d : Disk). let k : Kept = record { disk = d; unsynced = a.unsynced } in k) disk
    ∙ ap (λ (us : List (ℕ × Change)). let k : Kept = record { disk = b.disk; unsynced = us } in k) order

-- `Other` is no want of memory
pub other_stops : (error : ErrorKind) → error ≡ Other → IsStopKind error
other_stops error is = λ memory. cc (is, memory)

-- want of memory at a stop is told as `ResourceBusy`
pub memory_at_stop : (error : ErrorKind) → IsToldAtStop OutOfMemory error → error ≡ ResourceBusy
memory_at_stop error told = elim told.told [
  | inl memory ↦ absurd (told.stops memory)
  | inr busy ↦ busy.1
]

-- a failure is counted, or is a stop, which isn't told as want of memory
pub counted_or_stop : {error : ErrorKind} (old new : Disk) → new ≡ failed_once error old → (most_failures ≤ suc old.failures → IsStopKind error)
    → (new ≡ counted error old) ⊎ ((new ≡ at_stop old) × IsStopKind error)
counted_or_stop {error} old new is stop = elim (cases_Bool (nat_lt (suc old.failures) most_failures)) [
  | inl less ↦ inl (is ∙ ap (λ (b : Bool). cond b (counted error old) (at_stop old)) less)
  | inr full ↦ inr (is ∙ ap (λ (b : Bool). cond b (counted error old) (at_stop old)) full, stop (not_below full))
]
  where
    not_below : nat_lt (suc old.failures) most_failures ≡ false → most_failures ≤ suc old.failures
    not_below full = grind (arith, nat_tests)

pub told_once : (kind error : ErrorKind) (old : Disk) → IsToldOnce kind error old → most_failures ≤ suc old.failures → IsStopKind error
told_once kind error old (inl (less, is)) full = absurd (omega (arith, less, full))
told_once kind error old (inr (most, told)) full = told.stops

-- what fell at a call that is done whole or not at all, as the disk has it
pub refused : {error : ErrorKind} {old new : MemoryFileSystem} → HasRefused error old new
    → (disk_of new ≡ counted error (disk_of old)) ⊎ ((disk_of new ≡ at_stop (disk_of old)) × IsStopKind error)
refused {error} {old} {new} (inl whole) = counted_or_stop (disk_of old) (disk_of new) whole.left (λ full. other_stops error whole.kind)
refused {error} {old} {new} (inr part) = counted_or_stop (disk_of old) (disk_of new) part.left (λ full. other_stops error part.kind)

pub fallen : {error : ErrorKind} {old new : MemoryFileSystem} → HasFallen error old new
    → (disk_of new ≡ counted error (disk_of old)) ⊎ ((disk_of new ≡ at_stop (disk_of old)) × IsStopKind error)
fallen {error} {old} {new} (inl refusal) = refused refusal
fallen {error} {old} {new} (inr stopped) = inr (stopped.left, other_stops error stopped.kind)

-- a refusal that fell, as the call's cause
pub refusal : {left_at_stop : ErrorKind → Kept → Type 0} {left_in_part : ℕ → ErrorKind → Kept → Type 0} {wrong no_room : ErrorKind → Type 0} {error : ErrorKind} {old new : MemoryFileSystem} → IsCounted wrong old new
    → new.storage ≡ old.storage → ArmedRefusalFell error old new → IsRefusedCall left_at_stop left_in_part wrong no_room error old new
refusal {error = error} {old = old} {new = new} counts storage fell =
    refusal_fell counts fell (kept_ext (kept new) (after_failure error (kept old)) fell.left (ap unsynced_of storage))

-- also one in part, which did nothing
pub any_refusal : {left_at_stop : ErrorKind → Kept → Type 0} {wrong no_room : ErrorKind → Type 0} {error : ErrorKind} {old new : MemoryFileSystem} → IsCounted wrong old new
    → new.storage ≡ old.storage → HasRefused error old new → IsRefusedCall left_at_stop (λ count. Untouched (kept old)) wrong no_room error old new
any_refusal counts storage (inl whole) = refusal counts storage whole
any_refusal {error = error} {old = old} {new = new} counts storage (inr part) =
    part_fell counts part.count part.falls (kept old) (part.kind, refl) (kept_ext (kept new) (after_failure error (kept old)) part.left (ap unsynced_of storage))

pub fell : (done : Disk → Type 0) (order : List (ℕ × Change)) {wrong : ErrorKind → Type 0} {error : ErrorKind} {old new : MemoryFileSystem} → IsCounted wrong old new
    → new.storage ≡ old.storage → HasFallen error old new → IsRefusedWhole done order wrong error old new
fell done order counts storage (inl refusal) = any_refusal counts storage refusal
fell done order {error = error} {old = old} {new = new} counts storage (inr stopped) =
    let left : LeftAtStop false done order (kept old) error (kept old) = (stopped.kind, refl) in
    stop_fell counts stopped.falls (kept old) (subst (λ (b : Bool). LeftAtStop b done order (kept old) error (kept old)) (sym stopped.undone) left)
    (kept_ext (kept new) (after_stop (kept old)) stopped.left (ap unsynced_of storage))

-- a write that was refused in part
pub part_cause : {wrong : ErrorKind → Type 0} {error : ErrorKind} (id at : ℕ) (bytes : List ℕ) (count : ℕ) (done : Result (Unit {0}) ErrorKind) (old begun new : MemoryFileSystem) (after : Storage)
    → IsCounted wrong old new → PartFalls count (armed old)
    → MatchResult done (λ v. error ≡ Other) (λ kind. IsToldOnce kind error (over begun (contents_of after)))
    → MatchResult done (λ v. IsFrontOnDisk id at bytes count (disk_of old) (over begun (contents_of after))) (λ e. over begun (contents_of after) ≡ disk_of old)
    → begun.storage ≡ old.storage → OnOk done (Makes id (Wrote at (take count bytes)) (drop count bytes) begun.storage after) → OnErr done (IsSame begun.storage after)
    → OnOk done (HasSpaceFor id (Wrote at bytes) old) → IfErr done (NoRoomFor id (Wrote at bytes) old)
    → new.storage ≡ after → disk_of new ≡ failed_once error (over begun (contents_of after)) → IsRefusedChange id (Wrote at bytes) wrong error old new
part_cause {error = error} id at bytes count (Ok v) old begun new after counts falls kind made storage makes same space room stored failed =
    let left : Kept = record { disk = over begun (contents_of after); unsynced = unsynced new } in
    part_fell counts count falls left
    (inl (
      kind,
      space,
      record {
        file = made.file;
        is = made.is;
        disk = made.disk;
        order = ap unsynced_of stored ∙ (makes.order ∙ ap (λ (s : Storage). unsynced_of s ++ (id, Wrote at (take count bytes)) ∷ []) storage);
      },
    ))
    (kept_ext (kept new) (after_failure error left) failed refl)
part_cause {error = error} id at bytes count (Err k) old begun new after counts falls kind made storage makes same space room stored failed =
    part_fell counts count falls (kept old) (inr (k, room, subst (IsToldOnce k error) made kind, refl))
    (kept_ext (kept new) (after_failure error (kept old)) (failed ∙ ap (failed_once error) made) (ap unsynced_of stored ∙ (same.order ∙ ap unsynced_of storage)))

-- an answered call that is done whole or not at all
pub call_turn : {T E : Type 0} (result : Result T ErrorKind) (stops : Bool) (done : Result (Unit {0}) E) (mid : Disk) (old new : MemoryFileSystem) → armed new ≡ call_later (armed old) → (stops ≡ false → IsSpared (armed old))
    → OnOk result ((stops ≡ false) × OnErr done ⊥ × (disk_of new ≡ mid)) → OnOk result (IsAnswered old new)
call_turn (Ok v) stops done mid old new next spared answered = record { spared = spared answered.0; next = next }
call_turn (Err e) stops done mid old new next spared answered = tt

-- and the order of the changes of all files after it
pub call_order : {T E : Type 0} (order : List (ℕ × Change)) (done : Result (Unit {0}) E) (stops : Bool) (mid : Disk) (new : MemoryFileSystem) (after : Storage) (result : Result T ErrorKind)
    → OnOk done (unsynced_of after ≡ order) → new.storage ≡ after → OnOk result ((stops ≡ false) × OnErr done ⊥ × (disk_of new ≡ mid))
    → OnOk result (unsynced new ≡ order)
call_order order (Ok v) stops mid new after (Ok w) made stored ok = ap unsynced_of stored ∙ made
call_order order (Err e) stops mid new after (Ok w) made stored ok = absurd (ok.1)
call_order order done stops mid new after (Err e) made stored ok = tt

-- why a call that is done whole or not at all was refused, and what it left
pub call_cause : {T : Type 0} {wrong : ErrorKind → Type 0} (does : Disk → Type 0) (order : List (ℕ × Change)) (done : Result (Unit {0}) AllocError) (stops : Bool) (mid : Disk) (old begun new : MemoryFileSystem)
    (after : Storage) (result : Result T ErrorKind)
    → IsCounted wrong old new → (stops ≡ true → StopsAfter (armed old)) → (stops ≡ false → IsSpared (armed old))
    → MatchResult done (λ v. does mid) (λ e. mid ≡ disk_of old)
    → begun.storage ≡ old.storage → OnOk done (unsynced_of after ≡ order) → OnErr done (IsSame begun.storage after) → new.storage ≡ after
    → IfErr result (λ error. IsCallEnded stops done error mid (disk_of new)) → IfErr result (λ error. IsRefusedWhole does order wrong error old new)
call_cause does order done stops mid old begun new after (Ok v) counts is spared made storage makes same stored ended = tt
call_cause does order (Ok v) stops mid old begun new after (Err e) counts is spared made storage makes same stored (at_the_stop falls kind done_is) =
    let left : Kept = record { disk = mid; unsynced = unsynced new } in
    let at : LeftAtStop true does order (kept old) e left = inl (kind, record { disk = made; order = ap unsynced_of stored ∙ makes }) in
    stop_fell counts (is falls).falls left (subst (λ (b : Bool). LeftAtStop b does order (kept old) e left) (sym (is falls).done) at)
    (kept_ext (kept new) (after_stop left) done_is refl)
call_cause does order (Err k) stops mid old begun new after (Err e) counts is spared made storage makes same stored (at_the_stop falls kind done_is) =
    let at : LeftAtStop true does order (kept old) e (kept old) = inr (memory_at_stop e kind, refl) in
    stop_fell counts (is falls).falls (kept old) (subst (λ (b : Bool). LeftAtStop b does order (kept old) e (kept old)) (sym (is falls).done) at)
    (kept_ext (kept new) (after_stop (kept old)) (done_is ∙ ap at_stop made) (ap unsynced_of stored ∙ (same.order ∙ ap unsynced_of storage)))
call_cause does order (Ok v) stops mid old begun new after (Err e) counts is spared made storage makes same stored (not_made runs done_is failed) = absurd done_is
call_cause does order (Err k) stops mid old begun new after (Err e) counts is spared made storage makes same stored (not_made runs done_is failed) =
    room_short counts (spared runs) OutOfMemory refl (subst (IsToldOnce OutOfMemory e) made done_is)
    (kept_ext (kept new) (after_failure e (kept old)) (failed ∙ ap (failed_once e) made) (ap unsynced_of stored ∙ (same.order ∙ ap unsynced_of storage)))

-- the order of all changes after one that was answered
pub change_order : {T : Type 0} (id : ℕ) (change : Change) (done : Result (Unit {0}) ErrorKind) (stops : Bool) (mid : Disk) (old begun new : MemoryFileSystem) (after : Storage) (result : Result T ErrorKind)
    → begun.storage ≡ old.storage → OnOk done (Makes id change [] begun.storage after) → new.storage ≡ after → OnOk result ((stops ≡ false) × OnErr done ⊥ × (disk_of new ≡ mid))
    → OnOk result (unsynced new ≡ unsynced old ++ (id, change) ∷ [])
change_order id change (Ok v) stops mid old begun new after (Ok w) storage made stored ok =
    ap unsynced_of stored ∙ (made.order ∙ ap (λ (s : Storage). unsynced_of s ++ (id, change) ∷ []) storage)
change_order id change (Err e) stops mid old begun new after (Ok w) storage made stored ok = absurd (ok.1)
change_order id change done stops mid old begun new after (Err e) storage made stored ok = tt

-- why a change was refused, and what it left
pub change_cause : {T : Type 0} {wrong : ErrorKind → Type 0} (id : ℕ) (change : Change) (done : Result (Unit {0}) ErrorKind) (stops : Bool) (mid : Disk) (old begun new : MemoryFileSystem)
    (after : Storage) (result : Result T ErrorKind)
    → IsCounted wrong old new → (IsTrue stops ↔ ((armed old).stop ≡ 1)) → (stops ≡ false → IsSpared (armed old))
    → MatchResult done (λ v. Changes id (after_change change) (disk_of old) mid) (λ e. mid ≡ disk_of old)
    → begun.storage ≡ old.storage → OnOk done (Makes id change [] begun.storage after) → OnErr done (IsSame begun.storage after) → new.storage ≡ after
    → OnOk done (HasSpaceFor id change old) → IfErr done (NoRoomFor id change old)
    → IfErr result (λ error. IsChangeEnded stops done error mid (disk_of new)) → IfErr result (λ error. IsRefusedChange id change wrong error old new)
change_cause id change done stops mid old begun new after (Ok v) counts is spared made storage makes same stored space room ended = tt
change_cause id change (Ok v) stops mid old begun new after (Err e) counts is spared made storage makes same stored space room (at_the_stop falls kind done_is) =
    let left : Kept = record { disk = mid; unsynced = unsynced new } in
    stop_fell counts (is.0 falls) left
    (inl (kind, space, record { disk = made; order = ap unsynced_of stored ∙ (makes.order ∙ ap (λ (s : Storage). unsynced_of s ++ (id, change) ∷ []) storage) }))
    (kept_ext (kept new) (after_stop left) done_is refl)
change_cause id change (Err k) stops mid old begun new after (Err e) counts is spared made storage makes same stored space room (at_the_stop falls kind done_is) =
    let order : unsynced new ≡ unsynced old = ap unsynced_of stored ∙ (same.order ∙ ap unsynced_of storage) in
    stop_fell counts (is.0 falls) (kept old) (inr (k, room, kind, refl))
    (kept_ext (kept new) (after_stop (kept old)) (done_is ∙ ap at_stop made) order)
change_cause id change (Ok v) stops mid old begun new after (Err e) counts is spared made storage makes same stored space room (not_made runs done_is failed) = absurd done_is
change_cause id change (Err k) stops mid old begun new after (Err e) counts is spared made storage makes same stored space room (not_made runs done_is failed) =
    let order : unsynced new ≡ unsynced old = ap unsynced_of stored ∙ (same.order ∙ ap unsynced_of storage) in
    room_short counts (spared runs) k room (subst (IsToldOnce k e) made done_is)
    (kept_ext (kept new) (after_failure e (kept old)) (failed ∙ ap (failed_once e) made) order)
