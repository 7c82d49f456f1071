-- What stands after the model made a change, and the device was asked to.
use Rattle.std.specs.Prelude.{◌≡◌, ℕ, ◌⊎◌, Bool, true, false, Option, Some, List, Result, Ok, Err}
use Rattle.std.specs.Result.{IfErr, OnOk, OnErr}
use Rattle.std.specs.declared.io.ErrorKind.{ErrorKind}
use Rattle.std.proofs.Common.{refl, sym, ◌∙◌, ap, subst, inl, inr}
use Rattle.std.proofs.lemmas.Bool.{false≢true}
use Rattle.raft_log_fs.specs.Disk.{Change, File, Disk, with_file}
use Rattle.raft_log_fs.specs.Image.{IsSound}
use Rattle.raft_log_fs.specs.Calls.{IsStopKind, IsRight, after_change, flushed, created, deleted, renamed, Refused, failed, stops}
use Rattle.raft_log_fs_state.specs.declared.storage.Storage.{Storage}
use Rattle.raft_log_fs_state.specs.Storage.{contents_of, IsStorageSound}
use Rattle.raft_log_fs_traced.specs.Device.{DeviceCall, Created, Deleted, Renamed, Changed, Synced, Trace, Held, held_by, settled, created_as, without_named, with_moved, with_next, changed_by, with_bytes, after, noted, MayBeMade, Does, MayDo}
use Rattle.raft_log_fs_traced.specs.Following.{Follows, shown}
use Rattle.raft_log_fs_traced.specs.Directory.{with_failures, FailsOnce, IsToldOf}

-- the model did a call, and the device was asked for it
pub record Made (call : DeviceCall) (old new : Storage) (trace later : Trace) (made : Result (Unit {0}) ErrorKind) (stopped : Bool) : Type 0 where
  pub follows : held_by trace ≡ settled (contents_of old)
  pub did : contents_of new ≡ changed_by call (contents_of old)
  pub ok : OnOk made (Does (changed_by call) trace later)
  pub err : OnErr made (MayDo (changed_by call) trace later)
  pub runs : OnOk made (stopped ≡ false)
  pub stop : OnErr made (stopped ≡ true)

-- with a disk in its place, what is shown
abbrev over : Bool → ℕ → List ErrorKind → Disk → Disk
over stopped failures kinds d = record d { unreadable = λ id place. false; stopped = stopped; failures = failures; kinds = kinds }

module _ (call : DeviceCall) (old new : Storage) (trace later : Trace) where
  kept_err : {e : ErrorKind} {s : Bool} → Made call old new trace later (Err e) s → ((held_by later).kept ≡ contents_of old) ⊎ ((held_by later).kept ≡ contents_of new)
  kept_err m = elim (m.err (contents_of old) m.follows) [ inl is ↦ inl is | inr is ↦ inr (is ∙ sym m.did) ]

  pub later_follows : (made : Result (Unit {0}) ErrorKind) (stopped : Bool) → Made call old new trace later made stopped → Follows stopped new later
  later_follows (Ok v) stopped m = λ runs. m.ok (contents_of old) m.follows ∙ ap settled (sym m.did)
  later_follows (Err e) stopped m = λ runs. absurd (false≢true (sym runs ∙ m.stop))

  pub later_sound : (made : Result (Unit {0}) ErrorKind) (stopped : Bool) → Made call old new trace later made stopped → IsStorageSound old → IsStorageSound new → IsSound (held_by later).kept
  later_sound (Ok v) stopped m was is = subst IsSound (sym (ap (λ (h : Held). h.kept) (m.ok (contents_of old) m.follows) ∙ sym m.did)) is.sound
  later_sound (Err e) stopped m was is = elim (kept_err m) [ inl same ↦ subst IsSound (sym same) was.sound | inr same ↦ subst IsSound (sym same) is.sound ]

  -- it was answered: what it does, told of the model's disk, holds of the disk
  pub made_ok : (does : Disk → Disk → Type 0) (made : Result (Unit {0}) ErrorKind) (stopped : Bool) (failures : ℕ) (kinds : List ErrorKind) (d : Disk) → Made call old new trace later made stopped
      → d ≡ with_failures failures kinds (contents_of old) → does (with_failures failures kinds (contents_of old)) (with_failures failures kinds (contents_of new)) → OnOk made (does d (shown later stopped failures kinds))
  made_ok does (Ok v) stopped failures kinds d m same is =
      subst (λ (k : Disk). does k (shown later stopped failures kinds)) (sym same)
      (subst (does (with_failures failures kinds (contents_of old))) (sym (ap (λ (k : Disk). over stopped failures kinds k) (ap (λ (h : Held). h.kept) (m.ok (contents_of old) m.follows) ∙ sym m.did) ∙ ap (λ (s : Bool). over s failures kinds (contents_of new)) m.runs)) is)
  made_ok does (Err e) stopped failures kinds d m same is = tt

  -- it was refused: the same of why
  pub made_err : (part does : Disk → Disk → Type 0) (wrong : Disk → ErrorKind → Type 0) (made : Result (Unit {0}) ErrorKind) (stopped : Bool) (failures : ℕ) (kinds : List ErrorKind) (d : Disk) → Made call old new trace later made stopped
      → d ≡ with_failures failures kinds (contents_of old) → IsRight (wrong (with_failures failures kinds (contents_of old))) → does (with_failures failures kinds (contents_of old)) (with_failures failures kinds (contents_of new))
      → OnErr made ((e : ErrorKind) → IsStopKind e → Refused (part d) (does d) (wrong d) e d (shown later stopped failures kinds))
  made_err part does wrong (Ok v) stopped failures kinds d m same right is = tt
  made_err part does wrong (Err k) stopped failures kinds d m same right is =
      subst (λ (k : Disk). (e : ErrorKind) → IsStopKind e → Refused (part k) (does k) (wrong k) e k (shown later stopped failures kinds)) (sym same) (elim (kept_err m) [
        | inl stays ↦ λ e told. stops refl told (with_failures failures kinds (contents_of old)) (inl refl) (ap (λ (k : Disk). over stopped failures kinds k) stays ∙ ap (λ (s : Bool). over s failures kinds (contents_of old)) m.stop)
        | inr goes ↦ λ e told. stops refl told (with_failures failures kinds (contents_of new)) (inr (right, inr is)) (ap (λ (k : Disk). over stopped failures kinds k) goes ∙ ap (λ (s : Bool). over s failures kinds (contents_of new)) m.stop)
      ])

  -- what is known of the parts
  pub made_of : (made : Result (Unit {0}) ErrorKind) (was stopped : Bool) → was ≡ false → Follows was old trace → contents_of new ≡ changed_by call (contents_of old)
      → OnOk made (Does (changed_by call) trace later) → OnErr made (MayDo (changed_by call) trace later) → OnOk made (stopped ≡ was) → OnErr made (stopped ≡ true)
      → Made call old new trace later made stopped
  made_of (Ok v) was stopped runs follows did ok err goes_on stop = record { follows = follows runs; did = did; ok = ok; err = err; runs = goes_on ∙ runs; stop = stop }
  made_of (Err e) was stopped runs follows did ok err goes_on stop = record { follows = follows runs; did = did; ok = ok; err = err; runs = goes_on; stop = stop }

-- what is told is whether the device did it, and a stop isn't told as want of memory
pub told_ok : {T : Type 0} (result made : Result T ErrorKind) (P : Type 0) → IsToldOf made result → OnOk made P → OnOk result P
told_ok (Ok v) (Ok w) P told is = is
told_ok (Ok v) (Err k) P told is = absurd (told.1)
told_ok (Err e) made P told is = tt

pub told_err : {T : Type 0} (result made : Result T ErrorKind) (P : ErrorKind → Type 0) → IsToldOf made result → OnErr made ((e : ErrorKind) → IsStopKind e → P e) → IfErr result P
told_err (Ok v) made P told is = tt
told_err (Err e) (Ok w) P told is = cc
told_err (Err e) (Err k) P told is = is e told.0.stops

-- a failure was counted, or the file system stopped, and nothing else happened
pub failed_once : {kind : ErrorKind} (part does : Disk → Disk → Type 0) (wrong : Disk → ErrorKind → Type 0) (error : ErrorKind) (failures : ℕ) (kinds : List ErrorKind) (contents d new : Disk) → d ≡ with_failures failures kinds contents → contents.stopped ≡ false
    → IsRight (wrong (with_failures failures kinds contents)) → ((k : Disk) → part k k) → FailsOnce kind error d new → Refused (part d) (does d) (wrong d) error d new
failed_once part does wrong error failures kinds contents d new same runs right none (inl (same_kind, is)) =
    failed (ap (λ (k : Disk). k.stopped) same ∙ runs) (subst (λ (k : Disk). IsRight (wrong k)) (sym same) right) d (none d) is
failed_once part does wrong error failures kinds contents d new same runs right none (inr (told, full, is)) = stops (ap (λ (k : Disk). k.stopped) same ∙ runs) told.stops d (inl refl) is

-- the same, after some of the call was done
pub failed_after : {kind : ErrorKind} (part does : Disk → Type 0) (wrong : ErrorKind → Type 0) (error : ErrorKind) (d mid new : Disk) → d.stopped ≡ false → IsRight wrong → part mid
    → FailsOnce kind error mid new → Refused part does wrong error d new
failed_after {kind = kind} part does wrong error d mid new runs right some (inl (same_kind, is)) = failed runs right mid some is
failed_after part does wrong error d mid new runs right some (inr (told, full, is)) = stops runs told.stops mid (inr (right, inl some)) is

-- Each call, as the model does it.

pub did_delete : (path : List ℕ) (id : ℕ) (d new : Disk) → d.names path ≡ Some id → new ≡ deleted path id d → new ≡ changed_by (Deleted path) d
did_delete path id d new is did = did ∙ ap (λ (o : Option ℕ). without_named o path d) (sym is)

pub did_rename : (from to : List ℕ) (id : ℕ) (d new : Disk) → d.names from ≡ Some id → new ≡ renamed from to id d → new ≡ changed_by (Renamed from to) d
did_rename from to id d new is did = did ∙ ap (λ (o : Option ℕ). with_moved o from to d) (sym is)

pub did_create : (path : List ℕ) (file : ℕ) (d new : Disk) → file ≡ d.unused → new ≡ created path d → new ≡ changed_by (Created path file) d
did_create path file d new number did = did ∙ ap (λ (n : ℕ). created_as path n d) (sym number)

pub did_change : (file : ℕ) (change : Change) (d new : Disk) (state : File) → d.files file ≡ Some state → new ≡ with_file file (Some (after_change change state)) d → new ≡ changed_by (Changed file change) d
did_change file change d new state is did = did ∙ ap (λ (o : Option File). with_next o (after_change change) file d) (sym is)

pub did_sync : (file : ℕ) (d new : Disk) (state : File) → d.files file ≡ Some state → new ≡ with_file file (Some (flushed state)) d → new ≡ changed_by (Synced file) d
did_sync file d new state is did = did ∙ ap (λ (o : Option File). with_next o flushed file d) (sym is)

-- A call on a file needs no directory's sync.
module _ (call : DeviceCall) (trace later : Trace) (bytes : (held : Held) → after call held ≡ with_bytes call held) where
  then_done : later ≡ noted call trace → Does (changed_by call) trace later
  then_done is = λ d at. ap held_by is ∙ (bytes (held_by trace) ∙ ap (with_bytes call) at)

  pub file_done : (made : Result (Unit {0}) ErrorKind) → OnOk made (later ≡ noted call trace) → OnOk made (Does (changed_by call) trace later)
  file_done (Ok v) is = then_done is
  file_done (Err e) is = tt

  pub file_tried : (made : Result (Unit {0}) ErrorKind) → OnErr made (MayBeMade call trace later) → OnErr made (MayDo (changed_by call) trace later)
  file_tried (Ok v) is = tt
  file_tried (Err e) (inl same) = λ d at. inl (ap (λ (t : Trace). (held_by t).kept) same ∙ ap (λ (h : Held). h.kept) at)
  file_tried (Err e) (inr is) = λ d at. inr (ap (λ (h : Held). h.kept) (then_done is d at))

-- what a refused call leaves, where it is told as refused
pub told_then : {T : Type 0} (made result : Result T ErrorKind) (e : ErrorKind) (P : ErrorKind → Type 0) → IsToldOf made result → result ≡ Err e → OnErr made ((k : ErrorKind) → IsStopKind k → P k) → P e
told_then {T = T} made result e P told is each = subst (λ (r : Result T ErrorKind). IfErr r P) is (told_err result made P told each)
