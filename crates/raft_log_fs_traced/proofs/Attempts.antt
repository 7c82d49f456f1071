-- How an attempt to make a file longer ends: what a crash leaves then, that it is consistent, and what a failed call
-- says.
use Rattle.std.specs.Prelude.{◌≡◌, ℕ, ◌<◌, ◌⊎◌, Bool, true, false, Option, Some, None, List, [], take, drop, Result, Ok, Err}
use Rattle.std.specs.Option.{option_map}
use Rattle.std.specs.Result.{IfOk, OnOk, OnErr}
use Rattle.std.specs.declared.io.ErrorKind.{ErrorKind}
use Rattle.std.proofs.Common.{refl, sym, ◌∙◌, ap, subst, inl, inr}
use Rattle.std.proofs.lemmas.Bool.{false≢true}
use Rattle.raft_log_fs.specs.Disk.{Change, Wrote, GrewTo, File, Disk, changed, with_file, file_limit}
use Rattle.raft_log_fs.specs.Image.{end_of, IsSound}
use Rattle.raft_log_fs.specs.Calls.{IsStopKind, IsRight, after_change, Changes, Refused, stops, SomeOf, some}
use Rattle.raft_log_fs.proofs.Public.{changed_in_part, some_file, sound_with_change, sound_with_file, unchanged_in_part}
use Rattle.raft_log_fs_state.specs.declared.storage.Storage.{Storage}
use Rattle.raft_log_fs_state.specs.Storage.{contents_of}
use Rattle.raft_log_fs_state.specs.Held.{held_of, file_of}
use Rattle.raft_log_fs_state.specs.Steps.{Makes, NotesGrowth}
use Rattle.raft_log_fs_state.proofs.Public.{after_whole, front_change, ok_then}
use Rattle.raft_log_fs_traced.specs.declared.device.Attempt.{Attempt}
use Rattle.raft_log_fs_traced.specs.declared.device.Attempt.TheVariants as attempt
use Rattle.raft_log_fs_traced.specs.Device.{Changed, Undone, Trace, Held, held_by, settled, undone_change, with_next, changed_by, with_bytes, attempted, noted, MayBeMade}
use Rattle.raft_log_fs_traced.specs.Following.{Follows, shown}
use Rattle.raft_log_fs_traced.specs.Directory.{with_failures, FailsOnce, IsToldOf}
use Rattle.raft_log_fs_traced.proofs.Made.{failed_after}

-- with a disk in its place, what is shown
abbrev over : Bool → ℕ → List ErrorKind → Disk → Disk
over stopped failures kinds d = record d { unreadable = λ id place. false; stopped = stopped; failures = failures; kinds = kinds }

module _ (file : ℕ) (change : Change) (base : Storage) (state : File) (is : (contents_of base).files file ≡ Some state) where
  abbrev d : Disk
  d = contents_of base

  -- what a crash may leave after the attempt: the disk before it, with the whole change, or with the change undone
  abbrev pub Reached : Disk → Type 0
  Reached kept = (kept ≡ d) ⊎ ((kept ≡ with_file file (Some (after_change change state)) d) ⊎ (kept ≡ with_file file (Some (undone_change change state)) d))

  as_made : changed_by (Changed file change) d ≡ with_file file (Some (after_change change state)) d
  as_made = ap (λ (o : Option File). with_next o (after_change change) file d) is

  as_undone : changed_by (Undone file change) d ≡ with_file file (Some (undone_change change state)) d
  as_undone = ap (λ (o : Option File). with_next o (undone_change change) file d) is

  module _ (trace later : Trace) (at : held_by trace ≡ settled d) where
    -- the device after an attempt that ended
    pub after_attempt : (tried : Attempt) → later ≡ noted (attempted file change tried) trace → held_by later ≡ settled (changed_by (attempted file change tried) d)
    after_attempt attempt.Made noted_it = ap held_by noted_it ∙ ap (with_bytes (Changed file change)) at
    after_attempt attempt.Undone noted_it = ap held_by noted_it ∙ ap (with_bytes (Undone file change)) at

    pub reached_ok : (tried : Attempt) → later ≡ noted (attempted file change tried) trace → Reached (held_by later).kept
    reached_ok attempt.Made noted_it = inr (inl (ap (λ (h : Held). h.kept) (after_attempt attempt.Made noted_it) ∙ as_made))
    reached_ok attempt.Undone noted_it = inr (inr (ap (λ (h : Held). h.kept) (after_attempt attempt.Undone noted_it) ∙ as_undone))

    pub reached_err : MayBeMade (Changed file change) trace later → Reached (held_by later).kept
    reached_err (inl same) = inl (ap (λ (t : Trace). (held_by t).kept) same ∙ ap (λ (h : Held). h.kept) at)
    reached_err (inr noted_it) = reached_ok attempt.Made noted_it

  pub sound_reached : IsSound d → end_of change < file_limit → (kept : Disk) → Reached kept → IsSound kept
  sound_reached sound short kept (inl same) = subst IsSound (sym same) sound
  sound_reached sound short kept (inr (inl same)) = subst IsSound (sym same)
      (sound_with_file d file state (after_change change state) sound is (sound_with_change state change (changed change state.content) (sound.files file state is) (changed_in_part change state.content) short))
  sound_reached sound short kept (inr (inr same)) = subst IsSound (sym same)
      (sound_with_file d file state (undone_change change state) sound is (sound_with_change state change state.content (sound.files file state is) (unchanged_in_part change state.content) short))

  -- a file system that stopped at the attempt, and what the call says
  pub refused_reached : (wrong : Disk → ErrorKind → Type 0) (e : ErrorKind) (failures : ℕ) (kinds : List ErrorKind) (old : Disk) (later : Trace) (stopped : Bool) → old ≡ with_failures failures kinds d → d.stopped ≡ false
      → IsRight (wrong (with_failures failures kinds d)) → IsStopKind e → Reached (held_by later).kept → stopped ≡ true
      → Refused (SomeOf file change old) (Changes file (after_change change) old) (wrong old) e old (shown later stopped failures kinds)
  refused_reached wrong e failures kinds old later stopped same runs right told reached halted =
      subst (λ (k : Disk). Refused (SomeOf file change k) (Changes file (after_change change) k) (wrong k) e k (shown later stopped failures kinds)) (sym same) (elim reached [
        | inl stays ↦ stops runs told (with_failures failures kinds d) (inl refl) (shows d stays)
        | inr (inl made) ↦
            let left = with_failures failures kinds (with_file file (Some (after_change change state)) d) in
            stops runs told left (inr (right, inr record { runs = runs; file = state; is = is; done = refl })) (shows (with_file file (Some (after_change change state)) d) made)
        | inr (inr undone) ↦
            let left = with_failures failures kinds (with_file file (Some (undone_change change state)) d) in
            stops runs told left (inr (right, inl (some state state.content is (unchanged_in_part change state.content) refl))) (shows (with_file file (Some (undone_change change state)) d) undone)
      ])
    where
      shows : (k : Disk) → (held_by later).kept ≡ k → shown later stopped failures kinds ≡ over true failures kinds k
      shows k kept = ap (λ (m : Disk). over stopped failures kinds m) kept ∙ ap (λ (s : Bool). over s failures kinds k) halted

-- the file is still there where the model was given memory
pub still_there : (base mid : Storage) (file : ℕ) → contents_of mid ≡ contents_of base → ((contents_of base).files file ≡ None → ⊥) → held_of mid.files.items file ≡ None → ⊥
still_there base mid file same there gone = there (ap (λ (d : Disk). d.files file) (sym same) ∙ ap (option_map file_of) gone)

-- what is said of an attempt, at how it ended
pub ok_at : (r : Result Attempt ErrorKind) (value tried : Attempt) (P : Attempt → Type 0) → r ≡ Ok value → value ≡ tried → IfOk r P → P tried
ok_at r value tried P is same all = subst P same (subst (λ (s : Result Attempt ErrorKind). IfOk s P) is all)

-- a success that is handed on
pub went_on : (made result : Result (Unit {0}) ErrorKind) (v : Unit {0}) (P : Type 0) → result ≡ Ok v → IsToldOf made result → OnOk made P → P
went_on (Ok w) result v P is told all = all
went_on (Err e) result v P is told all = absurd (subst (λ (s : Result (Unit {0}) ErrorKind). OnOk s ⊥) is told.1)

-- a system that stopped follows nothing
pub never_follows : (stopped : Bool) (model : Storage) (later : Trace) → stopped ≡ true → Follows stopped model later
never_follows stopped model later halted = λ runs. absurd (false≢true (sym runs ∙ halted))

-- how an attempt changes the file
abbrev pub stepped : Change → Attempt → File → File
stepped change attempt.Made = after_change change
stepped change attempt.Undone = undone_change change

-- the model made the change
pub made_whole : (file : ℕ) (change : Change) (mid new : Storage) (r : Result (Unit {0}) ErrorKind) → OnOk r (Makes file change [] mid new)
    → OnOk r ((state : File) → (contents_of mid).files file ≡ Some state → contents_of new ≡ with_file file (Some (stepped change attempt.Made state)) (contents_of mid))
made_whole file change mid new r = ok_then r (λ makes state is. makes.contents state is ∙ ap (λ (f : File). with_file file (Some f) (contents_of mid)) (after_whole change state))

-- the model noted a write that was undone
pub made_front : (file at : ℕ) (bytes : List ℕ) (mid new : Storage) (r : Result (Unit {0}) ErrorKind) → OnOk r (Makes file (Wrote at (take 0 bytes)) (drop 0 bytes) mid new)
    → OnOk r ((state : File) → (contents_of mid).files file ≡ Some state → contents_of new ≡ with_file file (Some (stepped (Wrote at bytes) attempt.Undone state)) (contents_of mid))
made_front file at bytes mid new r = ok_then r (λ makes state is. makes.contents state is ∙ ap (λ (f : File). with_file file (Some f) (contents_of mid)) (front_change at bytes 0 state))

-- the model noted a growth that was undone
pub noted_growth_of : (file size : ℕ) (mid new : Storage) (r : Result (Unit {0}) ErrorKind) → OnOk r (NotesGrowth file size mid new)
    → OnOk r ((state : File) → (contents_of mid).files file ≡ Some state → contents_of new ≡ with_file file (Some (stepped (GrewTo size) attempt.Undone state)) (contents_of mid))
noted_growth_of file size mid new r = ok_then r (λ notes state is. notes.contents state is)

-- An attempt that failed on the device.
module _ (file : ℕ) (change : Change) (base : Storage) (there : (contents_of base).files file ≡ None → ⊥) (trace later : Trace) (at : held_by trace ≡ settled (contents_of base))
    (maybe : MayBeMade (Changed file change) trace later) where
  pub halted_sound : IsSound (contents_of base) → end_of change < file_limit → IsSound (held_by later).kept
  halted_sound sound short =
      let got = some_file ((contents_of base).files file) there in
      sound_reached file change base got.0 got.1 sound short (held_by later).kept (reached_err file change base got.0 got.1 trace later at maybe)

  pub halted_err : (wrong : Disk → ErrorKind → Type 0) (failures : ℕ) (kinds : List ErrorKind) (old : Disk) (stopped : Bool) → old ≡ with_failures failures kinds (contents_of base)
      → IsRight (wrong (with_failures failures kinds (contents_of base))) → stopped ≡ true
      → (e : ErrorKind) → IsStopKind e → Refused (SomeOf file change old) (Changes file (after_change change) old) (wrong old) e old (shown later stopped failures kinds)
  halted_err wrong failures kinds old stopped told right halted e stops_it =
      let got = some_file ((contents_of base).files file) there in
      refused_reached file change base got.0 got.1 wrong e failures kinds old later stopped told refl right stops_it (reached_err file change base got.0 got.1 trace later at maybe) halted

-- An attempt that ended, and the model that followed it from `mid`, which has the disk of `base`.
module _ (file : ℕ) (change : Change) (base mid new : Storage) (same : contents_of mid ≡ contents_of base) (there : (contents_of base).files file ≡ None → ⊥)
    (trace later : Trace) (at : held_by trace ≡ settled (contents_of base)) (tried : Attempt) (noted_it : later ≡ noted (attempted file change tried) trace) where
  -- the model did what the device did
  abbrev pub Did : Type 0
  Did = (state : File) → (contents_of mid).files file ≡ Some state → contents_of new ≡ with_file file (Some (stepped change tried state)) (contents_of mid)

  abbrev state : File
  state = (some_file ((contents_of base).files file) there).0

  is : (contents_of base).files file ≡ Some state
  is = (some_file ((contents_of base).files file) there).1

  device : held_by later ≡ settled (with_file file (Some (stepped change tried state)) (contents_of base))
  device = after_attempt file change base state is trace later at tried noted_it ∙ ap settled (as_stepped tried)
    where
      as_stepped : (tried : Attempt) → changed_by (attempted file change tried) (contents_of base) ≡ with_file file (Some (stepped change tried state)) (contents_of base)
      as_stepped attempt.Made = as_made file change base state is
      as_stepped attempt.Undone = as_undone file change base state is

  followed : Did → held_by later ≡ settled (contents_of new)
  followed did =
      device ∙ ap settled (ap (with_file file (Some (stepped change tried state))) (sym same) ∙ sym (did state (ap (λ (d : Disk). d.files file) same ∙ is)))

  pub ended_follows : (r : Result (Unit {0}) ErrorKind) (stopped : Bool) → OnOk r Did → OnErr r (stopped ≡ true) → Follows stopped new later
  ended_follows (Ok v) stopped did halted = λ runs. followed did
  ended_follows (Err e) stopped did halted = λ runs. absurd (false≢true (sym runs ∙ halted))

  pub ended_sound : IsSound (contents_of base) → end_of change < file_limit → IsSound (held_by later).kept
  ended_sound sound short = sound_reached file change base state is sound short (held_by later).kept (reached_ok file change base state is trace later at tried noted_it)

  -- a system that stopped after it
  pub ended_err : (wrong : Disk → ErrorKind → Type 0) (r : Result (Unit {0}) ErrorKind) (failures : ℕ) (kinds : List ErrorKind) (old : Disk) (stopped : Bool) → old ≡ with_failures failures kinds (contents_of base)
      → IsRight (wrong (with_failures failures kinds (contents_of base))) → OnErr r (stopped ≡ true)
      → OnErr r ((e : ErrorKind) → IsStopKind e → Refused (SomeOf file change old) (Changes file (after_change change) old) (wrong old) e old (shown later stopped failures kinds))
  ended_err wrong (Ok v) failures kinds old stopped told right halted = tt
  ended_err wrong (Err k) failures kinds old stopped told right halted = λ e stops_it.
      refused_reached file change base state is wrong e failures kinds old later stopped told refl right stops_it (reached_ok file change base state is trace later at tried noted_it) halted

  -- the disk of a system that runs on
  shows : (failures : ℕ) (kinds : List ErrorKind) (stopped : Bool) → stopped ≡ false → shown later stopped failures kinds ≡ with_failures failures kinds (with_file file (Some (stepped change tried state)) (contents_of base))
  shows failures kinds stopped runs =
      ap (λ (m : Disk). over stopped failures kinds m) (ap (λ (h : Held). h.kept) device) ∙ ap (λ (s : Bool). over s failures kinds (with_file file (Some (stepped change tried state)) (contents_of base))) runs

  pub ended_ok : (r : Result (Unit {0}) ErrorKind) (failures : ℕ) (kinds : List ErrorKind) (old : Disk) (stopped : Bool) → old ≡ with_failures failures kinds (contents_of base) → OnOk r (stopped ≡ false)
      → OnOk r (Changes file (stepped change tried) old (shown later stopped failures kinds))
  ended_ok (Ok v) failures kinds old stopped told runs = record {
    runs = ap (λ (d : Disk). d.stopped) told;
    file = state;
    is = ap (λ (d : Disk). d.files file) told ∙ is;
    done = shows failures kinds stopped runs ∙ ap (with_file file (Some (stepped change tried state))) (sym told);
  }
  ended_ok (Err e) failures kinds old stopped told runs = tt

-- an attempt that was undone, after which a failure was counted
pub undone_fails : (file : ℕ) (change : Change) (old mid new : Disk) (kind error : ErrorKind) (wrong : Disk → ErrorKind → Type 0) → old.stopped ≡ false → IsRight (wrong old)
    → Changes file (undone_change change) old mid → FailsOnce kind error mid new
    → Refused (SomeOf file change old) (Changes file (after_change change) old) (wrong old) error old new
undone_fails file change old mid new kind error wrong runs right undone fails =
    failed_after (SomeOf file change old) (Changes file (after_change change) old) (wrong old) error old mid new runs right
    (some undone.file undone.file.content undone.is (unchanged_in_part change undone.file.content) undone.done) fails
