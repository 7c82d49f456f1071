-- Causes, chained along calls.
use Rattle.std.specs.Prelude.{◌≡◌, ℕ, Bool, true, false, List, ◌∷◌, Result}
use Rattle.std.specs.Result.{IfErr, OnOk}
use Rattle.std.specs.declared.io.ErrorKind.{ErrorKind}
use Rattle.std.proofs.Common.{refl, sym, ◌∙◌, ap, arith}
use Rattle.std.proofs.lemmas.Bool.{false≢true}
use Rattle.raft_log_fs.specs.Disk.{Change, Disk}
use Rattle.raft_log_fs.specs.Laws.{UndisturbedHasNoCause, OtherFilesAreNoCause, CountedRefusalTellsItsKind, CountedRefusalHasOneKind, StopIsNoWantOfMemory}
use Rattle.raft_log_fs.specs.Calls.{IsStopKind, IsRight, after_change, flushed, Changes, Renames, Refused, after_stop, wrong_argument, failed, stops, SomeOf, none, some, RefusedChange, RefusedWhole}
use Rattle.raft_log_fs.specs.Causes.{stopped, counted_one, unreadable_place, Fails, has_stopped, has_failed, IsLater}
use Rattle.raft_log_fs.proofs.KeptLaws.{IsCalm, kept_change, kept_sync, kept_rename}

-- no cause stands behind a refusal on an undisturbed disk
pub undisturbed_has_no_cause : (files : ℕ → Type 0) → UndisturbedHasNoCause files
undisturbed_has_no_cause files old new quiet same (stopped is) = false≢true (sym quiet.runs ∙ is)
undisturbed_has_no_cause files old new quiet same (counted_one rises) = omega arith
undisturbed_has_no_cause files old new quiet same (unreadable_place id place one is) = false≢true (sym (quiet.readable id place) ∙ is)

-- a place of another file is none
pub other_files_are_no_cause : (files : ℕ → Type 0) → OtherFilesAreNoCause files
other_files_are_no_cause files old new readable (stopped is) = has_stopped is
other_files_are_no_cause files old new readable (counted_one rises) = has_failed rises
other_files_are_no_cause files old new readable (unreadable_place id place one is) = absurd (false≢true (sym (readable id place one) ∙ is))

-- a refused call whose arguments were right, on a disk that runs on, was counted, and tells the kind that is kept
pub tells_its_kind : {part done : Disk → Type 0} {wrong : ErrorKind → Type 0} {error : ErrorKind} {old new : Disk} → ((left : Disk) → part left → left.kinds ≡ old.kinds) → IsRight wrong
    → new.stopped ≡ false → Refused part done wrong error old new → new.kinds ≡ error ∷ old.kinds
tells_its_kind {old = old} keeps right runs (after_stop is same told) = absurd (false≢true (sym runs ∙ (ap (λ (d : Disk). d.stopped) same ∙ is)))
tells_its_kind {error = error} keeps right runs (wrong_argument before why same) = absurd (right error why)
tells_its_kind {error = error} keeps right runs (failed before fine left is same) =
    ap (λ (d : Disk). d.kinds) same ∙ ap (λ (kinds : List ErrorKind). error ∷ kinds) (keeps left is)
tells_its_kind keeps right runs (stops before told left is same) = absurd (false≢true (sym runs ∙ ap (λ (d : Disk). d.stopped) same))

change_keeps : (id : ℕ) (change : Change) (old left : Disk) → SomeOf id change old left → left.kinds ≡ old.kinds
change_keeps id change old left (none same) = ap (λ (d : Disk). d.kinds) same
change_keeps id change old left (some file content is part same) = ap (λ (d : Disk). d.kinds) same

pub counted_refusal_tells_its_kind : (wrong : ErrorKind → Type 0) (done : Disk → Type 0) → CountedRefusalTellsItsKind wrong done
counted_refusal_tells_its_kind wrong done = record {
  change = λ id change error old new right runs refused. tells_its_kind (change_keeps id change old) right runs refused;
  whole = λ error old new right runs refused. tells_its_kind (λ left same. ap (λ (d : Disk). d.kinds) same) right runs refused;
}

-- so two kinds that it tells are one
one_front : {A : Type 0} (a b : A) (l m : List A) → m ≡ a ∷ l → m ≡ b ∷ l → a ≡ b
one_front a b l m here there = cc

pub counted_refusal_has_one_kind : (wrong : ErrorKind → Type 0) (done : Disk → Type 0) → CountedRefusalHasOneKind wrong done
counted_refusal_has_one_kind wrong done = record {
  change = λ id change a b old new right runs first next. let tells = (counted_refusal_tells_its_kind wrong done).change id change in
      one_front a b old.kinds new.kinds (tells a old new right runs first) (tells b old new right runs next);
  whole = λ a b old new right runs first next. let tells = (counted_refusal_tells_its_kind wrong done).whole in
      one_front a b old.kinds new.kinds (tells a old new right runs first) (tells b old new right runs next);
}

-- a refused call that leaves a file system that has stopped tells of no want of memory
no_want_of_memory : {part done : Disk → Type 0} {wrong : ErrorKind → Type 0} {error : ErrorKind} {old new : Disk} → ((left : Disk) → part left → left.stopped ≡ old.stopped)
    → new.stopped ≡ true → Refused part done wrong error old new → IsStopKind error
no_want_of_memory keeps ends (after_stop is same told) = λ memory. cc (told, memory)
no_want_of_memory keeps ends (wrong_argument runs why same) = absurd (false≢true (sym runs ∙ (sym (ap (λ (d : Disk). d.stopped) same) ∙ ends)))
no_want_of_memory keeps ends (failed runs right left is same) =
    absurd (false≢true (sym runs ∙ (sym (keeps left is) ∙ (sym (ap (λ (d : Disk). d.stopped) same) ∙ ends))))
no_want_of_memory keeps ends (stops runs told left is same) = told

change_stays : (id : ℕ) (change : Change) (old left : Disk) → SomeOf id change old left → left.stopped ≡ old.stopped
change_stays id change old left (none same) = ap (λ (d : Disk). d.stopped) same
change_stays id change old left (some file content is part same) = ap (λ (d : Disk). d.stopped) same

pub stop_is_no_want_of_memory : (wrong : ErrorKind → Type 0) (done : Disk → Type 0) → StopIsNoWantOfMemory wrong done
stop_is_no_want_of_memory wrong done = record {
  change = λ id change error old new ends refused. no_want_of_memory (change_stays id change old) ends refused;
  whole = λ error old new ends refused. no_want_of_memory (λ left same. ap (λ (d : Disk). d.stopped) same) ends refused;
}

pub later_same : (d : Disk) → IsLater d d
later_same d = record { failures = omega arith; stopped = λ is. is }

pub later_then : (a b c : Disk) → IsLater a b → IsLater b c → IsLater a c
later_then a b c first next = record { failures = omega (arith, first.failures, next.failures); stopped = λ is. next.stopped (first.stopped is) }

-- a failure after other calls is a failure since before them
pub fails_after : (a b c : Disk) → IsLater a b → Fails b c → Fails a c
fails_after a b c first (has_stopped is) = has_stopped is
fails_after a b c first (has_failed rises) = has_failed (omega (arith, first.failures, rises))

-- a failure before other calls is one still
pub fails_still : (a b c : Disk) → Fails a b → IsLater b c → Fails a c
fails_still a b c (has_stopped is) next = has_stopped (next.stopped is)
fails_still a b c (has_failed rises) next = has_failed (omega (arith, next.failures, rises))

-- a refused call whose argument was right has failed
pub fails : {part done : Disk → Type 0} {wrong : ErrorKind → Type 0} {error : ErrorKind} {old new : Disk} → IsRight wrong → ((left : Disk) → part left → left.failures ≡ old.failures)
    → Refused part done wrong error old new → Fails old new
fails {old = old} right keeps (after_stop is same told) = has_stopped (ap (λ (d : Disk). d.stopped) same ∙ is)
fails {error = error} right keeps (wrong_argument runs why same) = absurd (right error why)
fails {old = old} right keeps (failed runs fine left is same) =
    has_failed (let count : left.failures ≡ old.failures = keeps left is in omega (arith, ap (λ (d : Disk). d.failures) same, count))
fails right keeps (stops runs told left is same) = has_stopped (ap (λ (d : Disk). d.stopped) same)

pub fails_change : {id : ℕ} {change : Change} {wrong : ErrorKind → Type 0} {error : ErrorKind} {old new : Disk} → IsRight wrong → RefusedChange id change wrong error old new → Fails old new
fails_change {id = id} {change = change} {old = old} right refused = fails right keeps refused
  where
    keeps : (left : Disk) → SomeOf id change old left → left.failures ≡ old.failures
    keeps left (none same) = ap (λ (d : Disk). d.failures) same
    keeps left (some file content is part same) = ap (λ (d : Disk). d.failures) same

pub fails_whole : {done : Disk → Type 0} {wrong : ErrorKind → Type 0} {error : ErrorKind} {old new : Disk} → IsRight wrong → RefusedWhole done wrong error old new → Fails old new
fails_whole right refused = fails right (λ left same. ap (λ (d : Disk). d.failures) same) refused

-- to be later is calm
pub later_calm : (old : Disk) → IsCalm (IsLater old)
later_calm old = record {
  at_count = λ d later. record { failures = omega (arith, later.failures); stopped = later.stopped };
  at_end = λ d later. record { failures = later.failures; stopped = λ is. refl };
}

-- each call, answered or refused, leaves a later disk
pub later_change : {T : Type 0} {old new : Disk} (wrong : ErrorKind → Type 0) (result : Result T ErrorKind) (id : ℕ) (change : Change)
    → OnOk result (Changes id (after_change change) old new) → IfErr result (λ e. RefusedChange id change wrong e old new) → IsLater old new
later_change {old = old} wrong result id change ok err =
    kept_change (IsLater old) wrong result id change (later_calm old) (later_same old) (λ file content is part. record { failures = omega arith; stopped = λ is. is }) ok err

pub later_sync : {T : Type 0} {old new : Disk} (wrong : ErrorKind → Type 0) (result : Result T ErrorKind) (id : ℕ)
    → OnOk result (Changes id flushed old new) → IfErr result (λ e. RefusedWhole (Changes id flushed old) wrong e old new) → IsLater old new
later_sync {old = old} wrong result id ok err =
    kept_sync (IsLater old) wrong result id (later_calm old) (later_same old) (λ file is. record { failures = omega arith; stopped = λ is. is }) ok err

pub later_rename : {T : Type 0} {old new : Disk} (wrong : ErrorKind → Type 0) (result : Result T ErrorKind) (from to : List ℕ)
    → OnOk result (Renames from to old new) → IfErr result (λ e. RefusedWhole (Renames from to old) wrong e old new) → IsLater old new
later_rename {old = old} wrong result from to ok err =
    kept_rename (IsLater old) wrong result from to (later_calm old) (later_same old) (λ id is apart home. record { failures = omega arith; stopped = λ is. is }) ok err
