-- In every image the entries of a group are one run.
use Rattle.std.proofs.Common.{◌≡◌, ℕ, List, [], ◌∷◌, ◌++◌, false, refl, sym, ap, ◌∙◌, subst, inl, inr, append-nil}
use Rattle.raft_log_model_laws.specs.Item.{Record}
use Rattle.raft_log_model_laws.specs.Groups.{taken}
use Rattle.raft_log_machine_laws.specs.Machine.{Machine, Event, Step, Steps, IsKept, said_of}
use Rattle.raft_log_machine_laws.specs.Machine.Event.{Take, SyncAppend, SyncRewrite, WritePlain, WriteBegin, WriteMiddle, WriteEnd, RaiseAppend, RaiseRewrite, LoseAppend, LoseRewrite, Fail, Reopen}
use Rattle.raft_log_machine_laws.specs.Fresh.{fresh_machine}
use Rattle.raft_log_machine_laws.specs.Images.{IsOneRun, HasRuns}
use Rattle.raft_log_machine_laws.proofs.RecoveryLaws.{run_told}
use Rattle.raft_log_machine_laws.proofs.Starts.{beginnings, no_front}
use Rattle.raft_log_machine_laws.proofs.MachineKeeps.{step_keeps}
use Rattle.raft_log_machine_laws.proofs.FreshKeeps.{fresh_keeps}

module _ {E V : Type 0} where
  -- after all pending batches the whereabouts of an engine that hasn't failed tell the run
  pub run_of_all : (w : Machine E V) → IsKept w → w.failed ≡ false → (g : ℕ) → IsOneRun (taken w.map w.store.append.pending g)
  run_of_all w k alive g = run_told (said_of g w.store) (taken w.map w.store.append.pending g) (w.whereabouts g) (k.whereabouts alive g)

  -- the same map with the same batches pending
  runs_same : (w v : Machine E V) → HasRuns w → v.map ≡ w.map → v.store.append.pending ≡ w.store.append.pending → HasRuns v
  runs_same w v h m p = record {
    runs = λ g kept lost e. subst (λ x. IsOneRun (taken x kept g)) (sym m) (h.runs g kept lost (e ∙ p));
  }

  -- one more batch is pending
  runs_take : (w v : Machine E V) (y : Record E V) → HasRuns w → v.map ≡ w.map → v.store.append.pending ≡ w.store.append.pending ++ y ∷ []
      → ((g : ℕ) → IsOneRun (taken v.map v.store.append.pending g)) → HasRuns v
  runs_take w v y h m p whole = record {
    runs = λ g kept lost e. elim (beginnings kept lost w.store.append.pending y (e ∙ p)) [
      | inl before ↦ subst (λ x. IsOneRun (taken x kept g)) (sym m) (h.runs g kept before.0 before.1)
      | inr all ↦ subst (λ l. IsOneRun (taken v.map l g)) (p ∙ sym all) (whole g)
    ];
  }

  -- some of the pending batches are in the map now, and none is pending
  runs_settled : (w v : Machine E V) (kept lost : List (Record E V)) → HasRuns w → kept ++ lost ≡ w.store.append.pending → v.map ≡ taken w.map kept
      → v.store.append.pending ≡ [] → HasRuns v
  runs_settled w v kept lost h e m p = record {
    runs = λ g more rest f. subst (λ l. IsOneRun (taken v.map l g)) (sym (no_front more rest (f ∙ p)))
        (subst (λ x. IsOneRun (taken x [] g)) (sym m) (h.runs g kept lost e));
  }

-- each event keeps it
pub step_runs : {E V : Type 0} (e : Event E V) (w v : Machine E V) → Step e w v → IsKept w → HasRuns w → HasRuns v
step_runs (Take y) w v h k r =
    runs_take w v y r (ap (λ x. x.map) h.1.2) (ap (λ x. x.store.append.pending) h.1.2)
    (run_of_all v (step_keeps (Take y) w v h k) (ap (λ x. x.failed) h.1.2 ∙ h.0))
step_runs SyncAppend w v h k r =
    runs_settled w v w.store.append.pending [] r (append-nil w.store.append.pending) (ap (λ x. x.map) h.1) (ap (λ x. x.store.append.pending) h.1)
step_runs SyncRewrite w v h k r = runs_same w v r (ap (λ x. x.map) h.1) (ap (λ x. x.store.append.pending) h.1)
step_runs (WritePlain xs) w v h k r = runs_same w v r (ap (λ x. x.map) h.3.2) (ap (λ x. x.store.append.pending) h.3.2)
step_runs (WriteBegin n xs) w v h k r = runs_same w v r (ap (λ x. x.map) h.2) (ap (λ x. x.store.append.pending) h.2)
step_runs (WriteMiddle n xs) w v h k r = runs_same w v r (ap (λ x. x.map) h.2.3) (ap (λ x. x.store.append.pending) h.2.3)
step_runs (WriteEnd n xs) w v h k r = runs_same w v r (ap (λ x. x.map) h.3.3.2) (ap (λ x. x.store.append.pending) h.3.3.2)
step_runs (RaiseAppend out stay) w v h k r = runs_same w v r (ap (λ x. x.map) h.6) (ap (λ x. x.store.append.pending) h.6)
step_runs (RaiseRewrite out stay) w v h k r = runs_same w v r (ap (λ x. x.map) h.5) (ap (λ x. x.store.append.pending) h.5)
step_runs (LoseAppend lost rest) w v h k r = runs_same w v r (ap (λ x. x.map) h.1) (ap (λ x. x.store.append.pending) h.1)
step_runs (LoseRewrite lost rest) w v h k r = runs_same w v r (ap (λ x. x.map) h.1) (ap (λ x. x.store.append.pending) h.1)
step_runs Fail w v h k r = runs_same w v r (ap (λ x. x.map) h) (ap (λ x. x.store.append.pending) h)
step_runs (Reopen r_kept r_lost r_cut r_back a_kept a_lost a_cut a_back) w v h k r =
    runs_settled w v a_kept a_lost r h.2 (ap (λ x. x.map) h.4.2) (ap (λ x. x.store.append.pending) h.4.2)

pub steps_run : {E V : Type 0} (es : List (Event E V)) (w v : Machine E V) → Steps w es v → IsKept w → HasRuns w → HasRuns v
steps_run [] w v h k r = subst (λ x. HasRuns x) (sym h) r
steps_run (e ∷ es) w v h k r = steps_run es h.0 v h.2 (step_keeps e w h.0 h.1 k) (step_runs e w h.0 h.1 k r)

pub fresh_runs : {E V : Type 0} → HasRuns (fresh_machine {E = E} {V = V})
fresh_runs {E} {V} =
    let fresh : Machine E V = fresh_machine in
    record { runs = λ g kept lost e. subst (λ l. IsOneRun (taken fresh.map l g)) (sym (no_front kept lost e)) (run_of_all fresh fresh_keeps refl g) }

pub schedule_runs : {E V : Type 0} (es : List (Event E V)) (v : Machine E V) → Steps fresh_machine es v → HasRuns v
schedule_runs es v h = steps_run es fresh_machine v h fresh_keeps fresh_runs
