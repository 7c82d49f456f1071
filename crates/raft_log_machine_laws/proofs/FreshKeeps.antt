-- The fresh machine keeps the machine's invariant, so each machine that a schedule leads to survives.
use Rattle.std.proofs.Common.{ℕ, List, [], ◌++◌, None, refl, sym, ap, ◌∙◌, inl, arith}
use Rattle.raft_log_model_laws.specs.Groups.{directory_meaning, taken}
use Rattle.raft_log_machine_laws.specs.Survival.{HoldsMap, Survives}
use Rattle.raft_log_machine_laws.specs.Truth.{AreCorrect}
use Rattle.raft_log_machine_laws.specs.Machine.{Machine, Event, Steps, IsKept, said_of}
use Rattle.raft_log_machine_laws.specs.Fresh.{nowhere, nothing_stands, fresh_machine}
use Rattle.raft_log_machine_laws.proofs.Starts.{no_front, no_back}
use Rattle.raft_log_machine_laws.proofs.TruthCarries.{differ}
use Rattle.raft_log_machine_laws.proofs.SurvivalSteps.{survives}
use Rattle.raft_log_machine_laws.proofs.MachineKeeps.{steps_keep}

module _ {E V : Type 0} where
  fresh_holds : HoldsMap (fresh_machine {E = E} {V = V}).store nothing_stands
  fresh_holds g s r_kept r_lost r_cut r_back a_cut a_back kept r_start a_start =
      ap (λ l. directory_meaning (l ++ r_kept) (a_back ++ []) g s) (no_back r_cut r_back r_start)
      ∙ ap (λ l. directory_meaning l (a_back ++ []) g s) (no_front r_kept r_lost kept)
      ∙ ap (λ l. directory_meaning [] (l ++ []) g s) (no_back a_cut a_back a_start)

  fresh_truth : (g : ℕ) → AreCorrect (said_of g (fresh_machine {E = E} {V = V}).store) (taken nothing_stands [] g) nowhere
  fresh_truth g = record {
    in_order = (omega arith, omega arith, omega arith);
    below = λ i h. refl;
    above = λ i h. refl;
    solid = λ i low high. absurd (omega arith);
    rewritten = λ i low high. absurd (omega arith);
    newer = λ i low some. absurd (omega arith);
    key_newer = λ k h. differ (sym h);
    key_older = λ k h. inl refl;
    after_clean = λ h. differ (sym h);
    after_delete = λ k h a. refl;
    index = λ i high. inl (refl, refl);
    key = λ k. inl (refl, refl);
  }

  pub fresh_keeps : IsKept (fresh_machine {E = E} {V = V})
  fresh_keeps = record { holds = fresh_holds; unbroken = (None, tt); fits = tt; whereabouts = λ alive. fresh_truth }

  pub schedule_survives : (es : List (Event E V)) (v : Machine E V) → Steps fresh_machine es v → Survives v.store v.map v.store.append.pending
  schedule_survives es v h = survives v.store v.map (steps_keep es fresh_machine v h fresh_keeps).holds
