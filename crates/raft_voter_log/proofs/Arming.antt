-- A fault is armed below a store.
use Rattle.std.proofs.Common.{◌≡◌, ◌∙◌, ℕ, refl, sym, ap, subst, inl, inr}
use Rattle.raft_log_fs.specs.Disk.{Disk}
use Rattle.raft_log_fs.specs.Exits.{denied_by}
use Rattle.raft_log_fs.specs.declared.handle.Fault.{Fault}
use Rattle.raft_log_fs.specs.declared.handle.Fault.TheVariants.{DenyRead, Refuse, RefuseInPart, Space, StopAfter, StopAt}
use Rattle.raft_voter_durability_laws.specs.raft_log_engine_laws.specs.EngineState.{EngineState}
use Rattle.raft_log_engine_core.specs.Whole.{ArmsEngine}
use Rattle.raft_voter_durability_laws.specs.Standing.{Keeps}
use Rattle.raft_voter_log.specs.Kept.{ArmsKeepVoters, DeniesNone}

unmarked : (fault : Fault) (d : Disk) → DeniesNone fault → denied_by fault d ≡ d
unmarked (Refuse n) d none = refl
unmarked (RefuseInPart n k) d none = refl
unmarked (DenyRead name place) d none = absurd none
unmarked (StopAt n) d none = refl
unmarked (StopAfter n) d none = refl
unmarked (Space path bytes) d none = refl

same_shown : (fault : Fault) (s t : EngineState) → DeniesNone fault → ArmsEngine fault s t → t ≡ s
same_shown fault s t none arms =
    let disk : t.pipes.disk ≡ s.pipes.disk = elim arms.pipes.disk.marks [
      | inl same ↦ same
      | inr marked ↦ marked ∙ unmarked fault s.pipes.disk none
    ] in
    let pipes : t.pipes ≡ s.pipes = arms.pipes.others ∙ ap (λ d. record s.pipes { disk = d }) disk in
    arms.others ∙ ap (λ v. record s { pipes = v }) pipes

pub arms_keep_voters : ArmsKeepVoters
arms_keep_voters home V fault s t none keeps arms = subst (λ x. Keeps home x V) (sym (same_shown fault s t none arms)) keeps
