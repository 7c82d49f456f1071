use Rattle.std.proofs.Common.{arith}
use Rattle.std.proofs.Math.Path.{fun_ext}
use Rattle.std.proofs.lemmas.Grind.{common_steps}
use Rattle.std.proofs.lemmas.Result.{on_ok_weaker, on_err_weaker}
use Rattle.raft_voter.proofs.voters.Voters.take.Goals as goal

pub returns-clause-changes : goal.returns-clause-changes
returns-clause-changes c =
    on_ok_weaker c.step.result (λ moved. fun_ext (λ h. grind (arith, common_steps, moved))) c.step.ensures.changes

pub returns-clause-err : goal.returns-clause-err
returns-clause-err c =
    on_err_weaker c.step.result (λ stayed. fun_ext (λ h. grind (arith, common_steps, stayed))) c.step.ensures.err
