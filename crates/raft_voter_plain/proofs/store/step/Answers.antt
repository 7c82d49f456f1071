use Rattle.std.proofs.Common.{arith}
use Rattle.std.proofs.Math.Path.{fun_ext}
use Rattle.std.proofs.lemmas.Grind.{common_steps}
use Rattle.std.proofs.lemmas.Result.{on_err_weaker, on_ok_weaker}
use Rattle.raft_voter_plain.proofs.store.step.Goals as goal

pub returns-clause-changes : goal.returns-clause-changes
returns-clause-changes c =
    on_ok_weaker c.step.result (λ moved. fun_ext (λ h. grind (arith, common_steps, moved))) c.step.ensures.changes

pub returns-clause-refused : goal.returns-clause-refused
returns-clause-refused c =
    on_err_weaker c.step.result (λ same. fun_ext (λ h. grind (arith, common_steps, same))) c.step.ensures.err
