use Rattle.std.proofs.Common.{inr}
use Rattle.std.proofs.lemmas.Result.{err_from_is_err_and}
use Rattle.raft_log_offline.proofs.copying.read_whole.Goals as goal

pub returns-in_err-read_at-clause-err : goal.returns-in_err-read_at-clause-err
returns-in_err-read_at-clause-err g c =
    let gave = err_from_is_err_and c.from_residual-in_err-read_at.result c.from_residual-in_err-read_at.ensures.1 in
    rw (gave.1, gave.2) (inr (_, c.in_err-read_at.ensures.err))
