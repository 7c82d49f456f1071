use Rattle.std.proofs.Common.{refl}
use Rattle.raft_log_operator.specs.Purging.FailsToPurgePlace.{unmade, unwritten}
use Rattle.raft_log_operator.proofs.PurgeLemmas.{if_err, of_err, of_ok, on_ok}
use Rattle.raft_log_operator.proofs.purging.purge.Goals as goal

pub returns-in-Ok-result-clause-ok : goal.returns-in-Ok-result-clause-ok
returns-in-Ok-result-clause-ok g c = on_ok c.write_groups.result _ (c.in-Ok-result.groups.items, of_ok _ _ _ c.in-Ok-result.is c.purge_log-files.ensures.ok)

pub returns-in-Ok-result-clause-err : goal.returns-in-Ok-result-clause-err
returns-in-Ok-result-clause-err g c = if_err c.write_groups.result _ (λ fault. unwritten (c.in-Ok-result.groups.items, of_ok _ _ _ c.in-Ok-result.is c.purge_log-files.ensures.ok))

pub returns-in-Err-result-clause-err : goal.returns-in-Err-result-clause-err
returns-in-Err-result-clause-err g c = unmade c.in-Err-result.error refl (of_err _ _ _ c.in-Err-result.is c.purge_log-files.ensures.err)
