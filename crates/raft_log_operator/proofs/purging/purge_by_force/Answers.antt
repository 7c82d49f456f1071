use Rattle.raft_log_operator.specs.Purging.FailsByForce.{unfreed, unmoved}
use Rattle.raft_log_operator.proofs.PurgeLemmas.{if_err_as, on_ok_as, then_any}
use Rattle.raft_log_operator.proofs.purging.purge_by_force.Goals as goal

pub returns-in-Ok-clause-ok : goal.returns-in-Ok-clause-ok
returns-in-Ok-clause-ok g c = on_ok_as c.must_purge_all_stale.result _ _
    (λ frees. record {
      copied = c.must_rewrite_append_queue.new.self.tables;
      between = _;
      rewrites = c.in-Ok.ensures.ok;
      tables = c.must_purge_all_stale.new.self.tables;
      frees = frees;
    })
    c.must_purge_all_stale.ensures.ok

pub returns-in-Ok-clause-err : goal.returns-in-Ok-clause-err
returns-in-Ok-clause-err g c = if_err_as c.must_purge_all_stale.result _ _ (λ error stops. unfreed _ _ c.in-Ok.ensures.ok stops) c.must_purge_all_stale.ensures.err

pub returns-in-Ok-clause-model : goal.returns-in-Ok-clause-model
returns-in-Ok-clause-model g c = then_any _ _ c.must_purge_all_stale.result _ _ _ c.in-Ok.ensures.model c.must_purge_all_stale.ensures.model

pub returns-in-Err-clause-err : goal.returns-in-Err-clause-err
returns-in-Err-clause-err g c = unmoved c.in-Err.ensures.err

pub returns-in-Err-clause-model : goal.returns-in-Err-clause-model
returns-in-Err-clause-model g c = c.in-Err.ensures.model
