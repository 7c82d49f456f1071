use Rattle.std.proofs.Common.{◌≡◌, false, true, refl, arith}
use Rattle.raft_log_operator.specs.Purging.FailsToPurgeEngine.{undeleted, unforced}
use Rattle.raft_log_operator.proofs.PurgeLemmas.{forced, not_forced, then_not_purged, then_purged}
use Rattle.raft_log_operator.proofs.purging.purge_engine.Goals as goal

pub returns-in-Err-clause-err : goal.returns-in-Err-clause-err
returns-in-Err-clause-err g c = undeleted c.in-Err.ensures.err

pub returns-in-Err-clause-model : goal.returns-in-Err-clause-model
returns-in-Err-clause-model g c = c.in-Err.ensures.model

pub returns-then-not-force-clause-ok : goal.returns-then-not-force-clause-ok
returns-then-not-force-clause-ok g c = not_forced _ _ _ _ _ _ c.in-Ok.groups.items _ _ c.in-Ok.ensures.ok c.args.force c.if-not-force.true

pub returns-then-not-force-clause-model : goal.returns-then-not-force-clause-model
returns-then-not-force-clause-model g c = c.in-Ok.ensures.model

pub returns-in-Ok-purge_by_force-clause-ok : goal.returns-in-Ok-purge_by_force-clause-ok
returns-in-Ok-purge_by_force-clause-ok g c =
    let asked : c.args.force ≡ true = grind (arith, c.if-not-force.false) in
    forced _ _ _ _ _ _ c.in-Ok.groups.items _ _ c.in-Ok.ensures.ok c.args.force asked _ c.in-Ok-purge_by_force.ensures.ok

pub returns-in-Ok-purge_by_force-clause-model : goal.returns-in-Ok-purge_by_force-clause-model
returns-in-Ok-purge_by_force-clause-model g c = then_purged _ _ _ _ _ _ c.in-Ok.ensures.model c.in-Ok-purge_by_force.ensures.model

pub returns-in-Err-purge_by_force-clause-err : goal.returns-in-Err-purge_by_force-clause-err
returns-in-Err-purge_by_force-clause-err g c =
    let asked : c.args.force ≡ true = grind (arith, c.if-not-force.false) in
    unforced c.in-Ok.groups.items _ (not_forced _ _ _ _ _ _ c.in-Ok.groups.items _ _ c.in-Ok.ensures.ok false refl) asked c.in-Err-purge_by_force.ensures.err

pub returns-in-Err-purge_by_force-clause-model : goal.returns-in-Err-purge_by_force-clause-model
returns-in-Err-purge_by_force-clause-model g c = then_not_purged _ _ _ _ _ _ _ c.in-Ok.ensures.model c.in-Err-purge_by_force.ensures.model
