use Rattle.raft_log_operator.specs.Purging.FailsToPurgeClosedLog.{unopened}
use Rattle.raft_log_operator.proofs.PurgeLemmas.{fails_log, purges_log}
use Rattle.raft_log_operator.proofs.purging.purge_log.Goals as goal

pub returns-in-Ok-open_alone-clause-ok : goal.returns-in-Ok-open_alone-clause-ok
returns-in-Ok-open_alone-clause-ok g c =
    let engine = c.in-Ok-open_alone.engine in
    purges_log g.F.FileSystem.disk g.F.FileSystem.tells_space c.args.place.now c.in-Ok.config c.args.files _ engine.tables engine.cache c.in-Ok.ensures c.in-Ok-open_alone.ensures.ok c.in-Ok-open_alone.ensures.none _ engine.thresholds c.in-Ok-open_alone.ensures.purges.sizes c.args.force
    c.purge_and_close.result.files c.purge_and_close.ensures.keeps c.purge_and_close.result.result c.purge_and_close.ensures.ok (λ v held (pipes, shown, none). none)

pub returns-in-Ok-open_alone-clause-err : goal.returns-in-Ok-open_alone-clause-err
returns-in-Ok-open_alone-clause-err g c =
    let engine = c.in-Ok-open_alone.engine in
    fails_log g.F.FileSystem.disk g.F.FileSystem.tells_space c.args.place.now c.in-Ok.config c.args.files _ engine.tables engine.cache c.in-Ok.ensures c.in-Ok-open_alone.ensures.ok c.in-Ok-open_alone.ensures.none _ engine.thresholds c.in-Ok-open_alone.ensures.purges.sizes c.args.force
    c.purge_and_close.result.files c.purge_and_close.ensures.keeps c.purge_and_close.result.result c.purge_and_close.ensures.err (λ v held (pipes, shown, none). none)

pub returns-in-Err-open_alone-clause-err : goal.returns-in-Err-open_alone-clause-err
returns-in-Err-open_alone-clause-err g c = unopened c.in-Ok.config c.in-Ok.ensures c.in-Err-open_alone.ensures.err
