use Rattle.raft_log_examples.proofs.Saved.{of_ok, only_put, saves_in_log, users_key}
use Rattle.raft_log_examples.proofs.saving.save_in_log.Goals as goal

pub returns : goal.returns
returns g c =
    record {
      ok = saves_in_log g.F.FileSystem.disk g.F.FileSystem.tells_space c.args.config c.args.group c.args.key.now c.args.value.now c.args.files c.close-closed.result.files _ _ c.in-Ok.engine.tables c.in-Ok.engine.cache
          c.put.new.self c.in_ok-write.field-0 _ c.in-Ok.ensures.ok (users_key c.args.key.now c.in_ok-put.ensures.internal)
          (only_put c.in_ok-batch.batch c.put.new.self c.args.group c.args.key.now c.args.value.now c.in_ok-batch.ensures c.in_ok-put.ensures.ok) c.in_ok-write.ensures.ok c.in_ok-write.ensures.model c.in_ok-found.ensures.ok c.in_ok-found.ensures.model (of_ok c.close-closed.result.result c.in_ok-closed.field-0 _ c.in_ok-closed.was c.close-closed.ensures.settled);
    }
