use Rattle.raft_log_engine.specs.raft_log_engine_laws.specs.EngineState.{shows}
use Rattle.raft_shared_examples.proofs.Closed.{closes_well}
use Rattle.raft_shared_examples.proofs.lives.close.Goals as goal

pub returns-in-Ok-clause-closes : goal.returns-in-Ok-clause-closes
returns-in-Ok-clause-closes g c =
    let engine = c.args.settled.store.store.engine in
    closes_well c.successful_closes_are_proper.ensures (shows _ engine.tables engine.cache) c.close-files.result.result tt _ c.in-Ok.is c.close-files.ensures.fails c.close-files.ensures.value
