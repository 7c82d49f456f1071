use Rattle.raft_log_engine.specs.raft_log_engine_laws.specs.EngineState.{shows}
use Rattle.raft_log_shared_examples.proofs.Lived.{closes_logs}
use Rattle.raft_log_shared_examples.proofs.lives.close.Goals as goal

pub returns-in-Ok-clause-closes : goal.returns-in-Ok-clause-closes
returns-in-Ok-clause-closes g c =
    let system = g.met.F.FileSystem g.world.𝓛 g.world.𝓜 g.world.𝓡 ((λ s x. x), (λ x. x), (λ x. x), λ x. x) in
    let engine = c.args.shared.engine in
    let closed = c.close-files.ensures in
    closes_logs c.successful_closes_are_proper.ensures c.closed_files_meet_the_premise.ensures
    (shows _ engine.tables engine.cache) c.close-files.result.result tt _ c.in-Ok.is (system.sound _) closed.fails
    closed.value
