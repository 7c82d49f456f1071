use Rattle.raft_log_world_engine.proofs.AnyFiles as lemmas
use Rattle.raft_log_world_engine.proofs.laws.crashes_follow_the_model.Goals as goal

pub returns : goal.returns
returns g c = record {
  files = lemmas.file_crashes_follow_the_model _ c.crashed_logs_rest.ensures;
  engine = lemmas.engine_crashes_follow_the_model _ _ _ g.met.F.FileSystem.sound c.crashed_logs_rest.ensures c.crashed_engines_open.ensures;
}
