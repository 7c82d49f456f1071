use Rattle.raft_log_world_engine.proofs.AnyFiles as lemmas
use Rattle.raft_log_world_engine.proofs.laws.opens_follow_the_model.Goals as goal

pub returns : goal.returns
returns g c = lemmas.opens_follow_the_model _ _ _ g.met.F.FileSystem.sound c.bare_directories_open.ensures c.resting_directories_open.ensures c.standing_directories_open.ensures
