use Rattle.raft_log_world_engine.proofs.AnyFiles as lemmas
use Rattle.raft_log_world_engine.proofs.laws.copies_follow_the_model.Goals as goal

pub returns : goal.returns
returns g c = lemmas.copies_follow_the_model _ _ _ g.met.F.FileSystem.sound c.targets_are_clear.ensures c.forked_logs_rest.ensures c.forks_leave_the_source.ensures c.left_logs_show_alike.ensures
