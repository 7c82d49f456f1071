use Rattle.raft_crash_examples.proofs.Lived.{saved_values_are_loaded}
use Rattle.raft_crash_examples.proofs.laws.saved_values_are_loaded.Goals as goal

pub returns : goal.returns
returns g c = saved_values_are_loaded _ _ c.lives_follow_the_model.ensures
