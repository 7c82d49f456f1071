use Rattle.raft_crash_examples.proofs.Copied.{copies_read_alike}
use Rattle.raft_crash_examples.proofs.laws.copies_read_alike.Goals as goal

pub returns : goal.returns
returns g c = copies_read_alike _ _ c.lives_follow_the_model.ensures c.copies_follow_the_model.ensures
