use Rattle.raft_log_shared_examples.proofs.Lived.{found_both}
use Rattle.raft_log_shared_examples.proofs.lives.live_twice.Goals as goal

pub returns : goal.returns
returns g c bare same =
    found_both c.args.config c.args.again _ _ _ _ (c.in_ok-files.ensures bare) c.in_ok-engine.ensures same
