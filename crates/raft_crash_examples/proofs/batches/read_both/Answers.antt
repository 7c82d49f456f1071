use Rattle.raft_crash_examples.proofs.Both.{writes_both_or_neither}
use Rattle.raft_crash_examples.proofs.batches.read_both.Goals as goal

pub returns : goal.returns
returns g c =
    record {
      ok = writes_both_or_neither _ _ c.lives_follow_the_model.ensures c.args.config c.args.one.now c.args.other.now c.args.again c.args.files c.in_ok-left.left c.in_ok-engine.answered _ _ _
          c.in_ok-engine.ensures.ok c.in_ok-left.ensures c.in_ok-found.ensures.ok;
    }
