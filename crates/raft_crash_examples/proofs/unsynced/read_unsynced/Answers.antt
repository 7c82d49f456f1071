use Rattle.raft_crash_examples.proofs.Kept.{stays_as_read}
use Rattle.raft_crash_examples.proofs.unsynced.read_unsynced.Goals as goal

pub returns : goal.returns
returns g c =
    record {
      ok = stays_as_read _ _ c.lives_follow_the_model.ensures c.args.config c.args.group c.args.key.now c.args.value.now c.args.look c.args.ending.now c.args.lives.now c.args.last c.args.files c.in_ok-left.left c.in_ok-first.seen
          c.in_ok-behind.behind _ _ _ c.in_ok-engine.ensures.ok c.in_ok-left.ensures c.in_ok-first.ensures.ok c.in_ok-behind.ensures.ok c.in_ok-later.ensures.ok;
    }
