use Rattle.raft_crash_examples.proofs.Both.{tries_both}
use Rattle.raft_crash_examples.proofs.batches.write_both.Goals as goal

pub returns : goal.returns
returns g c =
    record {
      ok = tries_both c.args.one.now c.args.other.now c.is_ok-answered.result _ _ c.in_ok-batch.batch c.add.new.batch c.add-2.new.batch c.write.result c.in_ok-batch.ensures c.in_ok-add.ensures c.in_ok-add-2.ensures
          c.is_ok-answered.ensures.value c.write.ensures.model;
    }
