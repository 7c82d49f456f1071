use Rattle.std.proofs.Common.{[], true}
use Rattle.raft_crash_examples.specs.Changing.{said_by}
use Rattle.raft_crash_examples.proofs.Said.{change_said, some_of, writes_record}
use Rattle.raft_crash_examples.proofs.changing.write_change.Goals as goal

pub returns : goal.returns
returns g c =
    let change = c.args.change.now in
    record {
      ok = writes_record c.add.new.batch true c.in_ok-write.field-0 (said_by change) _ _ (change_said change c.in_ok-batch.batch c.add.new.batch c.in_ok-batch.ensures c.in_ok-add.ensures) (some_of _ []) c.in_ok-write.ensures.model;
    }
