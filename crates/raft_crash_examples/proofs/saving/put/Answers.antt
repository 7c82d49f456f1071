use Rattle.std.proofs.Common.{[]}
use Rattle.raft_crash_examples.specs.Saving.{put_of}
use Rattle.raft_crash_examples.proofs.Said.{put_said, some_of, users_key, writes_record}
use Rattle.raft_crash_examples.proofs.saving.put.Goals as goal

pub returns : goal.returns
returns g c =
    let key = c.args.key.now in
    let value = c.args.value.now in
    record {
      ok = writes_record c.put.new.self c.args.sync c.in_ok-write.field-0 (put_of c.args.group key value) _ _ (put_said c.in_ok-batch.batch c.put.new.self c.args.group key value c.in_ok-batch.ensures c.in_ok-put.ensures.ok
          (users_key key c.in_ok-put.ensures.internal)) (some_of _ []) c.in_ok-write.ensures.model;
    }
