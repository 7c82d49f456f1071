use Rattle.raft_log_record_items.proofs.Spelled.{put_spelled, del_spelled}
use Rattle.raft_log_record_items.proofs.key_value.append_operation.Goals as goal

pub returns-in_ok-append_bytes-in-Put-2-clause-spelled : goal.returns-in_ok-append_bytes-in-Put-2-clause-spelled
returns-in_ok-append_bytes-in-Put-2-clause-spelled c =
    rw c.in-Put.is (put_spelled c.args.key.now c.args.value.now c.in_ok-append_bytes-in-Put.ensures.spelled c.in_ok-append_bytes-in-Put-2.ensures.spelled)

pub returns-in_ok-append_bytes-in-Del-clause-spelled : goal.returns-in_ok-append_bytes-in-Del-clause-spelled
returns-in_ok-append_bytes-in-Del-clause-spelled c =
    rw c.in-Del.is (del_spelled c.args.key.now c.args.value.now c.in_ok-append_bytes-in-Del.ensures.spelled)
