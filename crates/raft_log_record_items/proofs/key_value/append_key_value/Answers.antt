use Rattle.std.proofs.Common.{rules, []}
use Rattle.raft_log_record_items.proofs.Spelled.{key_value_spelled}
use Rattle.raft_log_record_items.proofs.key_value.append_key_value.Goals as goal

pub returns-in_ok-append_operation-in-Some-clause-spelled :
    goal.returns-in_ok-append_operation-in-Some-clause-spelled
returns-in_ok-append_operation-in-Some-clause-spelled c =
    key_value_spelled c.args.key_value.now c.as_slice.result.now c.as_slice-in-Some.result.now (search rules) (search rules) c.in_ok-append_operation-in-Some.ensures.spelled

pub returns-in_ok-append_operation-in-None-clause-spelled :
    goal.returns-in_ok-append_operation-in-None-clause-spelled
returns-in_ok-append_operation-in-None-clause-spelled c =
    key_value_spelled c.args.key_value.now c.as_slice-in-None.result.now [] (search rules) (search rules) c.in_ok-append_operation-in-None.ensures.spelled
