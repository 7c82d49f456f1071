use Rattle.std.proofs.Common.{List, ℕ, subst}
use Rattle.raft_log_record_items.specs.Items.{del_item}
use Rattle.raft_log_record_batches.specs.Batch.{AddsItem}
use Rattle.raft_log_purge_copy.proofs.Carried.{command_added, delete_added}
use Rattle.raft_log_purge_copy.proofs.marks.add_mark.Goals as goal

pub returns-in_ok-add_command-in-Command-clause-ok : goal.returns-in_ok-add_command-in-Command-clause-ok
returns-in_ok-add_command-in-Command-clause-ok c =
    command_added c.args.batch.now c.add_command.new.self c.args.item.now c.in-Command.command c.requires c.in-Command.is c.in_ok-add_command-in-Command.ensures.ok

pub returns-in_ok-delete_as_read-in-Del-clause-ok : goal.returns-in_ok-delete_as_read-in-Del-clause-ok
returns-in_ok-delete_as_read-in-Del-clause-ok c =
    delete_added c.args.batch.now c.delete_as_read.new.self c.args.item.now c.in-Kv.pair c.requires c.in-Kv.is c.in-Del.is
    (subst (λ (k : List ℕ). AddsItem c.args.batch.now c.delete_as_read.new.self (del_item c.args.item.now.raft_group_id k)) c.as_slice.ensures c.in_ok-delete_as_read-in-Del.ensures.ok)
