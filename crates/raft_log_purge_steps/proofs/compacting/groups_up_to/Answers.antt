use Rattle.raft_log_memtables.specs.Tables.{has_table}
use Rattle.raft_log_purge_policy.proofs.Public.{all_picked}
use Rattle.raft_log_purge_steps.specs.Compacting.{needs_up_to}
use Rattle.raft_log_purge_steps.proofs.Deleting.{needs_known}
use Rattle.raft_log_purge_steps.proofs.compacting.groups_up_to.Goals as goal

pub returns : goal.returns
returns c =
    all_picked c.those_up_to.result (λ v. v.items) (needs_up_to c.args.file c.args.tables.now) (has_table c.args.tables.now) c.in_ok-known.known.items c.as_slice.result.now c.as_slice.ensures.value (needs_known c.args.file c.args.tables.now) c.in_ok-known.ensures c.those_up_to.ensures
