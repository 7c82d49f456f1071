use Rattle.raft_log_memtables.specs.Tables.{shown_of}
use Rattle.raft_log_purge_steps.proofs.Spending.{weighs_so}
use Rattle.raft_log_purge_steps.proofs.weights.weight.Goals as goal

pub returns : goal.returns
returns c =
    weighs_so c.args.gate (shown_of c.args.tables.now c.args.group) c.in_ok-entries.entries.items c.as_slice.result.now c.in_ok-pairs.pairs.items c.as_slice-2.result.now c.bytes_in.result c.as_slice.ensures.value c.as_slice-2.ensures.value c.in_ok-entries.ensures c.in_ok-pairs.ensures c.bytes_in.ensures
