use Rattle.std.proofs.Common.{◌<◌, length, arith}
use Rattle.raft_log_record_items.proofs.Places.{written_step}
use Rattle.raft_log_record_items.proofs.entry_indexes.set_written.Goals as goal

pub loop-entry-preserved : goal.loop-entry-preserved
loop-entry-preserved c =
    let lt : c.loop-entry.entry-index < length c.args.entries.now = omega arith in
    written_step c.args.handle c.args.entries.now c.loop-entry.entries c.loop-entry.entry-index _ lt c.loop-entry.invariant
