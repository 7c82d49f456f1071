use Rattle.std.proofs.Common.{◌<◌, length, arith, ◌+◌}
use Rattle.raft_log_record_items.specs.Run.{unplaced_entry}
use Rattle.raft_log_record_items.proofs.Places.{laid_step, laid_next, run_len-take}
use Rattle.raft_log_record_items.proofs.entry_indexes.lay_out.Goals as goal

pub overflow_add-next : goal.overflow_add-next
overflow_add-next c =
    let lt : c.loop-entry.entry-index < length c.args.entries.now = omega arith in
    omega (
      arith,
      laid_next c.args.offset c.loop-entry.next c.args.entries.now c.loop-entry.entries c.loop-entry.entry-index (unplaced_entry 0 0) lt c.loop-entry.invariant.0 c.loop-entry.invariant.1,
      run_len-take (c.loop-entry.entry-index + 1) c.args.entries.now,
    )

pub loop-entry-preserved : goal.loop-entry-preserved
loop-entry-preserved c =
    let lt : c.loop-entry.entry-index < length c.args.entries.now = omega arith in (
      laid_step c.args.offset c.loop-entry.next c.args.entries.now c.loop-entry.entries c.loop-entry.entry-index (unplaced_entry 0 0) lt c.loop-entry.invariant.0 c.loop-entry.invariant.1,
      laid_next c.args.offset c.loop-entry.next c.args.entries.now c.loop-entry.entries c.loop-entry.entry-index (unplaced_entry 0 0) lt c.loop-entry.invariant.0 c.loop-entry.invariant.1,
    )
