use Rattle.std.proofs.Common.{◌<◌, length, arith}
use Rattle.raft_log_record_items.specs.Run.{unplaced_entry}
use Rattle.raft_log_record_batches.proofs.Entries.{rises_more, rises_at}
use Rattle.raft_log_record_batches.proofs.log_batch.entries.rises_from.Goals as goal

pub returns-then-entry-next : goal.returns-then-entry-next
returns-then-entry-next c =
    let lt : c.loop-entry.entry-index < length c.args.entries.now = omega arith in
    (λ yes. absurd cc, λ rises. absurd (c.if-entry-next.true (omega (arith, c.loop-entry.invariant.1, rises_at c.args.first c.loop-entry.entry-index c.args.entries.now (unplaced_entry 0 0) lt rises))))

pub loop-entry-preserved : goal.loop-entry-preserved
loop-entry-preserved c =
    let lt : c.loop-entry.entry-index < length c.args.entries.now = omega arith in
    (rises_more c.args.first c.loop-entry.next c.loop-entry.entry-index c.args.entries.now _ lt c.loop-entry.invariant.1 c.if-entry-next.false c.loop-entry.invariant.0, omega (arith, c.loop-entry.invariant.1))
