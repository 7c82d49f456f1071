use Rattle.raft_log_memtables.specs.Tables.{shown_of}
use Rattle.raft_log_purge.proofs.StandingPast.{first_more}
use Rattle.raft_log_purge.proofs.garbage.count_past.Goals as goal

pub loop-group-preserved : goal.loop-group-preserved
loop-group-preserved c =
    first_more c.args.file (shown_of c.args.tables.now) c.args.groups.now c.loop-group.group-index 0 c.loop-group.count c.standing_past.result c.saturating_add-count.result c.loop-group-test.true c.loop-group.invariant c.standing_past.ensures c.saturating_add-count.ensures
