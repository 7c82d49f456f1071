use Rattle.std.proofs.Common.{not, ap, ◌∙◌}
use Rattle.raft_log_memtables.specs.Tables.{has_table}
use Rattle.raft_log_purge_policy.specs.Picking.{answers_at}
use Rattle.raft_log_purge_policy.proofs.Listing.{all_picked, answered_known, nobody_answered}
use Rattle.raft_log_purge_policy.proofs.picking.answered_groups.Goals as goal

pub returns : goal.returns
returns c =
    all_picked c.answered_of.result (λ v. v.items) (answers_at c.args.watermarks c.args.restated c.args.tables.now) (has_table c.args.tables.now) c.in_ok-groups.groups.items c.as_slice.result.now c.as_slice.ensures.value (answered_known c.args.watermarks c.args.restated c.args.tables.now) c.in_ok-groups.ensures c.answered_of.ensures

pub returns-then-not-restated : goal.returns-then-not-restated
returns-then-not-restated c =
    nobody_answered c.args.watermarks c.args.restated c.args.tables.now c.new.result.items (c.is_none.ensures ∙ ap not c.if-is_none.true) c.if-not-restated.true c.new.ensures.items
