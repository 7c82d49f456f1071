use Rattle.std.proofs.Common.{◌∙◌, ap, get_or, refl, arith}
use Rattle.raft_log_purge_policy.specs.Picking.{answers_at, answers_in}
use Rattle.raft_log_purge_policy.proofs.Listing.{picked_more}
use Rattle.raft_log_purge_policy.proofs.picking.answered_of.Goals as goal

pub loop-group-preserved : goal.loop-group-preserved
loop-group-preserved c =
    picked_more (answers_at c.args.watermarks c.args.restated c.args.tables.now) c.args.groups.now c.loop-group.group-index 0 (get_or c.args.groups.now c.loop-group.group-index 0) (omega (arith, c.loop-group-test.true)) refl c.loop-group.picked.items c.push_if.new.picked.items c.is_answered-wanted.result c.loop-group.invariant (c.is_answered-wanted.ensures ∙ ap (answers_in c.args.watermarks c.args.restated) c.known_table.ensures) c.in_ok-push_if.ensures
