use Rattle.std.proofs.Common.{◌∙◌, ap, get_or, refl, arith, Option}
use Rattle.raft_log_record_base.specs.declared.pipe_log.LogQueue.TheVariants.{Rewrite}
use Rattle.raft_log_memtable.specs.Table.{Raw}
use Rattle.raft_log_memtables.specs.Walking.{least_in}
use Rattle.raft_log_purge_policy.proofs.Public.{picked_more}
use Rattle.raft_log_purge_steps.specs.Compacting.{is_at_most, needs_up_to}
use Rattle.raft_log_purge_steps.proofs.compacting.those_up_to.Goals as goal

pub loop-group-preserved : goal.loop-group-preserved
loop-group-preserved c =
    picked_more (needs_up_to c.args.file c.args.tables.now) c.args.groups.now c.loop-group.group-index 0 (get_or c.args.groups.now c.loop-group.group-index 0) (omega (arith, c.loop-group-test.true)) refl c.loop-group.picked.items c.push_if.new.picked.items c.needs_up_to-wanted.result c.loop-group.invariant (c.needs_up_to-wanted.ensures ∙ ap (λ (o : Option Raw). is_at_most c.args.file (least_in Rewrite o)) c.known_table.ensures) c.in_ok-push_if.ensures
