use Rattle.raft_log_replay_context.proofs.Contexts.{merges_rewrite}
use Rattle.raft_log_replay_context.proofs.Outcomes.{if_err_from, on_ok_from}
use Rattle.raft_log_replay_context.proofs.Refusals.{apart_in_rewrite}
use Rattle.raft_log_replay_context.proofs.context.MemTableRecoverContext.merge_rewrite.Goals as goal

pub returns-clause-ok : goal.returns-clause-ok
returns-clause-ok c =
    on_ok_from c.merge_newer_neighbor.result c.merge_newer_neighbor.ensures.ok (λ joins.
    merges_rewrite c.in_ok-done.done.items c.settle_all.new.tables c.args.self.now c.args.later _ c.in_ok-done.ensures c.in_ok-settle_all.ensures.ok joins)

pub returns-clause-fits : goal.returns-clause-fits
returns-clause-fits c = on_ok_from c.merge_newer_neighbor.result c.merge_newer_neighbor.ensures.ok (λ joins. (c.settle_all.new.tables, joins))

pub returns-clause-errors : goal.returns-clause-errors
returns-clause-errors c =
    if_err_from c.merge_newer_neighbor.result c.merge_newer_neighbor.ensures.errors (λ e refused.
    apart_in_rewrite c.in_ok-done.done.items c.settle_all.new.tables c.args.self.now c.args.later _ e c.in_ok-done.ensures c.in_ok-settle_all.ensures.ok refused)
