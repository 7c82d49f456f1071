use Rattle.std.proofs.Common.{refl}
use Rattle.raft_log_replay_context.proofs.Contexts.{merges_append}
use Rattle.raft_log_replay_context.proofs.Outcomes.{if_err_from, on_ok_from}
use Rattle.raft_log_replay_context.proofs.Refusals.{apart_in_append}
use Rattle.raft_log_replay_context.proofs.context.MemTableRecoverContext.join.Goals as goal

pub returns-in-Append-clause-ok : goal.returns-in-Append-clause-ok
returns-in-Append-clause-ok c =
    rw c.in-Append.is (on_ok_from c.merge_newer_neighbor.result c.merge_newer_neighbor.ensures.ok (λ joins. merges_append c.args.self.now c.args.later _ refl joins))

pub returns-in-Append-clause-fits : goal.returns-in-Append-clause-fits
returns-in-Append-clause-fits c = on_ok_from c.merge_newer_neighbor.result c.merge_newer_neighbor.ensures.ok (λ joins. (c.args.self.now.tables, joins))

pub returns-in-Rewrite-clause-ok : goal.returns-in-Rewrite-clause-ok
returns-in-Rewrite-clause-ok c = rw c.in-Rewrite.is c.merge_rewrite.ensures.ok

pub returns-in-Append-clause-errors : goal.returns-in-Append-clause-errors
returns-in-Append-clause-errors c =
    rw c.in-Append.is (if_err_from c.merge_newer_neighbor.result c.merge_newer_neighbor.ensures.errors (λ e refused. apart_in_append c.args.self.now c.args.later e refused))

pub returns-in-Rewrite-clause-errors : goal.returns-in-Rewrite-clause-errors
returns-in-Rewrite-clause-errors c = rw c.in-Rewrite.is c.merge_rewrite.ensures.errors
