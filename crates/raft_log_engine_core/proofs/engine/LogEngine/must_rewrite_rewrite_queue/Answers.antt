use Rattle.std.proofs.Common.{sym, ◌∙◌}
use Rattle.raft_log_engine_core.proofs.ModelCalls.{had_failed, rewrote_rewrite}
use Rattle.raft_log_engine_core.proofs.engine.LogEngine.must_rewrite_rewrite_queue.Goals as goal

pub returns-clause-owes : goal.returns-clause-owes
returns-clause-owes g c = c.rewrite_and_count.ensures.owes _ (λ k. record { cleaned = λ is. is; compacted = λ is. is; deleted = λ key is. is })

pub returns-then-is_failed-clause-owes : goal.returns-then-is_failed-clause-owes
returns-then-is_failed-clause-owes g c = λ k. record { cleaned = λ is. is; compacted = λ is. is; deleted = λ key is. is }

pub returns-then-is_failed-clause-model : goal.returns-then-is_failed-clause-model
returns-then-is_failed-clause-model g c = had_failed _ _ (sym c.is_failed.ensures ∙ c.if-is_failed.true)

pub returns-clause-model : goal.returns-clause-model
returns-clause-model g c = rewrote_rewrite _ _ (sym c.is_failed.ensures ∙ c.if-is_failed.false) _ c.rewrite_and_count.result c.rewrite_and_count.ensures.ok c.rewrite_and_count.ensures.err
