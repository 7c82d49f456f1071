use Rattle.std.proofs.Common.{sym, ◌∙◌}
use Rattle.raft_log_engine_core.proofs.ModelCalls.{had_failed, purged_some}
use Rattle.raft_log_engine_core.proofs.engine.LogEngine.purge_some.Goals as goal

pub returns-clause-owes : goal.returns-clause-owes
returns-clause-owes g c = c.purge_some.ensures.owes _ (λ k. record { cleaned = λ is. is; compacted = λ is. is; deleted = λ key is. is })

pub returns-then-is_failed-clause-owes : goal.returns-then-is_failed-clause-owes
returns-then-is_failed-clause-owes g c = λ k. record { cleaned = λ is. is; compacted = λ is. is; deleted = λ key is. is }

pub returns-then-is_failed-clause-model : goal.returns-then-is_failed-clause-model
returns-then-is_failed-clause-model g c = had_failed _ _ (sym c.is_failed.ensures ∙ c.if-is_failed.true)

pub returns-clause-model : goal.returns-clause-model
returns-clause-model g c = purged_some _ _ (sym c.is_failed.ensures ∙ c.if-is_failed.false) _ _ _ _ _ _ _ _ _ c.purge_some.result c.purge_some.ensures.ok c.purge_some.ensures.err
