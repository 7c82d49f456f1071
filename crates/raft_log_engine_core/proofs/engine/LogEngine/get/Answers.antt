use Rattle.std.proofs.Common.{None, refl, sym, ◌∙◌}
use Rattle.std.specs.Prelude.{Ok}
use Rattle.raft_log_memtable_index.specs.Shown.{nothing_shown}
use Rattle.raft_log_engine_core.proofs.Tables.{if_ok_then, none_shown, raw_shown, value_read}
use Rattle.raft_log_engine_core.proofs.ModelCalls.{had_failed}
use Rattle.raft_log_engine_core.proofs.ModelReads.{value_told}
use Rattle.raft_log_engine_core.proofs.engine.LogEngine.get.Goals as goal

pub returns-in-Some-clause-ok : goal.returns-in-Some-clause-ok
returns-in-Some-clause-ok g c =
    if_ok_then c.copy_value.result _ _ (λ value is. value_read _ _ _ _ _ (raw_shown c.args.self.now.tables c.args.raft_group_id _ c.in-Some.ensures) is) c.copy_value.ensures.ok

pub returns-in-None-clause-ok : goal.returns-in-None-clause-ok
returns-in-None-clause-ok g c =
    value_read _ c.args.raft_group_id c.args.key.now nothing_shown None (none_shown c.args.self.now.tables c.args.raft_group_id c.in-None.ensures) refl

pub returns-then-is_failed-clause-model : goal.returns-then-is_failed-clause-model
returns-then-is_failed-clause-model g c = had_failed _ _ (sym c.is_failed.ensures ∙ c.if-is_failed.true)

pub returns-in-Some-clause-model : goal.returns-in-Some-clause-model
returns-in-Some-clause-model g c = value_told c.copy_value.result _ c.args.raft_group_id c.args.key.now (sym c.is_failed.ensures ∙ c.if-is_failed.false) (returns-in-Some-clause-ok g c)

pub returns-in-None-clause-model : goal.returns-in-None-clause-model
returns-in-None-clause-model g c = value_told (Ok None) _ c.args.raft_group_id c.args.key.now (sym c.is_failed.ensures ∙ c.if-is_failed.false) (returns-in-None-clause-ok g c)
