use Rattle.std.proofs.Common.{◌≡◌, None, Some, inl, refl, rules, sym, ◌∙◌}
use Rattle.std.specs.Prelude.{Err, Ok}
use Rattle.raft_log_purge.specs.raft_log_engine_laws.specs.EngineState.{shows}
use Rattle.raft_log_engine_core.specs.Compacting.{entries_below}
use Rattle.raft_log_record_base.specs.declared.pipe_log.LogQueue.TheVariants.{Append}
use Rattle.raft_log_machine_laws.specs.Calls.Which.{InAppend}
use Rattle.raft_log_dual_pipes.specs.LastFile.{last_of}
use Rattle.raft_log_dual_pipes.proofs.Public.{hears_none}
use Rattle.raft_log_engine_core.proofs.Hearing.{heard_compact, heard_nothing, heard_unsynced_less}
use Rattle.raft_log_engine_core.proofs.Put.{compacts, not_compacted}
use Rattle.raft_log_engine_core.proofs.ModelCalls.{compacted_or_not, had_failed}
use Rattle.raft_log_engine_core.proofs.engine.LogEngine.compact_to.Goals as goal

pub returns-in-Ok-clause-ok : goal.returns-in-Ok-clause-ok
returns-in-Ok-clause-ok g c =
    let s = shows (g.P.PipeLog.shown c.args.self.now.pipes) c.args.self.now.tables c.args.self.now.cache in
    let t = shows (g.P.PipeLog.shown c.write.new.self.pipes) c.write.new.self.tables c.write.new.self.cache in
    let i = c.in-Some.is in
    let e = c.entries_below.ensures in
    let there : entries_below (s.tables c.args.raft_group_id) c.args.index ≡ Some c.in-Some.count = cc in
    compacts c.args.raft_group_id c.args.index c.in-Some.count c.in-Ok.field-0 c.in_ok-batch.batch s t there c.in_ok-batch.ensures.ok c.in-Ok.ensures.ok c.in-Ok.ensures.files

pub returns-clause-err : goal.returns-clause-err
returns-clause-err g c =
    let s = shows (g.P.PipeLog.shown c.args.self.now.pipes) c.args.self.now.tables c.args.self.now.cache in
    let t = shows (g.P.PipeLog.shown c.write.new.self.pipes) c.write.new.self.tables c.write.new.self.cache in
    let i = c.in-Some.is in
    let e = c.entries_below.ensures in
    let there : entries_below (s.tables c.args.raft_group_id) c.args.index ≡ Some c.in-Some.count = cc in
    not_compacted c.args.raft_group_id c.args.index c.in-Some.count c.in-Err.error c.in_ok-batch.batch s t there c.in_ok-batch.ensures.ok c.in-Err.ensures.err c.in-Err.ensures.left

pub returns-then-is_failed-clause-told_less : goal.returns-then-is_failed-clause-told_less
returns-then-is_failed-clause-told_less g c =
    let pipes = g.P.PipeLog in
    hears_none pipes.hears Append (last_of InAppend (pipes.shown c.args.self.now.pipes)) (pipes.listener c.args.self.now.pipes)

pub returns-in_err-batch-clause-told_less : goal.returns-in_err-batch-clause-told_less
returns-in_err-batch-clause-told_less g c =
    let pipes = g.P.PipeLog in
    heard_nothing pipes.hears (last_of InAppend (pipes.shown c.args.self.now.pipes)) (pipes.listener c.args.self.now.pipes) c.from_residual.result

pub returns-in-Ok-clause-told : goal.returns-in-Ok-clause-told
returns-in-Ok-clause-told g c =
    let pipes = g.P.PipeLog in
    let s = shows (pipes.shown c.args.self.now.pipes) c.args.self.now.tables c.args.self.now.cache in
    let t = shows (pipes.shown c.write.new.self.pipes) c.write.new.self.tables c.write.new.self.cache in
    let i = c.in-Some.is in
    let e = c.entries_below.ensures in
    let there : entries_below (s.tables c.args.raft_group_id) c.args.index ≡ Some c.in-Some.count = cc in
    heard_compact c.args.raft_group_id c.args.index c.in-Some.count c.in_ok-batch.batch pipes.hears s t
    (pipes.listener c.args.self.now.pipes) (pipes.listener c.write.new.self.pipes) there c.in_ok-batch.ensures.ok c.in-Ok.ensures.told

pub returns-clause-told_less : goal.returns-clause-told_less
returns-clause-told_less g c =
    let pipes = g.P.PipeLog in
    heard_unsynced_less c.in_ok-batch.batch pipes.hears c.in-Err.error (pipes.shown c.args.self.now.pipes) (pipes.shown c.write.new.self.pipes)
    (pipes.listener c.args.self.now.pipes) (pipes.listener c.write.new.self.pipes) c.in-Err.ensures.told_less

pub returns-then-is_failed-clause-model : goal.returns-then-is_failed-clause-model
returns-then-is_failed-clause-model g c = had_failed _ _ (sym c.is_failed.ensures ∙ c.if-is_failed.true)

pub returns-in_default-clause-model : goal.returns-in_default-clause-model
returns-in_default-clause-model g c =
    let s = shows (g.P.PipeLog.shown c.args.self.now.pipes) c.args.self.now.tables c.args.self.now.cache in
    let lives = sym c.is_failed.ensures ∙ c.if-is_failed.false in
    let i = c.in_default.is in
    let e = c.entries_below.ensures in
    let none : entries_below (s.tables c.args.raft_group_id) c.args.index ≡ None = cc in
    compacted_or_not s s c.args.raft_group_id c.args.index (Ok 0) lives (inl (none, refl, lives, refl)) tt

pub returns-in_err-batch-clause-model : goal.returns-in_err-batch-clause-model
returns-in_err-batch-clause-model g c = compacted_or_not _ _ c.args.raft_group_id c.args.index c.from_residual.result (sym c.is_failed.ensures ∙ c.if-is_failed.false) (search rules) (search rules)

pub returns-in-Ok-clause-model : goal.returns-in-Ok-clause-model
returns-in-Ok-clause-model g c = compacted_or_not _ _ c.args.raft_group_id c.args.index (Ok c.in-Some.count) (sym c.is_failed.ensures ∙ c.if-is_failed.false) (returns-in-Ok-clause-ok g c) tt

pub returns-clause-model : goal.returns-clause-model
returns-clause-model g c = compacted_or_not _ _ c.args.raft_group_id c.args.index (Err c.in-Err.error) (sym c.is_failed.ensures ∙ c.if-is_failed.false) tt (returns-clause-err g c)
