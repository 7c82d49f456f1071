use Rattle.std.proofs.Common.{◌≡◌, None, Some, false, inr, refl, sym, ◌∙◌}
use Rattle.raft_log_memtable.specs.Reads.{entry_at}
use Rattle.raft_log_memtables.specs.Tables.{shown_of}
use Rattle.raft_log_dual_pipes.specs.Pipes.{is_failed}
use Rattle.raft_log_purge.specs.raft_log_engine_laws.specs.EngineState.{shows}
use Rattle.raft_log_engine_core.proofs.Entries.{fails_to_tell, runs_as, tells_none, tells_one, told_as}
use Rattle.raft_log_engine_core.proofs.ModelCalls.{had_failed}
use Rattle.raft_log_engine_core.proofs.ModelReads.{entry_not_told, entry_told}
use Rattle.raft_log_engine_core.proofs.engine.LogEngine.get_entry.Goals as goal

pub returns-in-None-clause-ok : goal.returns-in-None-clause-ok
returns-in-None-clause-ok g c =
    let v = g.P.PipeLog.shown c.args.self.now.pipes in
    let s = shows v c.args.self.now.tables c.args.self.now.cache in
    let lived : is_failed v ≡ false = sym c.is_failed.ensures ∙ c.if-is_failed.false in
    let i = c.in-None.is in
    let e = c.entry_at.ensures in
    let there : entry_at (shown_of c.args.self.now.tables c.args.raft_group_id) c.args.log_idx ≡ None = cc in
    tells_none g.M.Entry.Message.reading s c.args.raft_group_id c.args.log_idx lived there

pub returns-in-Ok-clause-ok : goal.returns-in-Ok-clause-ok
returns-in-Ok-clause-ok g c =
    let v = g.P.PipeLog.shown c.args.self.now.pipes in
    let s = shows v c.args.self.now.tables c.args.self.now.cache in
    let t = shows v c.args.self.now.tables c.read_entry.new.self in
    let lived : is_failed v ≡ false = sym c.is_failed.ensures ∙ c.if-is_failed.false in
    let i = c.in-Some.is in
    let e = c.entry_at.ensures in
    let there : entry_at (shown_of c.args.self.now.tables c.args.raft_group_id) c.args.log_idx ≡ Some c.in-Some.entry = cc in
    tells_one g.M.Entry.Message.reading s t c.args.raft_group_id lived refl c.args.log_idx c.in-Some.entry c.in-Ok.message there c.in-Ok.ensures.ok

pub returns-in-Err-clause-err : goal.returns-in-Err-clause-err
returns-in-Err-clause-err g c =
    let v = g.P.PipeLog.shown c.args.self.now.pipes in
    let s = shows v c.args.self.now.tables c.args.self.now.cache in
    let t = shows v c.args.self.now.tables c.read_entry.new.self in
    let lived : is_failed v ≡ false = sym c.is_failed.ensures ∙ c.if-is_failed.false in
    let i = c.in-Some.is in
    let e = c.entry_at.ensures in
    let there : entry_at (shown_of c.args.self.now.tables c.args.raft_group_id) c.args.log_idx ≡ Some c.in-Some.entry = cc in
    inr (told_as g.M.Entry.Message.reading s t c.args.raft_group_id lived refl c.args.log_idx c.in-Some.entry c.in-Err.error c.unread.result there c.unread.ensures
    (fails_to_tell g.M.Entry.Message.reading s t c.args.raft_group_id lived refl c.args.log_idx c.in-Some.entry c.in-Err.error there c.in-Err.ensures.err))

pub returns-in-Err-clause-memory : goal.returns-in-Err-clause-memory
returns-in-Err-clause-memory g c = runs_as (g.P.PipeLog.shown c.args.self.now.pipes).disk.stopped c.in-Err.error c.unread.result c.unread.ensures

pub returns-then-is_failed-clause-model : goal.returns-then-is_failed-clause-model
returns-then-is_failed-clause-model g c = had_failed _ _ (sym c.is_failed.ensures ∙ c.if-is_failed.true)

pub returns-in-None-clause-model : goal.returns-in-None-clause-model
returns-in-None-clause-model g c = entry_told g.M.Entry.Message.reading _ _ c.args.raft_group_id c.args.log_idx None (returns-in-None-clause-ok g c)

pub returns-in-Ok-clause-model : goal.returns-in-Ok-clause-model
returns-in-Ok-clause-model g c = entry_told g.M.Entry.Message.reading _ _ c.args.raft_group_id c.args.log_idx (Some c.in-Ok.message) (returns-in-Ok-clause-ok g c)

pub returns-in-Err-clause-model : goal.returns-in-Err-clause-model
returns-in-Err-clause-model g c = entry_not_told g.M.Entry.Message.reading _ _ c.args.raft_group_id c.args.log_idx c.unread.result (returns-in-Err-clause-err g c)
