use Rattle.std.proofs.Common.{inr, subst, sym, ◌∙◌}
use Rattle.raft_log_purge.specs.raft_log_engine_laws.specs.EngineState.{shows}
use Rattle.raft_log_engine_core.specs.Reads.{IsToldAs}
use Rattle.raft_log_engine_core.proofs.Entries.{fetch_told_as, runs_as}
use Rattle.raft_log_engine_core.proofs.ModelCalls.{had_failed}
use Rattle.raft_log_engine_core.proofs.ModelReads.{entries_fetched, entries_not_fetched}
use Rattle.raft_log_memtables.proofs.Public.{uncounted_bare}
use Rattle.raft_log_engine_core.proofs.engine.LogEngine.fetch_entries_to.Goals as goal

pub returns-in-Err-clause-err : goal.returns-in-Err-clause-err
returns-in-Err-clause-err g c =
    let v = g.P.PipeLog.shown c.args.self.now.pipes in
    let s = shows v c.args.self.now.tables c.args.self.now.cache in
    let t = shows (g.P.PipeLog.shown c.read_to.new.self.pipes) c.read_to.new.self.tables c.read_to.new.self.cache in
    let told = subst (λ p. IsToldAs (g.P.PipeLog.shown p).disk.stopped c.in-Err.error c.unread.result) c.read_to.ensures.pipes c.unread.ensures in
    inr (fetch_told_as g.M.Entry.Message.reading s t c.args.raft_group_id c.args.begin c.args.end c.in-Err.error c.unread.result told c.in-Err.ensures.there c.in-Err.ensures.err)

pub returns-in-Err-clause-memory : goal.returns-in-Err-clause-memory
returns-in-Err-clause-memory g c =
    let told = subst (λ p. IsToldAs (g.P.PipeLog.shown p).disk.stopped c.in-Err.error c.unread.result) c.read_to.ensures.pipes c.unread.ensures in
    runs_as (g.P.PipeLog.shown c.args.self.now.pipes).disk.stopped c.in-Err.error c.unread.result told

pub returns-then-is_failed-clause-model : goal.returns-then-is_failed-clause-model
returns-then-is_failed-clause-model g c = had_failed _ _ (sym c.is_failed.ensures ∙ c.if-is_failed.true)

pub returns-in-Ok-clause-model : goal.returns-in-Ok-clause-model
returns-in-Ok-clause-model g c = entries_fetched g.M.Entry.Message.reading _ _ c.args.raft_group_id c.args.begin c.args.end c.args.max_size _ _ c.in-Ok.count (uncounted_bare c.args.self.now.tables c.args.raft_group_id) c.in-Ok.ensures.ok

pub returns-in-Err-clause-model : goal.returns-in-Err-clause-model
returns-in-Err-clause-model g c = entries_not_fetched g.M.Entry.Message.reading _ _ c.args.raft_group_id c.args.begin c.args.end c.args.max_size _ _ c.unread.result (returns-in-Err-clause-err g c)
