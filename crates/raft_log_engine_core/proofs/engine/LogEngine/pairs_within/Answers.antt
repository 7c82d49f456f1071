use Rattle.std.proofs.Common.{option_copied, sym, ◌∙◌}
use Rattle.raft_log_engine_core.specs.ModelCalls.{ArePairsOf}
use Rattle.raft_log_engine_core.specs.Reads.{shows_of}
use Rattle.raft_log_engine_core.proofs.Scans.{keys_added, none_added}
use Rattle.raft_log_engine_core.proofs.Tables.{none_shown, raw_shown}
use Rattle.raft_log_engine_core.proofs.ModelCalls.{had_failed}
use Rattle.raft_log_engine_core.proofs.ModelReads.{not_read, pairs_told}
use Rattle.raft_log_engine_core.proofs.engine.LogEngine.pairs_within.Goals as goal

pub returns-in-Ok-clause-ok : goal.returns-in-Ok-clause-ok
returns-in-Ok-clause-ok g c =
    keys_added (shows_of g.P.PipeLog.shown c.args.self.now) c.args.raft_group_id (option_copied c.args.start_key) (option_copied c.args.end_key) _ c.new-pairs.result.items c.fetch_kvs_within.new.pairs.items
    (raw_shown c.args.self.now.tables c.args.raft_group_id _ c.in-Some.ensures) c.new-pairs.ensures.items c.in-Ok.ensures.ok

pub returns-in-None-clause-ok : goal.returns-in-None-clause-ok
returns-in-None-clause-ok g c =
    none_added (shows_of g.P.PipeLog.shown c.args.self.now) c.args.raft_group_id (option_copied c.args.start_key) (option_copied c.args.end_key) c.new-pairs.result.items
    (none_shown c.args.self.now.tables c.args.raft_group_id c.in-None.ensures) c.new-pairs.ensures.items

pub returns-then-is_failed-clause-model : goal.returns-then-is_failed-clause-model
returns-then-is_failed-clause-model g c = had_failed _ _ (sym c.is_failed.ensures ∙ c.if-is_failed.true)

pub returns-in-Ok-clause-model : goal.returns-in-Ok-clause-model
returns-in-Ok-clause-model g c = pairs_told (shows_of g.P.PipeLog.shown c.args.self.now) c.args.raft_group_id (option_copied c.args.start_key) (option_copied c.args.end_key) _ (sym c.is_failed.ensures ∙ c.if-is_failed.false) (returns-in-Ok-clause-ok g c)

pub returns-in-Err-clause-model : goal.returns-in-Err-clause-model
returns-in-Err-clause-model g c =
    not_read (ArePairsOf c.args.raft_group_id (option_copied c.args.start_key) (option_copied c.args.end_key)) _ _ (sym c.is_failed.ensures ∙ c.if-is_failed.false)

pub returns-in-None-clause-model : goal.returns-in-None-clause-model
returns-in-None-clause-model g c = pairs_told (shows_of g.P.PipeLog.shown c.args.self.now) c.args.raft_group_id (option_copied c.args.start_key) (option_copied c.args.end_key) _ (sym c.is_failed.ensures ∙ c.if-is_failed.false) (returns-in-None-clause-ok g c)
