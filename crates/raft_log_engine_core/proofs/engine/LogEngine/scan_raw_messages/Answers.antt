use Rattle.std.proofs.Common.{option_copied, sym, ◌∙◌}
use Rattle.std.specs.Fn.{CalledAtTwo}
use Rattle.raft_log_engine_core.specs.Reads.{shows_of}
use Rattle.raft_log_engine_core.proofs.Scans.{none_scanned, scanned}
use Rattle.raft_log_engine_core.proofs.Tables.{none_shown, raw_shown}
use Rattle.raft_log_engine_core.proofs.ModelCalls.{had_failed}
use Rattle.raft_log_engine_core.proofs.ModelReads.{keys_scanned}
use Rattle.raft_log_engine_core.proofs.engine.LogEngine.scan_raw_messages.Goals as goal

pub returns-in-Some-clause-ok : goal.returns-in-Some-clause-ok
returns-in-Some-clause-ok g c =
    scanned (CalledAtTwo g.C.FnMut) c.args.callback (shows_of g.P.PipeLog.shown c.args.self.now) c.args.raft_group_id (option_copied c.args.start_key) (option_copied c.args.end_key) c.args.reverse _
    (raw_shown c.args.self.now.tables c.args.raft_group_id _ c.in-Some.ensures) c.scan.ensures

pub returns-in-None-clause-ok : goal.returns-in-None-clause-ok
returns-in-None-clause-ok g c =
    none_scanned (CalledAtTwo g.C.FnMut) c.args.callback (shows_of g.P.PipeLog.shown c.args.self.now) c.args.raft_group_id (option_copied c.args.start_key) (option_copied c.args.end_key) c.args.reverse
    (none_shown c.args.self.now.tables c.args.raft_group_id c.in-None.ensures)

pub returns-then-is_failed-clause-model : goal.returns-then-is_failed-clause-model
returns-then-is_failed-clause-model g c = had_failed _ _ (sym c.is_failed.ensures ∙ c.if-is_failed.true)

pub returns-in-Some-clause-model : goal.returns-in-Some-clause-model
returns-in-Some-clause-model g c = keys_scanned (shows_of g.P.PipeLog.shown c.args.self.now) c.args.raft_group_id (option_copied c.args.start_key) (option_copied c.args.end_key) (CalledAtTwo g.C.FnMut) c.args.callback c.args.reverse (sym c.is_failed.ensures ∙ c.if-is_failed.false) (returns-in-Some-clause-ok g c)

pub returns-in-None-clause-model : goal.returns-in-None-clause-model
returns-in-None-clause-model g c = keys_scanned (shows_of g.P.PipeLog.shown c.args.self.now) c.args.raft_group_id (option_copied c.args.start_key) (option_copied c.args.end_key) (CalledAtTwo g.C.FnMut) c.args.callback c.args.reverse (sym c.is_failed.ensures ∙ c.if-is_failed.false) (returns-in-None-clause-ok g c)
