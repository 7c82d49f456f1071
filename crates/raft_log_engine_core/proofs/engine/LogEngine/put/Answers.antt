use Rattle.raft_log_memtables.specs.Tables.{shown_of}
use Rattle.raft_log_purge.specs.raft_log_engine_laws.specs.EngineState.{shows}
use Rattle.raft_log_record_base.specs.declared.pipe_log.LogQueue.TheVariants.{Append}
use Rattle.raft_log_machine_laws.specs.Calls.Which.{InAppend}
use Rattle.raft_log_dual_pipes.specs.LastFile.{last_of}
use Rattle.raft_log_dual_pipes.proofs.Public.{hears_none}
use Rattle.raft_log_engine_core.proofs.Hearing.{heard_kept}
use Rattle.raft_log_engine_core.proofs.Put.{kept_record, kept_unrecorded, put_answers, put_refuses, refused_made, unfit_made, unfit_unrecorded}
use Rattle.raft_log_engine_core.proofs.engine.LogEngine.put.Goals as goal

pub returns-in-Ok-clause-ok : goal.returns-in-Ok-clause-ok
returns-in-Ok-clause-ok g c =
    put_answers c.args.batch.now c.make_room.new.batch (g.P.PipeLog.shown c.args.self.now.pipes) (g.P.PipeLog.shown c.append.new.pipes) c.args.self.now.tables c.make_room.new.tables c.append.new.tables c.args.self.now.cache c.append.new.cache c.append.result c.make_room.ensures.kept c.make_room.ensures.shows c.append.ensures.ok

pub returns-in-Ok-clause-err : goal.returns-in-Ok-clause-err
returns-in-Ok-clause-err g c =
    put_refuses c.args.batch.now c.make_room.new.batch (g.P.PipeLog.shown c.args.self.now.pipes) (g.P.PipeLog.shown c.append.new.pipes) c.args.self.now.tables c.make_room.new.tables c.append.new.tables c.args.self.now.cache c.append.new.cache c.append.result c.make_room.ensures.kept c.make_room.ensures.shows c.append.ensures.err

pub returns-in-Ok-clause-files : goal.returns-in-Ok-clause-files
returns-in-Ok-clause-files g c =
    kept_record c.args.batch.now c.make_room.new.batch (g.P.PipeLog.shown c.args.self.now.pipes) (g.P.PipeLog.shown c.append.new.pipes) c.append.result c.make_room.ensures.kept c.append.ensures.files

pub returns-in-Ok-clause-left : goal.returns-in-Ok-clause-left
returns-in-Ok-clause-left g c =
    kept_unrecorded c.args.batch.now c.make_room.new.batch (g.P.PipeLog.shown c.args.self.now.pipes) (g.P.PipeLog.shown c.append.new.pipes) c.append.result c.make_room.ensures.kept c.append.ensures.left

pub returns-in-Err-clause-left : goal.returns-in-Err-clause-left
returns-in-Err-clause-left g c = unfit_unrecorded c.args.batch.now (shown_of c.args.self.now.tables) c.in-Err.error (g.P.PipeLog.shown c.args.self.now.pipes) c.in-Err.ensures.errors

pub returns-in-Ok-clause-made : goal.returns-in-Ok-clause-made
returns-in-Ok-clause-made g c =
    let s = shows (g.P.PipeLog.shown c.args.self.now.pipes) c.args.self.now.tables c.args.self.now.cache in
    let t = shows (g.P.PipeLog.shown c.append.new.pipes) c.append.new.tables c.append.new.cache in
    refused_made c.append.result c.args.batch.now c.make_room.new.batch c.append.new.batch s t c.in-Ok.ensures.made c.append.ensures.kept

pub returns-in-Err-clause-made : goal.returns-in-Err-clause-made
returns-in-Err-clause-made g c =
    unfit_made c.args.batch.now c.make_room.new.batch c.in-Err.error (g.P.PipeLog.shown c.args.self.now.pipes) c.args.self.now.tables c.make_room.new.tables c.args.self.now.cache c.make_room.ensures.shows c.in-Err.ensures.errors

pub returns-in-Err-clause-told_less : goal.returns-in-Err-clause-told_less
returns-in-Err-clause-told_less g c =
    let pipes = g.P.PipeLog in
    hears_none pipes.hears Append (last_of InAppend (pipes.shown c.args.self.now.pipes)) (pipes.listener c.args.self.now.pipes)

pub returns-in-Ok-clause-told : goal.returns-in-Ok-clause-told
returns-in-Ok-clause-told g c =
    let pipes = g.P.PipeLog in
    heard_kept c.args.batch.now c.make_room.new.batch pipes.hears (pipes.shown c.args.self.now.pipes) (pipes.shown c.append.new.pipes)
    (pipes.listener c.args.self.now.pipes) (pipes.listener c.append.new.pipes) c.append.result c.make_room.ensures.kept c.append.ensures.told
