use Rattle.std.proofs.Common.{None, Ok, Some, rules}
use Rattle.raft_log_engine_core.specs.Reads.{shows_of}
use Rattle.raft_log_engine_core.proofs.ModelReads.{message_read}
use Rattle.raft_log_engine_core.proofs.engine.LogEngine.get_message.Goals as goal

pub returns-in_err-value-clause-model : goal.returns-in_err-value-clause-model
returns-in_err-value-clause-model g c =
    message_read g.S.Message.reading (shows_of g.P.PipeLog.shown c.args.self.now) c.args.raft_group_id c.args.key.now c.from_residual.result (search rules) (search rules) (search rules)

pub returns-in_default-clause-model : goal.returns-in_default-clause-model
returns-in_default-clause-model g c =
    message_read g.S.Message.reading (shows_of g.P.PipeLog.shown c.args.self.now) c.args.raft_group_id c.args.key.now (Ok None) (search rules) (search rules) tt

pub returns-in_err-parse-clause-model : goal.returns-in_err-parse-clause-model
returns-in_err-parse-clause-model g c =
    message_read g.S.Message.reading (shows_of g.P.PipeLog.shown c.args.self.now) c.args.raft_group_id c.args.key.now c.from_residual-in_err-parse.result (search rules) (search rules) (search rules)

pub returns-clause-model : goal.returns-clause-model
returns-clause-model g c =
    message_read g.S.Message.reading (shows_of g.P.PipeLog.shown c.args.self.now) c.args.raft_group_id c.args.key.now (Ok (Some c.in_ok-parse.field-0)) (search rules) (search rules) tt
