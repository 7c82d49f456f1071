use Rattle.std.proofs.Common.{option_copied, rules}
use Rattle.raft_log_engine_core.specs.Messages.{CalledAtKey}
use Rattle.raft_log_engine_core.specs.Reads.{shows_of}
use Rattle.raft_log_engine_core.proofs.ModelReads.{messages_read}
use Rattle.raft_log_engine_core.proofs.engine.LogEngine.scan_messages.Goals.{then-reverse, else-reverse}
use Rattle.raft_log_engine_core.proofs.engine.LogEngine.scan_messages.Goals as goal

pub returns-in_err-pairs-clause-model : goal.returns-in_err-pairs-clause-model
returns-in_err-pairs-clause-model g c =
    messages_read (shows_of g.P.PipeLog.shown c.args.self.now) c.args.raft_group_id (option_copied c.args.start_key) (option_copied c.args.end_key) g.S.Message.reading (CalledAtKey g.C.FnMut) c.args.callback c.args.reverse
    c.from_residual.result (search rules) (search rules) (search rules)

pub returns-clause-model : goal.returns-clause-model
returns-clause-model g c =
    messages_read (shows_of g.P.PipeLog.shown c.args.self.now) c.args.raft_group_id (option_copied c.args.start_key) (option_copied c.args.end_key) g.S.Message.reading (CalledAtKey g.C.FnMut) c.args.callback c.args.reverse
    c.visit.result (elim c.if-reverse.branch [ then-reverse w ↦ search rules | else-reverse w ↦ search rules ]) (search rules) (search rules)
