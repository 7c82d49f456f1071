use Rattle.std.proofs.Common.{refl}
use Rattle.raft_log_record_base.specs.declared.pipe_log.LogQueue.TheVariants.{Append}
use Rattle.raft_log_replay_context.proofs.Contexts.{reads_plain}
use Rattle.raft_log_replay_context.proofs.Outcomes.{if_err_from, on_ok_from}
use Rattle.raft_log_replay_context.specs.Records.{record_read}
use Rattle.raft_log_record_base.specs.declared.pipe_log.LogQueue.TheVariants.{Rewrite}
use Rattle.raft_log_replay_context.proofs.Refusals.{declined_in_append, unread_declined}
use Rattle.raft_log_replay_context.proofs.context.MemTableRecoverContext.take.Goals as goal

pub returns-in-Append-clause-ok : goal.returns-in-Append-clause-ok
returns-in-Append-clause-ok c =
    rw c.in-Append.is (on_ok_from c.replay_append_writes.result c.replay_append_writes.ensures.ok (λ reads. reads_plain Append c.args.file.seq c.args.self.now _ c.args.items.items reads refl))

pub returns-in-Append-clause-errors : goal.returns-in-Append-clause-errors
returns-in-Append-clause-errors c =
    rw c.in-Append.is (if_err_from c.replay_append_writes.result c.replay_append_writes.ensures.err (λ e stops rs h.
    declined_in_append c.args.file.seq c.args.items.items c.args.self.now c.args.self.now.tables c.replay_append_writes.new.self e stops rs h))

pub returns-in-Rewrite-clause-errors : goal.returns-in-Rewrite-clause-errors
returns-in-Rewrite-clause-errors c =
    rw c.in-Rewrite.is (if_err_from c.replay_rewrite.result c.replay_rewrite.ensures.errors (λ e unread rs h.
    unread_declined rs (record_read Rewrite c.args.file.seq c.args.items.items) e unread))
