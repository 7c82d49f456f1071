use Rattle.raft_log_replay_context.proofs.Batches.{declines_later, joins_later}
use Rattle.raft_log_replay_context.proofs.Outcomes.{if_err_from, on_ok_both}
use Rattle.raft_log_replay_context.proofs.machine.MemTableRecoverContextReplayMachine.merge.Goals as goal

pub returns-clause-ok : goal.returns-clause-ok
returns-clause-ok c = on_ok_both c.merge.result c.merge.ensures.ok c.merge.ensures.written
    (λ merges more. joins_later c.args.queue c.args.self.now c.args.later c.merge.new.self merges more)

pub returns-clause-errors : goal.returns-clause-errors
returns-clause-errors c = if_err_from c.merge.result c.merge.ensures.errors (λ e declined. declines_later c.args.queue c.args.self.now c.args.later e declined)
