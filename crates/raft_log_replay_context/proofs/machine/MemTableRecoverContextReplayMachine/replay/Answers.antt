use Rattle.raft_log_replay_context.proofs.Batches.{declines_batch, takes_batch}
use Rattle.raft_log_replay_context.proofs.Outcomes.{if_err_from, on_ok_both}
use Rattle.raft_log_replay_context.proofs.machine.MemTableRecoverContextReplayMachine.replay.Goals as goal

pub returns-clause-ok : goal.returns-clause-ok
returns-clause-ok c = on_ok_both c.replay.result c.replay.ensures.ok c.replay.ensures.written
    (λ reads more. takes_batch c.args.file c.args.items.items c.args.self.now c.replay.new.self reads more)

pub returns-clause-errors : goal.returns-clause-errors
returns-clause-errors c = if_err_from c.replay.result c.replay.ensures.errors (λ e declined. declines_batch c.args.file c.args.items.items c.args.self.now e declined)
