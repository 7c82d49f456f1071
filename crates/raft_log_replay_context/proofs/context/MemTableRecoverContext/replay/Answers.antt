use Rattle.raft_log_replay_context.proofs.Contexts.{replay_declined_counted}
use Rattle.raft_log_replay_context.proofs.Outcomes.{if_err_from}
use Rattle.raft_log_replay_context.proofs.context.MemTableRecoverContext.replay.Goals as goal

pub returns-clause-errors : goal.returns-clause-errors
returns-clause-errors c =
    if_err_from c.take.result c.take.ensures.errors (λ e declined. replay_declined_counted c.args.file c.args.items.items c.args.self.now _ _ e declined)
