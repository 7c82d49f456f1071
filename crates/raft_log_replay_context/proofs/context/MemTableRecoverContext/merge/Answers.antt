use Rattle.raft_log_replay_context.proofs.Contexts.{merge_declined_counted}
use Rattle.raft_log_replay_context.proofs.Outcomes.{if_err_from}
use Rattle.raft_log_replay_context.proofs.context.MemTableRecoverContext.merge.Goals as goal

pub returns-clause-errors : goal.returns-clause-errors
returns-clause-errors c =
    if_err_from c.join.result c.join.ensures.errors (λ e declined. merge_declined_counted c.args.queue c.args.self.now c.args.later _ _ e declined)
