use Rattle.raft_log_replay_context.proofs.Contexts.{reads_end}
use Rattle.raft_log_replay_context.proofs.Outcomes.{on_ok_from}
use Rattle.raft_log_replay_context.proofs.context.MemTableRecoverContext.replay_end.Goals as goal

pub returns-clause-ok : goal.returns-clause-ok
returns-clause-ok c =
    on_ok_from c.settle_whole.result c.settle_whole.ensures.ok (λ settles. reads_end c.args.number c.args.part c.in_ok-whole.whole c.args.self.now _ c.in_ok-whole.ensures settles)
