use Rattle.raft_log_replay_context.proofs.Contexts.{comes_over}
use Rattle.raft_log_replay_context.proofs.Outcomes.{on_ok_from}
use Rattle.raft_log_replay_context.proofs.context.MemTableRecoverContext.merge_append_context.Goals as goal

pub returns-clause-ok : goal.returns-clause-ok
returns-clause-ok c = on_ok_from c.merge_append_table.result c.merge_append_table.ensures.ok (λ merges. comes_over c.args.self.now c.args.append c.merge_append_table.new.self merges)
