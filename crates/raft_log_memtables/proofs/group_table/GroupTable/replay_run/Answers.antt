use Rattle.raft_log_memtables.proofs.group_table.GroupTable.replay_run.Goals as goal

pub returns-in-Append-clause-ok : goal.returns-in-Append-clause-ok
returns-in-Append-clause-ok c = λ n. rw c.in-Append.is (c.replay_append.ensures.ok n)

pub returns-in_ok-replay_rewrite-in-Rewrite-clause-ok : goal.returns-in_ok-replay_rewrite-in-Rewrite-clause-ok
returns-in_ok-replay_rewrite-in-Rewrite-clause-ok c = λ n. rw c.in-Rewrite.is (c.in_ok-replay_rewrite-in-Rewrite.ensures.ok n)
