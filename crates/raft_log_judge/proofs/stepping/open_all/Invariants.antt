use Rattle.std.proofs.Common.{◌≡◌, List, [], ◌++◌, drop, map}
use Rattle.raft_log_world.specs.Model.ModelLog.{running}
use Rattle.raft_log_world.specs.Reads.{Contents}
use Rattle.raft_log_judge.specs.declared.candidate.Candidate.{Candidate}
use Rattle.raft_log_judge.specs.Candidates.{durable_of, log_of, opened_logs, pending_of}
use Rattle.raft_log_judge.specs.Changes.{says_of}
use Rattle.raft_log_judge.proofs.stepping.open_all.Given as goal

-- the contents so far, the candidates so far, and those that come
abbrev pub invariant-loop-batch : goal.invariant-loop-batch
invariant-loop-batch l = (at : Contents) × (more : List Candidate) × (log_of l.current ≡ running at []) × (l.nexts.items ≡ l.initial.nexts.items ++ more)
    × (map log_of more ++ opened_logs at (map says_of (drop l.batch-index l.pending)) ≡ opened_logs (durable_of l.candidate) (pending_of l.candidate))
