use Rattle.std.proofs.Common.{List, ◌++◌, map}
use Rattle.std.specs.VecDeque.{deque_len}
use Rattle.raft_log_world.specs.Model.{ModelLog}
use Rattle.raft_log_judge.specs.Candidates.{log_of}
use Rattle.raft_log_judge.specs.Changes.{says_of}
use Rattle.raft_log_judge.specs.Views.{LeadTo}
use Rattle.raft_log_judge.proofs.stepping.step.Given as goal

-- what the candidates that are left lead to comes after what is there
abbrev pub invariant-loop-candidate : goal.invariant-loop-candidate
invariant-loop-candidate g l = (more : List ModelLog) → LeadTo says_of (map log_of l.candidates.items) l.event l.answer more
    → LeadTo says_of (map log_of l.fn.candidates.items) l.event l.answer (map log_of l.nexts.items ++ more)

abbrev pub decreases-loop-candidate : goal.decreases-loop-candidate
decreases-loop-candidate g l = deque_len l.candidates
