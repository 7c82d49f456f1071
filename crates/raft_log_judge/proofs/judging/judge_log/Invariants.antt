use Rattle.std.proofs.Common.{◌↔◌, drop, map}
use Rattle.raft_log_judge.specs.Candidates.{log_of}
use Rattle.raft_log_judge.specs.Changes.{says_of}
use Rattle.raft_log_judge.specs.Judging.{IsExplained}
use Rattle.raft_log_judge.specs.Views.{AnyGoes}
use Rattle.raft_log_judge.proofs.judging.judge_log.Given as goal

-- the events and answers that are left decide
abbrev pub invariant-loop-event : goal.invariant-loop-event
invariant-loop-event g l = AnyGoes says_of (map log_of l.candidates.items) (drop l.event-index l.events) l.rest ↔ IsExplained l.events l.answers
