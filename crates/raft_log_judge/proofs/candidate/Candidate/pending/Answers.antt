use Rattle.std.proofs.Common.{◌-◌, drop, length, map, take, ap, ◌∙◌}
use Rattle.raft_log_judge.specs.Changes.{says_of}
use Rattle.raft_log_judge.proofs.Held.{map_rest}
use Rattle.raft_log_judge.proofs.candidate.Candidate.pending.Goals as goal

pub returns : goal.returns
returns c = ap (λ xs. map says_of (take (length xs - c.args.self.now.durable) (drop c.args.self.now.durable xs))) c.as_slice.ensures ∙ map_rest says_of c.args.self.now.durable c.args.self.now.batches
