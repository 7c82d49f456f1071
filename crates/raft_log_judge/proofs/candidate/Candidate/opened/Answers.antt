use Rattle.std.proofs.Common.{take, ap, ◌∙◌}
use Rattle.raft_log_judge.proofs.Held.{first_log}
use Rattle.raft_log_judge.proofs.candidate.Candidate.opened.Goals as goal

pub returns : goal.returns
returns c = first_log c.args.self.now.batches c.in_ok-batches.batches c.args.self.now.durable (c.in_ok-batches.ensures ∙ ap (take c.args.self.now.durable) c.as_slice.ensures)
