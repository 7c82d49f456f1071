use Rattle.std.proofs.Common.{◌+◌, ap, length, ◌∙◌}
use Rattle.raft_log_extents.specs.Bounds.{bounds_of}
use Rattle.raft_log_extents.proofs.Rising.{length_rising}
use Rattle.raft_log_extents.proofs.bounds.Bounds.len.Goals as goal

pub returns-in-Even : goal.returns-in-Even
returns-in-Even c =
    ap (λ b. length (bounds_of b)) c.in-Even.is ∙ length_rising c.in-Even.start c.in-Even.size (c.in-Even.count + 1)
