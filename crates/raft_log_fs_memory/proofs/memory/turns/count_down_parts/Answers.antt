use Rattle.std.proofs.Common.{ℕ, ◌<◌, ◌∙◌, length, arith, ap, get_or}
use Rattle.std.proofs.Math.ListN.{set}
use Rattle.raft_log_fs_memory.specs.Turns.{part_later}
use Rattle.raft_log_fs_memory.proofs.CountDown.{mapped_step}
use Rattle.raft_log_fs_memory.proofs.memory.turns.count_down_parts.Goals as goal

pub loop-part-preserved : goal.loop-part-preserved
loop-part-preserved c =
    let i = c.loop-part.part-index in
    let lt : i < length c.args.parts.now = omega arith in
    ap (λ (v : ℕ). set c.loop-part.parts i (v, (get_or c.loop-part.parts i (0, 0)).1)) c.saturating_sub-part.ensures
    ∙ mapped_step (0, 0) part_later c.args.parts.now c.loop-part.parts i lt c.loop-part.invariant
