use Rattle.std.proofs.Common.{ℕ, ◌<◌, ◌-◌, ◌∙◌, length, arith, ap}
use Rattle.std.proofs.Math.ListN.{set}
use Rattle.raft_log_fs_memory.proofs.CountDown.{mapped_step}
use Rattle.raft_log_fs_memory.proofs.memory.turns.count_down.Goals as goal

pub loop-n-preserved : goal.loop-n-preserved
loop-n-preserved c =
    let lt : c.loop-n.n-index < length c.args.refusals.now = omega arith in
    ap (λ (v : ℕ). set c.loop-n.refusals c.loop-n.n-index v) c.saturating_sub.ensures
    ∙ mapped_step 0 (λ n. n - 1) c.args.refusals.now c.loop-n.refusals c.loop-n.n-index lt c.loop-n.invariant
