use Rattle.std.proofs.Common.{◌≡◌, ◌==◌, ℕ, take}
use Rattle.std.specs.List.{list_any}
use Rattle.raft_log_purge_policy.specs.Behind.{round_behind}
use Rattle.raft_log_purge_policy.specs.Picking.{count_of}
use Rattle.raft_log_purge_policy.proofs.rounds.Rounds.behind.Given as goal

-- so it is once the first groups were asked
abbrev pub invariant-loop-group : goal.invariant-loop-group
invariant-loop-group l = (g : ℕ) → count_of l.next g ≡ round_behind (list_any (λ k. k == g) (take l.group-index l.asked)) (count_of l.self g)
