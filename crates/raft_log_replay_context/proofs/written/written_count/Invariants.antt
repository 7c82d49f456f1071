use Rattle.std.proofs.Common.{◌≡◌, ◌-◌, ◌^◌, take}
use Rattle.std.specs.Prelude.{min}
use Rattle.raft_log_replay_context.specs.Written.{written_in}
use Rattle.raft_log_replay_context.proofs.written.written_count.Given as goal

-- so much the first items bring
abbrev pub invariant-loop-item : goal.invariant-loop-item
invariant-loop-item l = l.count ≡ min (written_in (take l.item-index l.items)) (2 ^ 64 - 1)
