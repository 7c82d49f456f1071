use Rattle.std.proofs.Common.{◌≡◌, ◌||◌, ℕ, take}
use Rattle.raft_log_memtables.specs.Batch.{mentions}
use Rattle.raft_log_replay_context.specs.Noting.{is_listed}
use Rattle.raft_log_replay_context.proofs.settle.add_groups.Given as goal

-- the groups of the items so far are listed
abbrev pub invariant-loop-item : goal.invariant-loop-item
invariant-loop-item l = (g : ℕ) → is_listed g l.groups.items ≡ (is_listed g l.fn.groups.items || mentions g (take l.item-index l.items))
