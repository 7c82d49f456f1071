use Rattle.std.proofs.Common.{◌≡◌, ℕ}
use Rattle.std.specs.BTreeMap.{get, btree_map_len}
use Rattle.std.specs.Ordering.{nat_cmp}
use Rattle.raft_log_model_laws.specs.Fragments.{then_head}
use Rattle.raft_log_replay_context.specs.Pieces.{head_at, head_in, Reading}
use Rattle.raft_log_replay_context.proofs.pieces.GroupPieces.add_heads.Given as goal

-- what was done so far and what is left come to what all comes to
abbrev pub invariant-loop-number : goal.invariant-loop-number
invariant-loop-number l = record {
  heads : (φ : Reading) (n : ℕ) → then_head (head_at φ l.self n) (head_in φ (get nat_cmp l.heads n)) ≡ then_head (head_at φ l.initial.self n) (head_in φ (get nat_cmp l.fn.heads n));
  others : l.self.left_open ≡ l.fn.self.left_open;
}

abbrev pub decreases-loop-number : goal.decreases-loop-number
decreases-loop-number l = btree_map_len l.heads
