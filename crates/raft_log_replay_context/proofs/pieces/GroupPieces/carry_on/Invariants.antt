use Rattle.std.proofs.Common.{◌≡◌, ◌++◌, ℕ, map, None}
use Rattle.std.specs.BTreeMap.{get}
use Rattle.std.specs.Ordering.{nat_cmp}
use Rattle.std.specs.Vec.Iter.{into_iter_items}
use Rattle.raft_log_model_laws.specs.Fragments.{carried_on, completed}
use Rattle.raft_log_model_laws.proofs.Public.{open_in}
use Rattle.raft_log_replay_context.specs.OpenGroups.{begun_of}
use Rattle.raft_log_replay_context.specs.Pieces.{groups_seen, head_in, left_open, unfinished_of, AllGroups, Reading}
use Rattle.raft_log_replay_context.proofs.Fragments.{AreDistinct}
use Rattle.raft_log_replay_context.proofs.CarryOn.{IsHandedOut}
use Rattle.raft_log_replay_context.proofs.pieces.GroupPieces.carry_on.Given as goal

-- the groups so far went on as the next segment says, and of the others it still says what it said
abbrev pub invariant-loop-group : goal.invariant-loop-group
invariant-loop-group l = record {
  all : map begun_of l.yielded ++ map begun_of (into_iter_items l.group-iterator) ≡ l.fn.self.left_open;
  heads : l.self.heads ≡ l.fn.self.heads;
  same : (φ : Reading) (n : ℕ) → open_in (map (unfinished_of φ) (map begun_of l.yielded)) n ≡ None → head_in φ (get nat_cmp l.heads n) ≡ head_in φ (get nat_cmp l.fn.heads n);
  left : (φ : Reading) → AreDistinct (left_open φ l.fn.self)
      → left_open φ l.self ≡ carried_on (map (unfinished_of φ) (map begun_of l.yielded)) (λ n. head_in φ (get nat_cmp l.fn.heads n));
  done : (φ : Reading) → AreDistinct (left_open φ l.fn.self)
      → groups_seen φ l.done.items ≡ completed (map (unfinished_of φ) (map begun_of l.yielded)) (λ n. head_in φ (get nat_cmp l.fn.heads n));
  out : AllGroups (IsHandedOut l.fn.self.left_open (λ φ n. head_in φ (get nat_cmp l.fn.heads n))) l.done.items;
}
