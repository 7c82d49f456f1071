use Rattle.std.proofs.Common.{◌≡◌, ℕ, ◌<◌}
use Rattle.std.specs.Prelude.{vec_len}
use Rattle.std.specs.Option.{option_map}
use Rattle.raft_log_fs_state.specs.Held.{held_of}
use Rattle.raft_log_fs_state.specs.Stamps.{left_held, place_in}
use Rattle.raft_log_fs_state.proofs.remains.left_files.Given as goal

-- the files so far are what is left of those that were there
abbrev pub invariant-loop-slot : goal.invariant-loop-slot
invariant-loop-slot l = record {
  len : vec_len l.left ≡ l.slot-index;
  files : (q : ℕ) → q < l.slot-index → held_of l.left.items q ≡ option_map (left_held l.what (place_in l.stamps)) (held_of l.files q);
}
