use Rattle.std.proofs.Common.{◌≡◌, drop, bytes_eq}
use Rattle.std.specs.Prelude.{is_some}
use Rattle.std.specs.Map.{lookup}
use Rattle.raft_log_world.specs.Reads.{pairs_of}
use Rattle.raft_log_judge.proofs.scanning.is_among.Given as goal

-- the pairs that are left decide
abbrev pub invariant-loop-pair : goal.invariant-loop-pair
invariant-loop-pair l = is_some (lookup (bytes_eq l.key) (pairs_of (drop l.pair-index l.pairs))) ≡ is_some (lookup (bytes_eq l.key) (pairs_of l.pairs))
