-- Room for runs.
use Rattle.std.proofs.Common.{◌≡◌, ℕ, subst}
use Rattle.raft_log_extents.specs.declared.runs.Runs.{Runs}
use Rattle.raft_log_extents.specs.RunLists.{HasRoom}

pub room_same : (r : Runs) (a b : ℕ) → a ≡ b → HasRoom r a → HasRoom r b
room_same r a b e h = subst (HasRoom r) e h
