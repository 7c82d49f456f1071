-- Which groups a store lists, and what it returns for each.
use Rattle.std.specs.Prelude.{◌≡◌, ℕ, Bool, List, map}
use Rattle.raft_log_engine.specs.raft_log_engine_laws.specs.raft_log_memtables.specs.Walking.{ListsGroups}
use Rattle.raft_voter_messages.specs.declared.reply.VoterState.{VoterState}
use Rattle.raft_voter_outline.specs.State.{State, state_of}

-- `es` lists the groups for which `counts` is true, in ascending order, each with the state of its outline in `os`
pub record ListsStates (counts : ℕ → Bool) (os : ℕ → State) (es : List (ℕ × VoterState)) : Type 0 where
  pub groups : List ℕ
  pub listed : ListsGroups counts groups
  pub states : es ≡ map (λ g. (g, state_of (os g))) groups
