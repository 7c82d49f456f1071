-- When a voter's numbers are in range, and when a voter can be stored.
use Rattle.std.specs.Prelude.{◌≡◌, ℕ, ◌+◌, ◌^◌, ◌≤◌, ◌<◌, true, length}
use Rattle.std.specs.List.{list_all}
use Rattle.raft_voter_messages.specs.Ranges.{entry_fits, fits}
use Rattle.raft_voter_messages.specs.StoredForms.{vote_fits}
use Rattle.raft_voter.specs.Rounds.{World}
use Rattle.raft_voter_outline.specs.State.{State}

-- the voter's term, vote, base and commit are in range, its base is at most its commit, and each entry is in range
pub record IsInRange (v : State) : Type 0 where
  pub term : fits v.term ≡ true
  pub vote : vote_fits v.vote ≡ true
  pub base_index : fits v.base_index ≡ true
  pub base_term : fits v.base_term ≡ true
  pub commit : fits v.commit ≡ true
  pub committed : v.base_index ≤ v.commit
  pub log : list_all entry_fits v.log ≡ true

-- voter `v` is in range, and the index of its last entry is below 2^63, so that it can be stored
pub record IsStorable (v : State) : Type 0 where
  pub in_range : IsInRange v
  pub end_fits : v.base_index + length v.log < 2 ^ 63

-- in world `W`, the voter of each group is in range
abbrev pub AllInRange : World → Type 0
AllInRange W = (group : ℕ) → IsInRange (W group)
