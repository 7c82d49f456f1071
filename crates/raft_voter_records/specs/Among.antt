-- Which voters a log's contents can represent after a crash. A crash keeps the synced contents, and some prefix of
-- the batches that were written and not yet synced.
use Rattle.std.specs.Prelude.{ℕ, ◌≤◌, List, length, take}
use Rattle.raft_log_model_laws.specs.Item.{Record}
use Rattle.raft_log_model_laws.specs.Groups.{taken}
use Rattle.raft_voter.specs.Rounds.{World}
use Rattle.raft_voter_records.specs.Voters.{Groups, Means}

-- Whichever prefix of `pending` is applied to the contents `m`, the result represents some voters for which `P`
-- holds.
abbrev pub MeansAmong : (World → Type 0) → Groups → List (Record (List ℕ) (List ℕ)) → Type 0
MeansAmong P m pending =
    (k : ℕ) → k ≤ length pending → (X : World) × P X × Means (taken m (take k pending)) X
