-- What the example that counts records returns.
use Rattle.std.specs.Prelude.{◌≡◌, ℕ, ◌-◌, ◌^◌, List, length, min}
use Rattle.raft_log_replay.specs.Machines.{Batch}
use Rattle.raft_log_replay.specs.Segments.{all_batches}
use Rattle.raft_log_replay.specs.Sources.{HoldEach}

-- `count` is the number of batches, but at most 2^64 - 1
abbrev pub IsCountOf : List Batch → ℕ → Type 0
IsCountOf batches count = count ≡ min (length batches) (2 ^ 64 - 1)

-- The first `segments` segments (consecutive files that one worker reads) were read. `count` is the number of all
-- batches in them, but at most 2^64 - 1.
pub record CountsRecords {E : Type 0} (holds : ℕ → List Batch → E → Type 0) (segments count : ℕ) : Type 0 where
  pub batches : List (List Batch)
  pub endings : List E
  pub held : HoldEach holds 0 batches endings
  pub all : length batches ≡ segments
  pub counted : IsCountOf (all_batches batches) count
