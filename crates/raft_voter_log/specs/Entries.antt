-- Which entries a store reads for a group.
use Rattle.std.specs.Prelude.{◌≡◌, ◌<◌, ℕ, List, length, take, Option, None}
use Rattle.raft_voter_messages.specs.declared.reply.Entry.{Entry}
use Rattle.raft_voter_durability_laws.specs.raft_log_engine_laws.specs.raft_log_memtable.specs.Reads.{fetched}
use Rattle.raft_voter_durability_laws.specs.raft_log_engine_laws.specs.EngineState.{LogDirectories, EngineState}
use Rattle.raft_voter_outline.specs.Rules.{entries_between}
use Rattle.raft_voter.specs.Rounds.{World}
use Rattle.raft_voter_durability_laws.specs.Reads.{IsCounted}
use Rattle.raft_voter_durability_laws.specs.Standing.{Keeps}
use Rattle.raft_voter_store.specs.Reading.{ReadsEntriesTo}

-- Suppose a store's log stores the voters of `V`, and a read of the entries of group `g` from index `low` on, below
-- `high`, returned `es`. Then `es` are the first entries that the voter has there: as many as the engine fetches with
-- the limit `max`. Every engine's tables meet the premise `IsCounted` (`engines_are_counted`).
abbrev pub ReadEntriesAreTheVoters : Type 0
ReadEntriesAreTheVoters = (home : LogDirectories) (s t : EngineState) (V : World) (g low high : ℕ) (max : Option ℕ)
    (es : List Entry) → IsCounted s → Keeps home s V → ReadsEntriesTo g low high max s t es
    → es ≡ take (length (fetched (s.tables g) low high max)) (entries_between (V g) low high)
