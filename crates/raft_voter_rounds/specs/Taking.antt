-- How records are taken from a journal.
use Rattle.std.specs.Prelude.{◌≡◌, ◌≢◌, ◌+◌, ◌++◌, List, length}
use Rattle.raft_voter_messages.specs.declared.round.Round.{Round}

-- the history begins with the records that were taken from the journal
abbrev pub HasTaken : List Round → List Round → Type 0
HasTaken history taken = (later : List Round) × (history ≡ taken ++ later)

-- A call took records from a journal with this history. `old` are all records taken before the call, and `kept` those
-- in memory. `new` and `kept'` are those after the call. If `old` and `kept` together are as many as the history's
-- records, `new` is the whole history, and none are left in memory. Otherwise nothing changed.
pub record TakesKept (history kept kept' old new : List Round) : Type 0 where
  pub begins : HasTaken history old
  pub all : length old + length kept ≡ length history → (new ≡ history) × (length kept' ≡ 0)
  pub none : length old + length kept ≢ length history → (new ≡ old) × (kept' ≡ kept)
