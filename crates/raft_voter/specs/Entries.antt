-- Making a voter from its outline and its entries. An outline has only the terms of the entries.
use Rattle.std.specs.Prelude.{◌≡◌, ℕ, ◌+◌, ◌^◌, ◌<◌, List, length}
use Rattle.raft_voter_outline.specs.Runs.{bare}
use Rattle.raft_voter_outline.specs.State.{State, fresh}
use Rattle.raft_voter_outline.specs.declared.outline.decision.Write.{Write}
use Rattle.raft_voter_outline.specs.declared.outline.decision.Write.TheVariants.{Entries}

-- the voter of outline `o`, with `log` as its entries
abbrev pub with_entries : State → List (ℕ × List ℕ) → State
with_entries o log = record o { log = log }

-- outline `o` has the terms of the entries in `log`, and the index of the last one is below 2^63
pub record IsOutlineOf (o : State) (log : List (ℕ × List ℕ)) : Type 0 where
  pub bared : bare log ≡ o.log
  pub small : o.base_index + length log < 2 ^ 63

-- a voter with this base index and this log, and a fresh voter's other values
abbrev pub laid : ℕ → List (ℕ × List ℕ) → State
laid base_index log = record fresh { base_index = base_index; log = log }

-- the write appends entries
abbrev pub BringsEntries : Write → Type 0
BringsEntries (Entries skipped index) = Unit {0}
BringsEntries _ = ⊥
