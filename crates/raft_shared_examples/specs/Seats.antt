-- The rounds of threads that share a store: their receipts, and their records in the journal.
use Rattle.std.specs.Prelude.{◌≡◌, ◌≢◌, ℕ, List, [], ◌∷◌, slice_get, Option, None, Some, Result, Ok, Err}
use Rattle.raft_voter_messages.specs.declared.reply.Reply.{Reply}
use Rattle.raft_voter_messages.specs.declared.request.Request.{Request}
use Rattle.raft_voter_messages.specs.declared.round.Outcome.TheVariants.{Answered}
use Rattle.raft_voter_messages.specs.declared.round.Round.{Round}
use Rattle.raft_voter_rounds.specs.declared.receipt.Statement.{Statement}
use Rattle.raft_voter_rounds.specs.declared.receipt.SharedFault.{SharedFault}

-- the place of the round's record, if the round has a receipt
abbrev pub place_in : Result Statement SharedFault → Option ℕ
place_in (Ok receipt) = Some receipt.place
place_in (Err fault) = None

-- the receipt of the round, if it has one
abbrev pub receipts_in : Result Statement SharedFault → List Statement
receipts_in (Ok receipt) = receipt ∷ []
receipts_in (Err fault) = []

-- if the round has a receipt, the receipt has these requests
abbrev pub IsReceiptOf : List (ℕ × Request) → Result Statement SharedFault → Type 0
IsReceiptOf requests (Ok receipt) = receipt.requests ≡ requests
IsReceiptOf requests (Err fault) = Unit {0}

-- The record at `place` of the journal has these requests, and replies to them.
pub record HasRecord (journal : List Round) (requests : List (ℕ × Request)) (place : ℕ) : Type 0 where
  pub round : Round
  pub replies : List Reply
  pub at : slice_get journal place ≡ Some round
  pub requested : round.requests ≡ requests
  pub replied : round.outcome ≡ Answered replies

-- if a round of these requests has a place, the journal's record at this place is that of the round
abbrev pub IsAt : List Round → List (ℕ × Request) → Option ℕ → Type 0
IsAt journal requests None = Unit {0}
IsAt journal requests (Some place) = HasRecord journal requests place

-- these are different places, if both are places
abbrev pub AreApart : Option ℕ → Option ℕ → Type 0
AreApart (Some place) (Some other) = place ≢ other
AreApart _ _ = Unit {0}

-- Two threads each asked for a round, with the requests `one` and `other`. If such a round has a place (`first` or
-- `second`), the journal has its record there. If both rounds have a place, these differ.
pub record AreServed (journal : List Round) (one : List (ℕ × Request)) (first : Option ℕ) (other : List (ℕ × Request))
    (second : Option ℕ) : Type 0 where
  pub of_one : IsAt journal one first
  pub of_other : IsAt journal other second
  pub apart : AreApart first second
