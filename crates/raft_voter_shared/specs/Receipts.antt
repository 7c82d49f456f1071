-- A receipt is what a thread gets for a round: the round's place in the journal, its requests and its replies. It also
-- has the thread's seat, which is its access to the store, and the seat's turn: how many records the seat had before.
-- A receipt is right or wrong for a journal that keeps its records from place `first` on.
use Rattle.std.specs.Prelude.{◌≡◌, ℕ, ◌-◌, ◌<◌, ◌≤◌, ◌==◌, ◌&&◌, ◌||◌, nat_le, nat_lt, not, Bool, false, List, length, slice_get, Option, None, Some}
use Rattle.std.specs.List.{enumerate_from, list_any}
use Rattle.raft_voter_messages.specs.declared.round.Outcome.TheVariants.{Answered}
use Rattle.raft_voter_messages.specs.declared.round.Round.{Round}
use Rattle.raft_voter_rounds.specs.declared.receipt.Statement.{Statement}

-- record `round` has the requests and the replies of receipt `r`
abbrev pub IsRecordOf : Statement → Round → Type 0
IsRecordOf r round = (round.requests ≡ r.requests) × (round.outcome ≡ Answered r.replies)

-- `rounds` are the journal's records from place `first` on, and the one at the receipt's `place` has the receipt's
-- requests and replies
pub record StandsIn (first : ℕ) (rounds : List Round) (r : Statement) : Type 0 where
  pub round : Round
  pub kept : first ≤ r.place
  pub at : slice_get rounds (r.place - first) ≡ Some round
  pub is : IsRecordOf r round

-- Whether receipt `other` contradicts receipt `r`. Either both have the same `place` in the journal. Or `other` is an
-- earlier receipt of the same seat, by its `turn`, and its `place` isn't lower.
abbrev pub clash : Statement → Statement → Bool
clash r other =
    (other.place == r.place)
    || ((other.seat == r.seat) && nat_lt other.turn r.turn && nat_le r.place other.place)

-- one of `receipts`, other than the one at `index`, contradicts receipt `r`
abbrev pub clashes : List Statement → ℕ → Statement → Bool
clashes receipts index r = list_any (λ other. not (other.0 == index) && clash r other.1) (enumerate_from 0 receipts)

-- Receipt `r`, at `index` in the list, is right: its record is kept, and no other receipt contradicts it.
pub record IsRight (first : ℕ) (rounds : List Round) (receipts : List Statement) (index : ℕ) (r : Statement) : Type 0 where
  pub stands : StandsIn first rounds r
  pub alone : clashes receipts index r ≡ false

-- each receipt whose index in the list is below `end` is right
abbrev pub AllRightBelow : ℕ → List Round → List Statement → ℕ → Type 0
AllRightBelow first rounds receipts end =
    (index : ℕ) (r : Statement) → index < end → slice_get receipts index ≡ Some r → IsRight first rounds receipts index r

-- Of the receipts whose index in the list is below `end`, one with this `place` in the journal is wrong. Each with a
-- lower `place` is right.
pub record IsWrongBelow (first : ℕ) (rounds : List Round) (receipts : List Statement) (end place : ℕ) : Type 0 where
  pub index : ℕ
  pub receipt : Statement
  pub below : index < end
  pub at : slice_get receipts index ≡ Some receipt
  pub is : receipt.place ≡ place
  pub wrong : IsRight first rounds receipts index receipt → ⊥
  pub least : (index : ℕ) (r : Statement) → index < end → slice_get receipts index ≡ Some r → r.place < place
      → IsRight first rounds receipts index r

-- the lowest `place` of a wrong receipt whose index in the list is below `end`; `None` if there is none
abbrev pub IsLeastBelow : ℕ → List Round → List Statement → ℕ → Option ℕ → Type 0
IsLeastBelow first rounds receipts end None = AllRightBelow first rounds receipts end
IsLeastBelow first rounds receipts end (Some place) = IsWrongBelow first rounds receipts end place

-- each of these receipts is right
abbrev pub AllRight : ℕ → List Round → List Statement → Type 0
AllRight first rounds receipts = AllRightBelow first rounds receipts (length receipts)

-- `place` is the lowest place of a wrong receipt among these
abbrev pub IsLeastWrong : ℕ → List Round → List Statement → ℕ → Type 0
IsLeastWrong first rounds receipts place = IsWrongBelow first rounds receipts (length receipts) place
