-- What a receipt of a shared store proves: the history of the store has the round's record at the receipt's place.
use Rattle.std.specs.Prelude.{◌≡◌, ℕ, List, [], ◌∷◌, slice_get, take, Option, None, Some, Result, Ok, Err}
use Rattle.std.specs.List.{All}
use Rattle.raft_voter_messages.specs.declared.request.Request.{Request}
use Rattle.raft_voter_messages.specs.declared.round.Round.{Round}
use Rattle.raft_voter.specs.Rounds.{World, replies_of}
use Rattle.raft_voter_rounds.specs.Journal.{IsLegal, reached}
use Rattle.raft_voter_rounds.specs.Noting.{answered}
use Rattle.raft_voter_rounds.specs.declared.done.Told.{Told}
use Rattle.raft_voter_rounds.specs.declared.receipt.Statement.{Statement}
use Rattle.raft_voter_rounds.specs.declared.receipt.SharedFault.{SharedFault}

-- What comes with an answer to a round of these requests. If there are replies, it is the claim that the history has
-- the round's record at its place. Otherwise there is no claim.
abbrev pub claim_of : List (ℕ × Request) → Result Told SharedFault → Option (ℕ × List Round)
claim_of requests (Ok told) = Some (told.place, answered requests told.replies ∷ [])
claim_of requests (Err fault) = None

-- the record of the receipt's round
abbrev pub record_of : Statement → Round
record_of r = answered r.requests r.replies

-- the history has the receipt's record at its place
abbrev pub IsAt : List Round → Statement → Type 0
IsAt history r = slice_get history r.place ≡ Some (record_of r)

-- There is a history of a store's rounds. It is legal, starting with the voters that the store served when it was
-- shared (each world with `served`). The history has the record of each of these receipts at the receipt's place.
pub record AreInHistory (served : World → Type 0) (receipts : List Statement) : Type 0 where
  pub history : List Round
  pub legal : (W : World) → served W → IsLegal W history
  pub found : All (λ r. IsAt history r) receipts

-- Receipts of one place in a history have the same requests and replies.
abbrev pub ReceiptsAgree : Type 0
ReceiptsAgree =
    (history : List Round) (r s : Statement) → IsAt history r → IsAt history s → r.place ≡ s.place
    → (r.requests ≡ s.requests) × (r.replies ≡ s.replies)

-- If the history is legal, a receipt's replies are those that the voters give after all earlier rounds of the history.
abbrev pub RepliesAreVoters : Type 0
RepliesAreVoters =
    (W : World) (history : List Round) (r : Statement) → IsLegal W history → IsAt history r
    → r.replies ≡ replies_of (reached W (take r.place history)) (record_of r)
