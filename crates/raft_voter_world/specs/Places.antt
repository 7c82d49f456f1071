-- The cut of a round that was cut off, found by comparing voters: its requests before this position were taken.
use Rattle.std.specs.Prelude.{◌≡◌, ◌≢◌, ℕ, ◌≤◌, ◌<◌, Option, Some, None, length}
use Rattle.raft_voter.specs.Rounds.{World, after, taken_from}
use Rattle.raft_voter.specs.Service.{CutRound}

-- the voters once they took the cut-off round's requests before position `place`, except the refused ones
abbrev pub world_at : CutRound → ℕ → World
world_at cut place = after cut.before (taken_from 0 place cut.refused cut.requests)

-- `place` is the first position in the cut-off round such that the requests before that position lead to world `X`
pub record IsLeastPlace (cut : CutRound) (X : World) (place : ℕ) : Type 0 where
  pub within : place ≤ length cut.requests
  pub fits : X ≡ world_at cut place
  pub least : (before : ℕ) → before < place → X ≢ world_at cut before

-- there is no position in the cut-off round such that the requests before that position lead to world `X`
abbrev pub FitsNowhere : CutRound → World → Type 0
FitsNowhere cut X = (place : ℕ) → place ≤ length cut.requests → X ≢ world_at cut place

-- the result of looking for the first position that leads to world `X`: that position, or `None` if there is none
abbrev pub IsPlaceFound : CutRound → World → Option ℕ → Type 0
IsPlaceFound cut X (Some place) = IsLeastPlace cut X place
IsPlaceFound cut X None = FitsNowhere cut X
