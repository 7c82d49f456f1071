-- The notes of a run: its rounds, the cut of each round that was cut off, and the voters. The last cut-off round may
-- be unsettled: its cut isn't known until the next open shows the voters.
use Rattle.std.specs.Prelude.{◌≡◌, ℕ, List, [], ◌∷◌, ◌++◌, length, Option, Some, None, unwrap_or}
use Rattle.raft_voter_messages.specs.declared.round.Round.{Round}
use Rattle.raft_voter.specs.Rounds.{World, after, taken_below}
use Rattle.raft_voter.specs.Service.{CutRound, uncut}
use Rattle.raft_voter.specs.Voters.{world_of}
use Rattle.raft_voter_world.specs.declared.notes.Notes.{Notes}
use Rattle.raft_voter_world.specs.declared.notes.Unsettled.{Unsettled}
use Rattle.raft_voter_world.specs.Places.{IsPlaceFound}

-- the unsettled round, with the voters of world `W` before it; if there is none, no round is cut off
abbrev pub cut_from : World → Option Unsettled → CutRound
cut_from W None = uncut W
cut_from W (Some u) = record { before = W; requests = u.round.requests; refused = u.round.refused }

-- the unsettled round of these notes, with the voters of the notes before it; if there is none, no round is cut off
abbrev pub cut_of : Notes → CutRound
cut_of n = cut_from (world_of n.voters) n.unsettled

-- the unsettled round and the rounds after it; all these rounds wait for the next open
abbrev pub waiting : Option Unsettled → List Round
waiting None = []
waiting (Some u) = u.round ∷ u.rounds.items

-- all rounds of the run: the settled ones, then those that wait for the next open
abbrev pub all_rounds : Notes → List Round
all_rounds n = n.rounds.items ++ waiting n.unsettled

-- the cuts of the rounds that wait for the next open, if the cut of the unsettled one is `place`
abbrev pub waiting_cuts : ℕ → Option Unsettled → List ℕ
waiting_cuts place None = []
waiting_cuts place (Some u) = place ∷ u.cuts.items

-- all cuts of the run, if the cut of the unsettled round is `place`
abbrev pub all_cuts : Notes → ℕ → List ℕ
all_cuts n place = n.cuts.items ++ waiting_cuts place n.unsettled

-- in `new`, no round is unsettled; all rounds of `old` are settled, with `place` as the cut of the unsettled one
pub record Settles (old : Notes) (place : ℕ) (new : Notes) : Type 0 where
  pub none : new.unsettled ≡ None
  pub rounds : new.rounds.items ≡ all_rounds old
  pub cuts : new.cuts.items ≡ all_cuts old place

-- The list with `event` alone if the open in this event showed voters that fit at no position (`None`). Otherwise the
-- empty list.
abbrev pub lost_by : Option ℕ → ℕ → List ℕ
lost_by None event = event ∷ []
lost_by (Some place) event = []

-- The open of event `event` showed the voters of world `X`. `place` is the first position at which they fit the
-- unsettled round, or `None` if they fit at no position. All rounds are settled, with `place` (or 0) as that round's
-- cut.
pub record NotesShown (old : Notes) (event : ℕ) (X : World) (place : Option ℕ) (new : Notes) : Type 0 where
  pub found : IsPlaceFound (cut_of old) X place
  pub settled : Settles old (unwrap_or place 0) new
  pub world : world_of new.voters ≡ X
  pub lost : new.lost.items ≡ old.lost.items ++ lost_by place event

-- a round got replies: it is added, and the voters are those after it
pub record NotesAnswered (old : Notes) (round : Round) (new : Notes) : Type 0 where
  pub none : new.unsettled ≡ None
  pub rounds : new.rounds.items ≡ old.rounds.items ++ round ∷ []
  pub cuts : new.cuts.items ≡ old.cuts.items
  pub world : world_of new.voters ≡ after (world_of old.voters) (taken_below round (length round.requests))
  pub lost : new.lost.items ≡ old.lost.items

-- A round was cut off, and some of its requests may have been taken. It is now the unsettled round.
pub record NotesCut (old : Notes) (round : Round) (new : Notes) : Type 0 where
  pub cut : cut_of new ≡ record { before = world_of old.voters; requests = round.requests; refused = round.refused }
  pub rounds : all_rounds new ≡ old.rounds.items ++ round ∷ []
  pub cuts : (place : ℕ) → all_cuts new place ≡ old.cuts.items ++ place ∷ []
  pub lost : new.lost.items ≡ old.lost.items

-- a round was cut off, and none of its requests was taken: it is added with 0 as its cut
pub record NotesIdle (old : Notes) (round : Round) (new : Notes) : Type 0 where
  pub cut : cut_of new ≡ cut_of old
  pub rounds : all_rounds new ≡ all_rounds old ++ round ∷ []
  pub cuts : (place : ℕ) → all_cuts new place ≡ all_cuts old place ++ 0 ∷ []
  pub lost : new.lost.items ≡ old.lost.items
  pub still : old.unsettled ≡ None → new.unsettled ≡ None
