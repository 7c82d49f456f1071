-- The cut of a round without replies is a position: the round's requests before it were taken. The next open shows
-- voters. These voters fit the round at a position if the round's requests before that position lead to them.
use Rattle.std.specs.Prelude.{ℕ, ◌+◌, List, [], ◌∷◌, ◌++◌, length, None, unwrap_or}
use Rattle.raft_voter_messages.specs.declared.round.Round.{Round}
use Rattle.raft_voter.specs.Rounds.{World, after, taken_below}
use Rattle.raft_voter.specs.Service.{CutRound, IsOpenAt, Service, uncut}
use Rattle.raft_voter.specs.declared.service.Cause.{Cause}
use Rattle.raft_voter.specs.declared.service.Cause.TheVariants.{FileSystem}
use Rattle.raft_voter_world.specs.History.{Moment}
use Rattle.raft_voter_world.specs.History.Moment.{opened, answered, cut_off, idle}
use Rattle.raft_voter_world.specs.Places.{IsPlaceFound}
use Rattle.raft_voter_world.specs.Stores.{world_in}

-- The position that an open found for the cut-off round, or 0 if it found none. The open is the next one in `ms` that
-- read the voters. If there is no such open, the position is `last`.
abbrev pub next_place : {S F : Type 0} → ℕ → List (Moment S F) → ℕ
next_place last [] = last
next_place last (opened workers store voters place now ∷ ms) = unwrap_or place 0
next_place last (m ∷ ms) = next_place last ms

-- the cut of a round that was cut off for this cause: `place` for `FileSystem`, otherwise 0, as no request was taken
abbrev pub place_for : Cause → ℕ → ℕ
place_for FileSystem place = place
place_for cause place = 0

-- the cuts of the rounds without replies in these moments; `last` is the cut of a round that `FileSystem` cut off, if
-- no later open read the voters
abbrev pub cuts_in : {S F : Type 0} → ℕ → List (Moment S F) → List ℕ
cuts_in last [] = []
cuts_in last (cut_off round cause now ∷ ms) = place_for cause (next_place last ms) ∷ cuts_in last ms
cuts_in last (idle round files ∷ ms) = 0 ∷ cuts_in last ms
cuts_in last (m ∷ ms) = cuts_in last ms

-- The last round that may have been taken in part, once `round` was cut off for this cause. It is `round` if the cause
-- is `FileSystem`. Otherwise nothing of `round` was taken, and the last such round is still `cut`.
abbrev pub cut_by : Cause → CutRound → Round → CutRound
cut_by FileSystem cut round =
    record { before = cut.before; requests = round.requests; refused = round.refused }
cut_by cause cut round = cut

-- `round` got replies, so no round is cut off now: only the voters after `round` are possible
abbrev pub cut_after : CutRound → Round → CutRound
cut_after cut round = uncut (after cut.before (taken_below round (length round.requests)))

-- For each open that shows voters, its `place` is the first position at which they fit the last cut-off round. It is
-- `None` if they fit at no position. `cut` is the last cut-off round before these moments.
abbrev pub AreLeast : {S F : Type 0} → CutRound → List (Moment S F) → Type 0
AreLeast cut [] = Unit {0}
AreLeast cut (opened workers store voters place now ∷ ms) =
    IsPlaceFound cut (world_in voters) place × AreLeast (uncut (world_in voters)) ms
AreLeast cut (answered round now ∷ ms) = AreLeast (cut_after cut round) ms
AreLeast cut (cut_off round cause now ∷ ms) = AreLeast (cut_by cause cut round) ms
AreLeast cut (m ∷ ms) = AreLeast cut ms

-- the number `event`, once for each open of these moments that shows voters that fit at no position
abbrev pub lost_at : {S F : Type 0} → ℕ → List (Moment S F) → List ℕ
lost_at event [] = []
lost_at event (opened workers store voters None now ∷ ms) = event ∷ lost_at event ms
lost_at event (m ∷ ms) = lost_at event ms

-- The numbers of the events that lost voters. The first list has the moments of event number `event`, the second one
-- those of the next event, and so on. An event is listed once for each of its opens that shows voters that fit at no
-- position.
abbrev pub lost_from : {S F : Type 0} → ℕ → List (List (Moment S F)) → List ℕ
lost_from event [] = []
lost_from event (ms ∷ mss) = lost_at event ms ++ lost_from (event + 1) mss

-- Each store whose voters were read at its open hasn't failed, and serves the voters of some world. It leaves exactly
-- these to the next open.
abbrev pub ServeSome : {S F : Type 0} → Service S → List (Moment S F) → Type 0
ServeSome v [] = Unit {0}
ServeSome v (opened workers store voters place now ∷ ms) = ((W : World) × IsOpenAt v store W) × ServeSome v ms
ServeSome v (m ∷ ms) = ServeSome v ms

-- no open of these moments shows voters that fit at no position
abbrev pub NoneLost : {S F : Type 0} → List (Moment S F) → Type 0
NoneLost [] = Unit {0}
NoneLost (opened workers store voters None now ∷ ms) = ⊥
NoneLost (m ∷ ms) = NoneLost ms
