-- What rounds of requests do to the voters of all groups, and what these voters reply if they never fail.
use Rattle.std.specs.Prelude.{◌≡◌, ℕ, ◌+◌, ◌≤◌, ◌==◌, ◌&&◌, nat_lt, nat_le, Bool, true, not, IsTrue, if◌then◌else◌, List, [], ◌∷◌, length, drop}
use Rattle.std.specs.List.{list_any}
use Rattle.raft_voter_messages.specs.declared.reply.Reply.{Reply}
use Rattle.raft_voter_messages.specs.declared.reply.Reply.TheVariants.{Refused}
use Rattle.raft_voter_messages.specs.declared.request.Request.{Request}
use Rattle.raft_voter_messages.specs.declared.round.Outcome.{Outcome}
use Rattle.raft_voter_messages.specs.declared.round.Outcome.TheVariants.{Answered, Cut}
use Rattle.raft_voter_messages.specs.declared.round.Round.{Round}
use Rattle.raft_voter_outline.specs.State.{State, fresh}
use Rattle.raft_voter_outline.specs.Rules.{reply, next}

-- Worlds.

-- a world: the voter of each group
abbrev pub World : Type 0
World = ℕ → State

-- the world in which every group has a fresh voter
abbrev pub fresh_world : World
fresh_world = λ _. fresh

-- world `W`, but with voter `v` for `group`
abbrev pub put : World → ℕ → State → World
put W group v = λ g. if g == group then v else W g

-- world `W` after one request, which comes with the number of its group; only that group's voter can change
abbrev pub after_one : World → ℕ × Request → World
after_one W q = put W q.0 (next (W q.0) q.1)

-- world `W` after these requests, taken in order
abbrev pub after : World → List (ℕ × Request) → World
after W [] = W
after W (q ∷ qs) = after (after_one W q) qs

-- Rounds.

-- position `place` of a round is in the list `refused`
abbrev pub is_among : List ℕ → ℕ → Bool
is_among refused place = list_any (λ p. p == place) refused

-- The requests before position `cut`, in order, without those at the positions in `refused`. The first of all requests
-- is at position `place`.
abbrev pub taken_from : ℕ → ℕ → List ℕ → List (ℕ × Request) → List (ℕ × Request)
taken_from place cut refused [] = []
taken_from place cut refused (q ∷ qs) =
    if nat_lt place cut && not (is_among refused place) then q ∷ taken_from (place + 1) cut refused qs
    else taken_from (place + 1) cut refused qs

-- the requests of round `r` before position `cut`, without those at its refused positions
abbrev pub taken_below : Round → ℕ → List (ℕ × Request)
taken_below r cut = taken_from 0 cut r.refused r.requests

-- The replies to these requests, starting in world `W`. The first request is at position `place`. At a position in
-- `refused`, the reply is `Refused`, and no voter takes the request. At any other position, the reply is that of the
-- group's voter after the earlier requests. A voter also replies `Refused` to a request out of range.
abbrev pub replies_from : ℕ → List ℕ → World → List (ℕ × Request) → List Reply
replies_from place refused W [] = []
replies_from place refused W (q ∷ qs) =
    if is_among refused place then Refused ∷ replies_from (place + 1) refused W qs
    else reply (W q.0) q.1 ∷ replies_from (place + 1) refused (after_one W q) qs

-- the replies to the requests of round `r`, starting in world `W`
abbrev pub replies_of : World → Round → List Reply
replies_of W r = replies_from 0 r.refused W r.requests

-- each of these positions is higher than the one before; all are at least `low` and below `high`
abbrev pub are_rising : ℕ → ℕ → List ℕ → Bool
are_rising low high [] = true
are_rising low high (p ∷ ps) = nat_le low p && nat_lt p high && are_rising (p + 1) high ps

-- World `X` is world `W` after the first `place` of the requests `qs`, for some `place`, without those at the positions
-- in `refused`.
pub record TakesFirst (W : World) (qs : List (ℕ × Request)) (refused : List ℕ) (X : World) : Type 0 where
  pub place : ℕ
  pub within : place ≤ length qs
  pub reached : X ≡ after W (taken_from 0 place refused qs)

-- Sequences of rounds. A round that was cut off has no replies. The first of `cuts` is its cut: the requests before
-- that position were taken. The other cuts are for later rounds.

-- the list isn't empty, and its first position is at most `size`, the number of the round's requests
abbrev pub HasCut : ℕ → List ℕ → Type 0
HasCut size [] = ⊥
HasCut size (cut ∷ cuts) = cut ≤ size

-- the cuts for later rounds: without the first one, if this round was cut off
abbrev pub cuts_after : Outcome → List ℕ → List ℕ
cuts_after (Answered replies) cuts = cuts
cuts_after Cut cuts = drop 1 cuts

-- The requests of a round before this position were taken. It is `size`, the number of its requests, if the round has
-- replies. Otherwise it is the first of `cuts`, or 0 if there are no cuts.
abbrev pub place_reached : Outcome → ℕ → List ℕ → ℕ
place_reached (Answered replies) size cuts = size
place_reached Cut size [] = 0
place_reached Cut size (cut ∷ cuts) = cut

-- The outcome of round `r` is possible in world `W`. If the round has replies, these are what the voters of `W` reply.
-- If the round was cut off, `cuts` isn't empty, and its first position is at most the number of the round's requests.
abbrev pub OutcomeHolds : Outcome → World → Round → List ℕ → Type 0
OutcomeHolds (Answered replies) W r cuts = replies ≡ replies_of W r
OutcomeHolds Cut W r cuts = HasCut (length r.requests) cuts

-- Round `r` is possible in world `W`. Its refused positions rise and are within the round. Its replies, or its cut in
-- `cuts`, are right.
abbrev pub RoundHolds : World → Round → List ℕ → Type 0
RoundHolds W r cuts = IsTrue (are_rising 0 (length r.requests) r.refused) × OutcomeHolds r.outcome W r cuts

-- the world after round `r`, starting in world `W`
abbrev pub after_round : World → Round → List ℕ → World
after_round W r cuts = after W (taken_below r (place_reached r.outcome (length r.requests) cuts))

-- the world after these rounds, in order, starting in world `W`
abbrev pub after_rounds : World → List Round → List ℕ → World
after_rounds W [] cuts = W
after_rounds W (r ∷ rounds) cuts = after_rounds (after_round W r cuts) rounds (cuts_after r.outcome cuts)

-- Voters that start in world `W` and never fail give exactly the replies in these rounds. They take all requests,
-- except those at refused positions and those from a round's cut on. There is one cut for each round that was cut off.
abbrev pub ExplainsFrom : World → List Round → List ℕ → Type 0
ExplainsFrom W [] cuts = cuts ≡ []
ExplainsFrom W (r ∷ rounds) cuts =
    RoundHolds W r cuts × ExplainsFrom (after_round W r cuts) rounds (cuts_after r.outcome cuts)

-- fresh voters that never fail give exactly the replies in these rounds, with these cuts
abbrev pub Explains : List Round → List ℕ → Type 0
Explains rounds cuts = ExplainsFrom fresh_world rounds cuts

-- Voters that start in world `W` and never fail give exactly the replies in these rounds, with these cuts. Afterwards
-- they are those of world `X`.
pub record Leads (W : World) (rounds : List Round) (cuts : List ℕ) (X : World) : Type 0 where
  pub explained : ExplainsFrom W rounds cuts
  pub reached : after_rounds W rounds cuts ≡ X
