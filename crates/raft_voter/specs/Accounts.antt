-- The account of a transcript: each request that a voter took, in order, with its reply. A request has no reply there
-- if its round was cut off, which means that the round ended without replies.
use Rattle.std.specs.Prelude.{◌≡◌, ℕ, ◌+◌, ◌==◌, false, if◌then◌else◌, List, [], ◌∷◌, ◌++◌, length, Option, None, Some}
use Rattle.raft_voter_messages.specs.declared.reply.Reply.{Reply}
use Rattle.raft_voter_messages.specs.declared.request.Request.{Request}
use Rattle.raft_voter_messages.specs.declared.round.Outcome.{Outcome}
use Rattle.raft_voter_messages.specs.declared.round.Outcome.TheVariants.{Answered, Cut}
use Rattle.raft_voter_messages.specs.declared.round.Round.{Round}
use Rattle.raft_voter_outline.specs.State.{State, fresh}
use Rattle.raft_voter_outline.specs.Rules.{is_retire, next}
use Rattle.raft_voter.specs.Rounds.{cuts_after, is_among, place_reached, taken_below}

-- A request that the voter of `group` took, and the reply that the transcript has for the request. The reply is `None`
-- if the request's round was cut off.
pub record Taken : Type 0 where
  pub group : ℕ
  pub request : Request
  pub told : Option Reply

-- These requests of a round with replies, each with its reply. The first one is at position `place` of the round.
-- Requests at the positions in `refused` are left out.
abbrev pub told_from : ℕ → List ℕ → List (ℕ × Request) → List Reply → List Taken
told_from place refused [] replies = []
told_from place refused (q ∷ qs) [] = []
told_from place refused (q ∷ qs) (a ∷ replies) =
    if is_among refused place then told_from (place + 1) refused qs replies
    else record { group = q.0; request = q.1; told = Some a } ∷ told_from (place + 1) refused qs replies

-- these requests, each without a reply
abbrev pub untold : List (ℕ × Request) → List Taken
untold [] = []
untold (q ∷ qs) = record { group = q.0; request = q.1; told = None } ∷ untold qs

-- The account of round `r`: its requests, except those at refused positions. If the round has replies, each request has
-- its reply. If the round was cut off, only the requests before the first of `cuts` are there, without replies.
abbrev pub account_of_round : Outcome → Round → List ℕ → List Taken
account_of_round (Answered replies) r cuts = told_from 0 r.refused r.requests replies
account_of_round Cut r cuts = untold (taken_below r (place_reached Cut (length r.requests) cuts))

-- the account of these rounds; each round that was cut off uses up one of `cuts`
abbrev pub account : List Round → List ℕ → List Taken
account [] cuts = []
account (r ∷ rounds) cuts = account_of_round r.outcome r cuts ++ account rounds (cuts_after r.outcome cuts)

-- the requests of `group` in this account, each with its reply, if it got one
abbrev pub own : ℕ → List Taken → List (Request × Option Reply)
own group [] = []
own group (t ∷ ts) = if t.group == group then (t.request, t.told) ∷ own group ts else own group ts

-- the requests that the voter of `group` took in these rounds, each with its reply, if it got one
abbrev pub group_account : ℕ → List Round → List ℕ → List (Request × Option Reply)
group_account group rounds cuts = own group (account rounds cuts)

-- voter `v` after these requests, taken in order
abbrev pub voter_from : State → List (Request × Option Reply) → State
voter_from v [] = v
voter_from v (t ∷ ts) = voter_from (next v t.0) ts

-- a fresh voter after these requests, taken in order
abbrev pub voter_after : List (Request × Option Reply) → State
voter_after ts = voter_from fresh ts

-- the requests of this list, without their replies
abbrev pub requests_of : List (Request × Option Reply) → List Request
requests_of [] = []
requests_of (t ∷ ts) = t.0 ∷ requests_of ts

-- none of these requests is Retire
abbrev pub NoRetire : List (Request × Option Reply) → Type 0
NoRetire [] = Unit {0}
NoRetire (t ∷ ts) = (is_retire t.0 ≡ false) × NoRetire ts
