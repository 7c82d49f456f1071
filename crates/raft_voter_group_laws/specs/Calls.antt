-- What the callers of one group see of a transcript (rounds with their requests and replies), and what one voter gives
-- them. In this file a voter serves the calls of one group. It knows of no other group and of no crash.
use Rattle.std.specs.Prelude.{ℕ, ◌+◌, ◌==◌, ◌&&◌, nat_lt, Bool, true, false, not, if◌then◌else◌, List, [], ◌∷◌, ◌++◌, length, drop, slice_get, Option, None, Some}
use Rattle.raft_voter_messages.specs.declared.reply.Reply.{Reply}
use Rattle.raft_voter_messages.specs.declared.reply.Reply.TheVariants.{Refused}
use Rattle.raft_voter_messages.specs.declared.request.Request.{Request}
use Rattle.raft_voter_messages.specs.declared.round.Outcome.{Outcome}
use Rattle.raft_voter_messages.specs.declared.round.Outcome.TheVariants.{Answered, Cut}
use Rattle.raft_voter_messages.specs.declared.round.Round.{Round}
use Rattle.raft_voter.specs.Rounds.{cuts_after, is_among, place_reached}
use Rattle.raft_voter_outline.specs.Rules.{next, reply}
use Rattle.raft_voter_outline.specs.State.{State}

-- What callers see.

-- the replies of a round with this outcome; none if the round was cut off, so that it ended without replies
abbrev pub shown_replies : Outcome → List Reply
shown_replies (Answered replies) = replies
shown_replies Cut = []

-- for each of these requests that is of `group`, in order: the reply at its position, if there is one
abbrev pub seen_in : ℕ → List (ℕ × Request) → List Reply → List (Option Reply)
seen_in group [] replies = []
seen_in group (q ∷ qs) replies =
    if q.0 == group then slice_get replies 0 ∷ seen_in group qs (drop 1 replies)
    else seen_in group qs (drop 1 replies)

-- for each request of `group` in these rounds, in order: the reply that its caller saw, or `None`
abbrev pub replies_seen : ℕ → List Round → List (Option Reply)
replies_seen group [] = []
replies_seen group (r ∷ rounds) = seen_in group r.requests (shown_replies r.outcome) ++ replies_seen group rounds

-- Which requests were taken.

-- a request of one group; whether the group's voter took it; and whether its round has replies
pub record Call : Type 0 where
  pub request : Request
  pub taken : Bool
  pub replied : Bool

-- a round with this outcome has replies
abbrev pub has_replies : Outcome → Bool
has_replies (Answered replies) = true
has_replies Cut = false

-- The calls of `group` among these requests, whose positions count from `place`. Requests before position `cut` were
-- taken, except those at the positions in `refused`.
abbrev pub calls_from : ℕ → Bool → List ℕ → ℕ → ℕ → List (ℕ × Request) → List Call
calls_from group replied refused cut place [] = []
calls_from group replied refused cut place (q ∷ qs) =
    if q.0 == group then
    record { request = q.1; taken = nat_lt place cut && not (is_among refused place); replied = replied }
    ∷ calls_from group replied refused cut (place + 1) qs
    else calls_from group replied refused cut (place + 1) qs

-- the calls of `group` in round `r`; if the round was cut off, its requests from the first of `cuts` on weren't taken
abbrev pub calls_in : ℕ → Round → List ℕ → List Call
calls_in group r cuts =
    calls_from group (has_replies r.outcome) r.refused (place_reached r.outcome (length r.requests) cuts) 0 r.requests

-- the calls of `group` in these rounds, in order; each round that was cut off uses up one of `cuts`
abbrev pub calls_of : ℕ → List Round → List ℕ → List Call
calls_of group [] cuts = []
calls_of group (r ∷ rounds) cuts = calls_in group r cuts ++ calls_of group rounds (cuts_after r.outcome cuts)

-- One voter.

-- What the caller sees if voter `v` serves this call. In a round with replies, it is the voter's reply if the request
-- was taken, else `Refused`. In a round without replies, the caller sees nothing.
abbrev pub shown_by : State → Call → Option Reply
shown_by v c = if c.replied then Some (if c.taken then reply v c.request else Refused) else None

-- voter `v` after this call: unchanged if the request wasn't taken
abbrev pub after_call : State → Call → State
after_call v c = if c.taken then next v c.request else v

-- what the callers see if one voter, at first `v`, serves these calls in order
abbrev pub one_voter_shows : State → List Call → List (Option Reply)
one_voter_shows v [] = []
one_voter_shows v (c ∷ cs) = shown_by v c ∷ one_voter_shows (after_call v c) cs

-- voter `v` after these calls, in order
abbrev pub after_calls : State → List Call → State
after_calls v [] = v
after_calls v (c ∷ cs) = after_calls (after_call v c) cs

-- the requests of these calls that were taken, in order, each with what its caller saw
abbrev pub taken_of : List Call → List (Option Reply) → List (Request × Option Reply)
taken_of (c ∷ cs) (shown ∷ seen) = if c.taken then (c.request, shown) ∷ taken_of cs seen else taken_of cs seen
taken_of _ _ = []
