-- Which requests of a round its replies show as taken, and the voters after them. A round is a group commit: requests
-- that are served in order, with one sync before the replies.
use Rattle.std.specs.Prelude.{◌≡◌, ◌⊎◌, ℕ, ◌≤◌, MatchBool, if◌then◌else◌, List, [], ◌∷◌, length, take, slice_get, Some}
use Rattle.raft_voter_messages.specs.declared.reply.Reply.{Reply}
use Rattle.raft_voter_messages.specs.declared.request.Request.{Request}
use Rattle.raft_voter_outline.specs.Rules.{reply}
use Rattle.raft_voter.specs.Rounds.{World, after, after_one}
use Rattle.raft_voter.specs.Service.{is_refused}

-- the requests with a reply so far, except those whose reply is `Refused`
abbrev pub took : List (ℕ × Request) → List Reply → List (ℕ × Request)
took [] told = []
took (q ∷ qs) [] = []
took (q ∷ qs) (a ∷ told) = if is_refused a then took qs told else q ∷ took qs told

-- each reply so far that isn't `Refused` is what the request's voter replies after the requests taken before this one
abbrev pub AreTold : World → List (ℕ × Request) → List Reply → Type 0
AreTold W qs [] = Unit {0}
AreTold W [] (a ∷ told) = ⊥
AreTold W (q ∷ qs) (a ∷ told) =
    MatchBool (is_refused a) (AreTold W qs told) ((a ≡ reply (W q.0) q.1) × AreTold (after_one W q) qs told)

-- `X` is the world after the requests taken below some position `cut`; each request below `cut` has a reply so far
abbrev pub IsPassed : World → List (ℕ × Request) → List Reply → World → Type 0
IsPassed V qs told X = (cut : ℕ) × (cut ≤ length told) × (X ≡ after V (took qs (take cut told)))

-- `X` is a world for which `IsPassed` holds. Or it is the world after all requests that were taken and the next one,
-- which has no reply yet.
abbrev pub IsPassedOrOneMore : World → List (ℕ × Request) → List Reply → World → Type 0
IsPassedOrOneMore V qs told X = IsPassed V qs told X
    ⊎ ((q : ℕ × Request) × (slice_get qs (length told) ≡ Some q) × (X ≡ after_one (after V (took qs told)) q))
