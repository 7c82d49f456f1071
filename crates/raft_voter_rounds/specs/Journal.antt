-- The journal of a shared store: a record for each round, with its requests, its refused positions and its outcome. A
-- journal is legal if its replies are those of voters that take the rounds with replies, in this order. Refused
-- positions must also rise and be within their round.
use Rattle.std.specs.Prelude.{◌≡◌, Bool, true, List, [], ◌∷◌, length, map, Option, None, Some}
use Rattle.raft_voter_messages.specs.declared.reply.Reply.{Reply}
use Rattle.raft_voter_messages.specs.declared.round.Outcome.{Outcome}
use Rattle.raft_voter_messages.specs.declared.round.Outcome.TheVariants.{Answered, Cut}
use Rattle.raft_voter_messages.specs.declared.round.Round.{Round}
use Rattle.raft_voter.specs.Rounds.{World, after, are_rising, replies_of, taken_below}

-- the replies of this outcome; `None` if the round was cut off
abbrev pub replies_in : Outcome → Option (List Reply)
replies_in (Answered replies) = Some replies
replies_in Cut = None

-- what a record claims: whether its refused positions rise and are within the round, and its replies if it has any
abbrev pub said : Round → Bool × Option (List Reply)
said r = (are_rising 0 (length r.requests) r.refused, replies_in r.outcome)

-- What a record of round `r` must claim in world `W`: refused positions that rise and are within the round. If it has
-- replies, it must also claim those that the voters give.
abbrev pub owed_by : Outcome → World → Round → Bool × Option (List Reply)
owed_by (Answered replies) W r = (true, Some (replies_of W r))
owed_by Cut W r = (true, None)

-- The world after a record of round `r`. If the record has replies, the voters took its requests, except those at
-- refused positions. If the round was cut off, the world is unchanged.
abbrev pub behind_outcome : Outcome → World → Round → World
behind_outcome (Answered replies) W r = after W (taken_below r (length r.requests))
behind_outcome Cut W r = W

-- the world after these records, in order, starting in world `W`
abbrev pub reached : World → List Round → World
reached W [] = W
reached W (r ∷ rounds) = reached (behind_outcome r.outcome W r) rounds

-- what each of these records must claim, starting in world `W`
abbrev pub owed : World → List Round → List (Bool × Option (List Reply))
owed W [] = []
owed W (r ∷ rounds) = owed_by r.outcome W r ∷ owed (behind_outcome r.outcome W r) rounds

-- The journal is legal, starting in world `W`: each record claims what it must.
abbrev pub IsLegal : World → List Round → Type 0
IsLegal W rounds = map said rounds ≡ owed W rounds
