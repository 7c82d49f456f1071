-- An example: a short round with a vote, a request out of range, and a vote of another group.
use Rattle.std.specs.Prelude.{◌^◌, ℕ, List, [], ◌∷◌}
use Rattle.raft_voter_messages.specs.declared.reply.Reply.{Reply}
use Rattle.raft_voter_messages.specs.declared.reply.Reply.TheVariants.{Granted, Refused}
use Rattle.raft_voter_messages.specs.declared.request.Request.{Request}
use Rattle.raft_voter_messages.specs.declared.request.Request.TheVariants.{Vote}

-- the requests of the round, each with its group
abbrev pub three_votes : List (ℕ × Request)
three_votes = (1, Vote 5 2 0 0) ∷ (1, Vote (2 ^ 63) 3 0 0) ∷ (2, Vote 1 1 0 0) ∷ []

-- the replies of the round
abbrev pub three_replies : List Reply
three_replies = Granted 5 ∷ Refused ∷ Granted 1 ∷ []

-- the requests of the round that are taken: all but the one out of range
abbrev pub two_votes : List (ℕ × Request)
two_votes = (1, Vote 5 2 0 0) ∷ (2, Vote 1 1 0 0) ∷ []
