-- An example: a short round with a vote for group 1, a request out of range for group 1, and a vote for group 2.
use Rattle.std.specs.Prelude.{◌^◌, ℕ, List, [], ◌∷◌}
use Rattle.raft_voter_messages.specs.declared.reply.Reply.{Reply}
use Rattle.raft_voter_messages.specs.declared.reply.Reply.TheVariants.{Granted, Refused}
use Rattle.raft_voter_messages.specs.declared.request.Request.{Request}
use Rattle.raft_voter_messages.specs.declared.request.Request.TheVariants.{Vote}

-- the requests of the round, each with its group
abbrev pub mixed_round : List (ℕ × Request)
mixed_round = (1, Vote 5 2 0 0) ∷ (1, Vote (2 ^ 63) 3 0 0) ∷ (2, Vote 1 1 0 0) ∷ []

-- the replies to the requests of `mixed_round`
abbrev pub mixed_replies : List Reply
mixed_replies = Granted 5 ∷ Refused ∷ Granted 1 ∷ []
