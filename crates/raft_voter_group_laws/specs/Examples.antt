-- An example: three rounds for groups 1 and 2. A crash cut off the second round. Voters explain the rounds if the
-- second round's requests from position 2 on were lost. In the third round, one request was refused.
use Rattle.std.specs.Prelude.{ℕ, List, [], ◌∷◌, Option, Some}
use Rattle.raft_voter_messages.specs.declared.reply.Entry.{Entry}
use Rattle.raft_voter_messages.specs.declared.reply.Reply.{Reply}
use Rattle.raft_voter_messages.specs.declared.reply.Reply.TheVariants.{Denied, Entries, Granted, Matched, Refused}
use Rattle.raft_voter_messages.specs.declared.request.Request.{Request}
use Rattle.raft_voter_messages.specs.declared.request.Request.TheVariants.{Append, Read, Vote}
use Rattle.raft_voter_messages.specs.declared.round.Outcome.TheVariants.{Answered, Cut}
use Rattle.raft_voter_messages.specs.declared.round.Round.{Round}

-- an Append in term 1 of one entry of term 1, with this byte, right after index `prev`
abbrev pub append_one : ℕ → ℕ → ℕ → Request
append_one prev prev_term byte = Append 1 prev prev_term 0 ((1, byte ∷ []) ∷ [])

-- entry 1 is appended to group 1, and candidate 7 asks for the vote of group 2 in term 3; `replies` are the replies
abbrev pub first_life : List Reply → Round
first_life replies = record {
  requests = (1, append_one 0 0 65) ∷ (2, Vote 3 7 0 0) ∷ [];
  refused = [];
  outcome = Answered replies;
}

-- Entry 2 is appended to group 1. Candidate 8 asks for the vote of group 2 in term 4. Entry 3 is appended to group 1.
-- There are no replies.
abbrev pub crash : Round
crash = record {
  requests = (1, append_one 1 1 66) ∷ (2, Vote 4 8 0 0) ∷ (1, append_one 2 1 67) ∷ [];
  refused = [];
  outcome = Cut;
}

-- entries 1 and 2 of group 1
abbrev pub both_entries : List Entry
both_entries = record { index = 1; term = 1; bytes = 65 ∷ [] } ∷ record { index = 2; term = 1; bytes = 66 ∷ [] } ∷ []

-- Entries 1 and 2 of group 1 are read. Candidate 9 asks for the vote of group 2 in term 4, and is denied. The Append of
-- entry 3 to group 1 is refused.
abbrev pub second_life : Round
second_life = record {
  requests = (1, Read 1 3) ∷ (2, Vote 4 9 0 0) ∷ (1, append_one 2 1 67) ∷ [];
  refused = 2 ∷ [];
  outcome = Answered (Entries both_entries ∷ Denied 4 ∷ Refused ∷ []);
}

-- the three rounds, with these replies in the first
abbrev pub two_lives : List Reply → List Round
two_lives replies = first_life replies ∷ crash ∷ second_life ∷ []

-- replies in the first round; with these, voters that never fail explain all three rounds
abbrev pub right_replies : List Reply
right_replies = Matched 1 ∷ Granted 3 ∷ []

-- the same replies, except that group 2's vote is granted in term 2, though the request is of term 3
abbrev pub wrong_replies : List Reply
wrong_replies = Matched 1 ∷ Granted 2 ∷ []

-- the request that the voter of group 1 took in the first round, with its reply
abbrev pub matched_once : List (Request × Option Reply)
matched_once = (append_one 0 0 65, Some (Matched 1)) ∷ []

-- an Append in term 2 of one entry of term 2 for index 1
abbrev pub other_first : Request
other_first = Append 2 0 0 0 ((2, 90 ∷ []) ∷ [])
