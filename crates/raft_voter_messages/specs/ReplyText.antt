-- The text of a reply: its name, then its values, with a space before each of them.
use Rattle.std.specs.Prelude.{ℕ, List, ◌++◌, codes, Option, Some, None}
use Rattle.std.specs.Fmt.{decimal}
use Rattle.std.specs.List.{flat_map}
use Rattle.hex.specs.Hex.{encode_lower}
use Rattle.raft_voter_messages.specs.declared.reply.Entry.{Entry}
use Rattle.raft_voter_messages.specs.declared.reply.Reply.{Reply}
use Rattle.raft_voter_messages.specs.declared.reply.Reply.TheVariants.{Granted, Denied, Matched, Mismatch, Stale, Base, Entries, Gone, Unknown, Status, Retired, Refused}
use Rattle.raft_voter_messages.specs.declared.reply.VoterState.{VoterState}

-- the candidate in decimal, or `-` if there is no vote
abbrev pub vote_word : Option ℕ → List ℕ
vote_word None = codes "-"
vote_word (Some candidate) = decimal candidate

-- A voter's state, in decimal and separated by spaces: its term, its vote, the index and term of its base, the index
-- and term of its last entry, and its commit.
unfoldable pub state_words : VoterState → List ℕ
state_words s =
    decimal s.term ++ codes " " ++ vote_word s.vote
    ++ codes " " ++ decimal s.base_index ++ codes " " ++ decimal s.base_term
    ++ codes " " ++ decimal s.last_index ++ codes " " ++ decimal s.last_term
    ++ codes " " ++ decimal s.commit

-- the text of an entry: `index:term:hex`, where `hex` encodes its bytes in lower case
unfoldable pub entry_word : Entry → List ℕ
entry_word entry =
    decimal entry.index ++ codes ":" ++ decimal entry.term ++ codes ":" ++ encode_lower entry.bytes

-- a space, then an entry as `index:term:hex`
abbrev pub spaced_entry : Entry → List ℕ
spaced_entry entry = codes " " ++ entry_word entry

-- the text of a reply: its name, then its values
abbrev pub reply_text : Reply → List ℕ
reply_text (Granted term) = codes "Granted " ++ decimal term
reply_text (Denied term) = codes "Denied " ++ decimal term
reply_text (Matched index) = codes "Matched " ++ decimal index
reply_text (Mismatch index) = codes "Mismatch " ++ decimal index
reply_text (Stale term) = codes "Stale " ++ decimal term
reply_text (Base index) = codes "Base " ++ decimal index
reply_text (Entries entries) = codes "Entries" ++ flat_map spaced_entry entries
reply_text (Gone index) = codes "Gone " ++ decimal index
reply_text (Unknown index) = codes "Unknown " ++ decimal index
reply_text (Status state) = codes "Status " ++ state_words state
reply_text Retired = codes "Retired"
reply_text Refused = codes "Refused"
