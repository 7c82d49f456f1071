-- How a line of a session encodes a request to a group's voter. Letters: `G` is the group, `T` a term, `I` an index,
-- `U` an entry's term. The functions `vote_at` to `append_at` read the text after the line's first word. They return
-- `None` if they can't read it.
use Rattle.std.specs.Prelude.{ℕ, nat_lt, Bool, false, not, List, [], ◌∷◌, length, drop, codes, Option, Some, None, if◌then◌else◌}
use Rattle.std.specs.List.{before_first, after_first, list_any, position_or_len}
use Rattle.std.specs.Option.{option_map_or}
use Rattle.std.specs.Str.{bytes_eq}
use Rattle.raft_voter_messages.specs.declared.request.Request.{Request}
use Rattle.raft_voter_messages.specs.declared.request.Request.TheVariants.{Vote, Append, Compact, Install, Read, Status, Retire}
use Rattle.raft_voter_session.specs.Words.{◌>>=◌, ends, is_colon, is_space, number_of, number_at, data_of, word_at, words_of}

-- `vote G T C I U`: candidate `C` asks for a vote; its log ends at index `I` with term `U`
unfoldable pub vote_at : List ℕ → Option (ℕ × Request)
vote_at text = do
  group ← number_at text
  term ← number_at group.1
  candidate ← number_at term.1
  index ← number_at candidate.1
  last_term ← number_at index.1
  ends last_term.1 (group.0, Vote term.0 candidate.0 index.0 last_term.0)

-- `compact G I`: a compaction up to index `I`
unfoldable pub compact_at : List ℕ → Option (ℕ × Request)
compact_at text = do
  group ← number_at text
  index ← number_at group.1
  ends index.1 (group.0, Compact index.0)

-- `install G T I U`: a snapshot whose last entry has index `I` and term `U`
unfoldable pub install_at : List ℕ → Option (ℕ × Request)
install_at text = do
  group ← number_at text
  term ← number_at group.1
  index ← number_at term.1
  entry_term ← number_at index.1
  ends entry_term.1 (group.0, Install term.0 index.0 entry_term.0)

-- `read G A B`: the entries from index `A` to below `B`
unfoldable pub read_at : List ℕ → Option (ℕ × Request)
read_at text = do
  group ← number_at text
  from ← number_at group.1
  to ← number_at from.1
  ends to.1 (group.0, Read from.0 to.0)

-- `status G`: the voter's state
unfoldable pub status_at : List ℕ → Option (ℕ × Request)
status_at text = do
  group ← number_at text
  ends group.1 (group.0, Status)

-- `retire G`: the group's voter becomes a fresh one
unfoldable pub retire_at : List ℕ → Option (ℕ × Request)
retire_at text = do
  group ← number_at text
  ends group.1 (group.0, Retire)

-- the entry that a word `term:hex` encodes
unfoldable pub entry_of : List ℕ → Option (ℕ × List ℕ)
entry_of word = if nat_lt (position_or_len is_colon word) (length word) then (do
  term ← number_of (before_first is_colon word)
  bytes ← data_of (after_first is_colon word)
  Some (term, bytes)) else None

-- the entries that these words encode, one each
abbrev pub entries_of : List (List ℕ) → Option (List (ℕ × List ℕ))
entries_of [] = Some []
entries_of (word ∷ words) = do
  entry ← entry_of word
  entries ← entries_of words
  Some (entry ∷ entries)

-- the entries that the words of this text encode, one each
unfoldable pub entries_at : List ℕ → Option (List (ℕ × List ℕ))
entries_at text = do
  words ← words_of text
  entries_of words

-- the text has a next word, and that word has no colon, so it isn't an entry
abbrev pub has_plain_word : List ℕ → Bool
has_plain_word text = option_map_or (λ word. not (list_any is_colon word.0)) (word_at text) false

-- The commit of an Append, and the text after it. The next word is the commit if it has no colon. Otherwise the commit
-- was omitted, and is 0.
unfoldable pub commit_at : List ℕ → Option (ℕ × List ℕ)
commit_at text = if has_plain_word text then number_at text else Some (0, text)

-- `append G T P U C E..`: the entries `E..` after index `P` with term `U`, and the commit `C`, which may be omitted
unfoldable pub append_at : List ℕ → Option (ℕ × Request)
append_at text = do
  group ← number_at text
  term ← number_at group.1
  prev_index ← number_at term.1
  prev_term ← number_at prev_index.1
  commit ← commit_at prev_term.1
  entries ← entries_at commit.1
  Some (group.0, Append term.0 prev_index.0 prev_term.0 commit.0 entries)

-- the request, with its group, of a line whose first word is `word`, followed by `text`
unfoldable pub request_at : List ℕ → List ℕ → Option (ℕ × Request)
request_at word text =
    if bytes_eq word (codes "append") then append_at text
    else if bytes_eq word (codes "vote") then vote_at text
    else if bytes_eq word (codes "compact") then compact_at text
    else if bytes_eq word (codes "install") then install_at text
    else if bytes_eq word (codes "read") then read_at text
    else if bytes_eq word (codes "status") then status_at text
    else if bytes_eq word (codes "retire") then retire_at text
    else None

-- the request, with its group, that this line encodes
abbrev pub request_of : List ℕ → Option (ℕ × Request)
request_of line = request_at (before_first is_space line) (drop (length (before_first is_space line)) line)
