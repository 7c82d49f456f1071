-- The text that encodes a session: the lines of its settings, then those of its events. Numbers have no leading zeros,
-- and the line of each Append request states its commit index.
use Rattle.std.specs.Prelude.{ℕ, ◌^◌, ◌≤◌, ◌&&◌, nat_lt, nat_le, Bool, true, false, not, IsTrue}
use Rattle.std.specs.Prelude.{List, [], ◌∷◌, ◌++◌, length, map, codes, Option, Some, None}
use Rattle.std.specs.List.{flat_map, list_all}
use Rattle.std.specs.Str.{bytes_eq, is_utf8}
use Rattle.hex.specs.Hex.{encode_lower}
use Rattle.raft_voter_messages.specs.declared.request.Request.{Request}
use Rattle.raft_voter_messages.specs.declared.request.Request.TheVariants.{Vote, Append, Compact, Install, Read, Status, Retire}
use Rattle.raft_voter_world.specs.declared.event.Event.{Event}
use Rattle.raft_voter_world.specs.declared.event.Event.TheVariants.{Close, Crash, CrashAt, Fork, Open, Refuse, Round}
use Rattle.raft_voter_world.specs.declared.event.Event.TheVariants.{Maintain, RewriteAppend, RewriteRewrite}
use Rattle.raft_voter_world.specs.declared.event.Left.{Left}
use Rattle.raft_voter_world.specs.declared.event.Left.TheVariants.{All, First, Last}
use Rattle.raft_voter_session.specs.Told.{Told, alone, copy}
use Rattle.raft_voter_session.specs.Words.{is_line_feed, is_space}
use Rattle.raft_voter_session.specs.Text.{spaced, spaced_all}

-- Lines.

-- the first word of a request's line: its kind
abbrev pub request_word : Request → List ℕ
request_word (Vote term candidate index last) = codes "vote"
request_word (Append term prev prev_term commit sent) = codes "append"
request_word (Compact index) = codes "compact"
request_word (Install term index entry_term) = codes "install"
request_word (Read from to) = codes "read"
request_word Status = codes "status"
request_word Retire = codes "retire"

-- the numbers after the first word of a request's line; the group is the first of them
abbrev pub request_numbers : ℕ → Request → List ℕ
request_numbers group (Vote term candidate index last) = group ∷ term ∷ candidate ∷ index ∷ last ∷ []
request_numbers group (Append term prev prev_term commit sent) = group ∷ term ∷ prev ∷ prev_term ∷ commit ∷ []
request_numbers group (Compact index) = group ∷ index ∷ []
request_numbers group (Install term index entry_term) = group ∷ term ∷ index ∷ entry_term ∷ []
request_numbers group (Read from to) = group ∷ from ∷ to ∷ []
request_numbers group Status = group ∷ []
request_numbers group Retire = group ∷ []

-- the entries at the end of a request's line; only an Append has any
abbrev pub request_entries : Request → List (ℕ × List ℕ)
request_entries (Append term prev prev_term commit sent) = sent
request_entries other = []

-- the text of an entry: a space, then `term:hex`
abbrev pub sent_text : ℕ × List ℕ → List ℕ
sent_text e = spaced e.0 ++ codes ":" ++ encode_lower e.1

-- the line of a request, which comes with its group
abbrev pub request_line : ℕ × Request → List ℕ
request_line q =
    request_word q.1 ++ spaced_all (request_numbers q.0 q.1) ++ flat_map sent_text (request_entries q.1)

-- a space, and then the text of what a crash leaves
abbrev pub left_text : Left → List ℕ
left_text Last = codes " last"
left_text All = codes " all"
left_text (First pieces bytes) = codes " first" ++ spaced_all (pieces ∷ bytes ∷ [])

-- the lines of an event that isn't a copy of the files (`Fork`); `event_lines` has those of a copy too
abbrev pub alone_lines : Event → List (List ℕ)
alone_lines (Open workers) = (codes "open" ++ spaced_all (workers ∷ [])) ∷ []
alone_lines Close = codes "close" ∷ []
alone_lines Maintain = codes "purge" ∷ []
alone_lines RewriteAppend = codes "rewrite-append" ∷ []
alone_lines RewriteRewrite = codes "rewrite-rewrite" ∷ []
alone_lines (Crash left) = (codes "crash" ++ left_text left) ∷ []
alone_lines (CrashAt calls left) = (codes "crash-at" ++ (spaced_all (calls ∷ []) ++ left_text left)) ∷ []
alone_lines (Refuse calls) = (codes "refuse" ++ spaced_all (calls ∷ [])) ∷ []
alone_lines (Round requests) = codes "round" ∷ map request_line requests ++ codes "end" ∷ []
alone_lines (Fork target) = []

-- the lines of an event, also of a copy
abbrev pub event_lines : Told → List (List ℕ)
event_lines (alone event) = alone_lines event
event_lines (copy name) = (codes "fork " ++ name) ∷ []

-- the line `config`, the lines of the settings, and the line `end`; no lines if there are no settings
abbrev pub settings_lines : Option (List (List ℕ)) → List (List ℕ)
settings_lines None = []
settings_lines (Some lines) = codes "config" ∷ lines ++ codes "end" ∷ []

-- the lines of a session with these settings, given as lines, and these events
abbrev pub session_lines : Option (List (List ℕ)) → List Told → List (List ℕ)
session_lines settings events = settings_lines settings ++ flat_map event_lines events

-- the text of these lines; a line feed ends each
abbrev pub lines_text : List (List ℕ) → List ℕ
lines_text lines = flat_map (λ line. line ++ codes "\n") lines

-- the text of a session with these settings, given as lines, and these events
abbrev pub session_text : Option (List (List ℕ)) → List Told → List ℕ
session_text settings events = lines_text (session_lines settings events)

-- Which sessions can be written.

-- the number is below 2^64
abbrev pub is_number : ℕ → Bool
is_number n = nat_lt n (2 ^ 64)

-- the entry's term is below 2^64, and each of its bytes is below 256
abbrev pub is_sent : ℕ × List ℕ → Bool
is_sent e = is_number e.0 && list_all (λ b. nat_lt b 256) e.1

-- each number of the request is below 2^64, and each entry that it brings can be written
abbrev pub is_asked : ℕ × Request → Bool
is_asked q = list_all is_number (request_numbers q.0 q.1) && list_all is_sent (request_entries q.1)

-- the number is at least 1 and below 2^64
abbrev pub is_count : ℕ → Bool
is_count n = nat_lt 0 n && is_number n

-- the numbers in what a crash leaves are below 2^64
abbrev pub is_left : Left → Bool
is_left (First pieces bytes) = is_number pieces && is_number bytes
is_left left = true

-- the byte is neither a space nor a line feed
abbrev pub is_within_word : ℕ → Bool
is_within_word b = not (is_space b) && not (is_line_feed b)

-- the name of a directory is UTF-8 without spaces and line feeds, and isn't empty
abbrev pub is_name : List ℕ → Bool
is_name name = nat_lt 0 (length name) && is_utf8 name && list_all is_within_word name

-- lines can encode this event, which isn't a copy: its requests and its numbers can be written
abbrev pub is_told_alone : Event → Bool
is_told_alone (Open workers) = is_count workers
is_told_alone (Crash left) = is_left left
is_told_alone (CrashAt calls left) = is_count calls && is_left left
is_told_alone (Refuse calls) = is_count calls
is_told_alone (Round requests) = list_all is_asked requests
is_told_alone (Fork target) = false
is_told_alone other = true

-- lines can encode this event
abbrev pub is_told : Told → Bool
is_told (alone event) = is_told_alone event
is_told (copy name) = is_name name

-- the line can be one of the settings: it is UTF-8 without a line feed, and isn't `end`
abbrev pub is_setting : List ℕ → Bool
is_setting line = not (bytes_eq line (codes "end")) && is_utf8 line && list_all (λ b. not (is_line_feed b)) line

-- each of these lines can be one of the settings; without settings there is nothing to check
abbrev pub are_settings : Option (List (List ℕ)) → Bool
are_settings None = true
are_settings (Some lines) = list_all is_setting lines

-- These settings and events can be written. Each of their lines has at most 4,194,304 bytes, and all have at most
-- 268,435,456 together.
pub record CanBeTold (settings : Option (List (List ℕ))) (events : List Told) : Type 0 where
  pub settings_fit : IsTrue (are_settings settings)
  pub events_fit : IsTrue (list_all is_told events)
  pub lines_fit : IsTrue (list_all (λ line. nat_le (length line) 4194304) (session_lines settings events))
  pub text_fits : length (session_text settings events) ≤ 268435456
