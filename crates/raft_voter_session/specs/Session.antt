-- How the lines of a session are read, one after another. The settings come first, between `config` and `end`. A round
-- has its requests between `round` and `end`. Every other event is one line.
use Rattle.std.specs.Prelude.{ℕ, ◌+◌, nat_lt, nat_le, Bool, true, false, List, [], ◌∷◌, ◌++◌, length, take}
use Rattle.std.specs.Prelude.{codes, Option, Some, None, Result, Ok, Err, string_bytes, if◌then◌else◌}
use Rattle.std.specs.List.{slice_split}
use Rattle.std.specs.Str.{bytes_eq}
use Rattle.raft_voter_messages.specs.declared.request.Request.{Request}
use Rattle.raft_voter_world.specs.declared.event.Event.TheVariants.{Round as RoundEvent}
use Rattle.raft_voter_session.specs.declared.reading.Begun.{Begun}
use Rattle.raft_voter_session.specs.declared.reading.Begun.TheVariants.{Nothing, Settings, Round}
use Rattle.raft_voter_session.specs.Told.{SessionContent, Told, alone}
use Rattle.raft_voter_session.specs.Words.{◌>>=◌, is_line_feed, text_of}
use Rattle.raft_voter_session.specs.Events.{event_of}
use Rattle.raft_voter_session.specs.Requests.{request_of}

-- Lines.

-- what is open after some lines: nothing, the settings with their text so far, or a round with its requests so far
pub data Part : Type 0 where
  nothing : Part
  settings : List ℕ → Part
  round : List (ℕ × Request) → Part

-- what is open, from the value that the code has for it
abbrev pub open_part : Begun → Part
open_part Nothing = nothing
open_part (Settings text) = settings (string_bytes text)
open_part (Round requests) = round requests

-- what some lines encode, and what is open after them
pub record Progress : Type 0 where
  pub session : SessionContent
  pub begun : Part

-- the progress before the first line: no settings, no events, and nothing open
abbrev pub no_progress : Progress
no_progress = record { session = record { settings = None; events = [] }; begun = nothing }

-- the content `so_far` with one more event, and nothing open
abbrev pub adds_event : SessionContent → Told → Option Progress
adds_event so_far event = Some (record {
  session = record { settings = so_far.settings; events = so_far.events ++ event ∷ [] };
  begun = nothing;
})

-- the settings may begin here: there are no settings and no events before them
abbrev pub may_begin : Option (List ℕ) → List Told → Bool
may_begin None [] = true
may_begin before events = false

-- opens the settings after the content `so_far`, if it has no settings and no events
abbrev pub begins_settings : SessionContent → Option Progress
begins_settings so_far =
    if may_begin so_far.settings so_far.events then Some (record { session = so_far; begun = settings [] }) else None

-- the progress after one more line while nothing is open; `None` if the line is unreadable
abbrev pub after_outside : List ℕ → SessionContent → Option Progress
after_outside line so_far =
    if bytes_eq line (codes "config") then begins_settings so_far
    else if bytes_eq line (codes "round") then Some (record { session = so_far; begun = round [] })
    else event_of line >>= adds_event so_far

-- The progress after one more line while the settings are open, with their text so far. `end` closes them. Any other
-- line must be UTF-8, and is added.
abbrev pub after_setting : List ℕ → SessionContent → List ℕ → Option Progress
after_setting line so_far told =
    if bytes_eq line (codes "end")
    then Some (record { session = record { settings = Some told; events = so_far.events }; begun = nothing })
    else text_of line >>= (λ text. Some (record { session = so_far; begun = settings (told ++ text ++ codes "\n") }))

-- The progress after one more line while a round is open, with its requests so far. `end` closes it, and any other
-- line must encode a request.
abbrev pub after_asked : List ℕ → SessionContent → List (ℕ × Request) → Option Progress
after_asked line so_far asked =
    if bytes_eq line (codes "end") then adds_event so_far (alone (RoundEvent asked))
    else request_of line >>= (λ q. Some (record { session = so_far; begun = round (asked ++ q ∷ []) }))

-- the progress after one more line, by what is open
abbrev pub after_part : Part → List ℕ → SessionContent → Option Progress
after_part nothing line so_far = after_outside line so_far
after_part (settings told) line so_far = after_setting line so_far told
after_part (round asked) line so_far = after_asked line so_far asked

-- the progress after one more line; `None` if it is unreadable or has more than 4,194,304 bytes
abbrev pub after_line : List ℕ → Progress → Option Progress
after_line line so_far =
    if nat_lt 4194304 (length line) then None else after_part so_far.begun line so_far.session

-- Sessions.

-- The session after the last line. If the settings or a round are still open, the line after the last one is missing,
-- and the result is its number, `number`.
abbrev pub at_end : ℕ → SessionContent → Part → Result SessionContent ℕ
at_end number told nothing = Ok told
at_end number told part = Err number

-- The session, if the text was short enough (`whole`), no bytes follow its last line feed, and nothing is open.
-- Otherwise the result is `number`, the number of the line after the last line feed.
abbrev pub finish : ℕ → Bool → List ℕ → Progress → Result SessionContent ℕ
finish number whole [] so_far = if whole then at_end number so_far.session so_far.begun else Err number
finish number whole (b ∷ text) so_far = Err number

-- continues with this progress, or returns the number of the unreadable line
abbrev pub or_unreadable : ℕ → Option Progress → (Progress → Result SessionContent ℕ) → Result SessionContent ℕ
or_unreadable number None next = Err number
or_unreadable number (Some so_far) next = next so_far

-- no piece is left
abbrev pub is_last : List (List ℕ) → Bool
is_last [] = true
is_last (piece ∷ pieces) = false

-- The session, or the number of the first unreadable line. `so_far` is what the earlier lines encode. The first of the
-- pieces is line `number`, and the last one is the text after the last line feed. `whole` says whether the text was
-- short enough.
abbrev pub read_from : List (List ℕ) → ℕ → Bool → Progress → Result SessionContent ℕ
read_from [] number whole so_far = Err number
read_from (piece ∷ pieces) number whole so_far =
    if is_last pieces then finish number whole piece so_far
    else or_unreadable number (after_line piece so_far) (read_from pieces (number + 1) whole)

-- The session that a text encodes, or the number of its first unreadable line, counted from 1. If the text has more
-- than 268,435,456 bytes, the line with the first byte past this limit is unreadable.
unfoldable pub session_of : List ℕ → Result SessionContent ℕ
session_of input =
    read_from (slice_split is_line_feed (take 268435456 input)) 1 (nat_le (length input) 268435456)
    no_progress
