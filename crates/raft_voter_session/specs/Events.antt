-- How a line of a session encodes an event. Each definition returns `None` for a line, or the rest of one, that it
-- can't read.
use Rattle.std.specs.Prelude.{ℕ, nat_lt, List, length, drop, codes, Option, Some, None, if◌then◌else◌}
use Rattle.std.specs.List.{before_first}
use Rattle.std.specs.Str.{bytes_eq}
use Rattle.raft_voter_world.specs.declared.event.Event.TheVariants.{Close, Crash, CrashAt, Maintain, Open, Refuse, RewriteAppend, RewriteRewrite}
use Rattle.raft_voter_world.specs.declared.event.Left.{Left}
use Rattle.raft_voter_world.specs.declared.event.Left.TheVariants.{All, First, Last}
use Rattle.raft_voter_session.specs.Told.{Told, alone, copy}
use Rattle.raft_voter_session.specs.Words.{◌>>=◌, count_at, ends, is_space, number_at, text_of, word_at}

-- `open W`: an open by `W` workers, at least one; this reads the text after `open`
unfoldable pub open_at : List ℕ → Option Told
open_at text = do
  workers ← count_at text
  ends workers.1 (alone (Open workers.0))

-- `first P B`: a crash leaves the first `P` unsynced pieces, and `B` bytes of the next one
abbrev pub first_at : List ℕ → Option Left
first_at text = do
  word ← word_at text
  if bytes_eq word.0 (codes "first") then (do
    pieces ← number_at word.1
    bytes ← number_at pieces.1
    ends bytes.1 (First pieces.0 bytes.0)) else None

-- what a crash leaves of the unsynced changes: nothing (`last`), everything (`all`), or `first P B`
unfoldable pub left_at : List ℕ → Option Left
left_at text =
    if bytes_eq text (codes " last") then Some Last
    else if bytes_eq text (codes " all") then Some All
    else first_at text

-- `crash R`: a crash that leaves `R`
unfoldable pub crash_at : List ℕ → Option Told
crash_at text = do
  left ← left_at text
  Some (alone (Crash left))

-- `crash-at N R`: a crash at the `N`-th call from now that changes files; it leaves `R`
unfoldable pub stop_at : List ℕ → Option Told
stop_at text = do
  calls ← count_at text
  left ← left_at calls.1
  Some (alone (CrashAt calls.0 left))

-- `refuse N`: the `N`-th call from now that changes files fails
unfoldable pub refuse_at : List ℕ → Option Told
refuse_at text = do
  calls ← count_at text
  ends calls.1 (alone (Refuse calls.0))

-- `fork NAME`: a copy of the files into the directory `NAME`, one word of UTF-8 that isn't empty
unfoldable pub fork_at : List ℕ → Option Told
fork_at text = do
  word ← word_at text
  if nat_lt 0 (length word.0) then (do
    name ← text_of word.0
    ends word.1 (copy name)) else None

-- the event of a line whose first word is `word`, followed by `text`; `event_of` has the events of a single word
unfoldable pub event_at : List ℕ → List ℕ → Option Told
event_at word text =
    if bytes_eq word (codes "open") then open_at text
    else if bytes_eq word (codes "crash") then crash_at text
    else if bytes_eq word (codes "crash-at") then stop_at text
    else if bytes_eq word (codes "refuse") then refuse_at text
    else if bytes_eq word (codes "fork") then fork_at text
    else None

-- the event that this line encodes
unfoldable pub event_of : List ℕ → Option Told
event_of line =
    if bytes_eq line (codes "close") then Some (alone Close)
    else if bytes_eq line (codes "purge") then Some (alone Maintain)
    else if bytes_eq line (codes "rewrite-append") then Some (alone RewriteAppend)
    else if bytes_eq line (codes "rewrite-rewrite") then Some (alone RewriteRewrite)
    else event_at (before_first is_space line) (drop (length (before_first is_space line)) line)
