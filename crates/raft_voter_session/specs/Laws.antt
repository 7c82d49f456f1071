-- The law of sessions: what is written is read back.
use Rattle.std.specs.Prelude.{◌≡◌, ℕ, List, Option, Ok}
use Rattle.std.specs.Option.{option_map}
use Rattle.raft_voter_session.specs.Told.{Told}
use Rattle.raft_voter_session.specs.Session.{session_of}
use Rattle.raft_voter_session.specs.SessionText.{CanBeTold, lines_text, session_text}

-- If settings and events can be written as a session (`CanBeTold`), reading its text gives exactly these settings and
-- events.
abbrev pub SessionsAreReadBack : Type 0
SessionsAreReadBack = (settings : Option (List (List ℕ))) (events : List Told) → CanBeTold settings events
    → session_of (session_text settings events) ≡ Ok (record { settings = option_map lines_text settings; events = events })
