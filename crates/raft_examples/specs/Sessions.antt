-- What the example that parses a session returns.
use Rattle.std.specs.Prelude.{◌≡◌, ℕ, List, length, Ok}
use Rattle.raft_voter_session.specs.Told.{SessionContent}
use Rattle.raft_voter_session.specs.Session.{session_of}

-- the bytes `session` are a session with `count` events
abbrev pub HasEvents : List ℕ → ℕ → Type 0
HasEvents session count = (told : SessionContent) × (session_of session ≡ Ok told) × (count ≡ length told.events)
