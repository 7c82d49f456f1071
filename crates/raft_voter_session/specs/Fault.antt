-- Which errors the reading of a session may return.
use Rattle.std.specs.Prelude.{◌≡◌, ℕ, Result, Err}
use Rattle.raft_voter_session.specs.declared.session.SessionFault.{SessionFault}
use Rattle.raft_voter_session.specs.declared.session.SessionFault.TheVariants.{Unreadable, Memory}
use Rattle.raft_voter_session.specs.Told.{SessionContent}

-- Which errors may be returned. `known` is what the text encodes: a session, or the number of its first unreadable
-- line. `Unreadable` may be returned only with the number in `known`, and `Memory` always.
abbrev pub TellsLineFault : Result SessionContent ℕ → SessionFault → Type 0
TellsLineFault known (Unreadable number) = known ≡ Err number
TellsLineFault known Memory = Unit {0}
