use Rattle.std.proofs.Common.{◌≡◌, ◌++◌, drop, string_bytes}
use Rattle.raft_voter_session.specs.Text.{spaced_all}
use Rattle.raft_voter_session.proofs.text.write_places.Given as goal

abbrev pub invariant-loop-place : goal.invariant-loop-place
invariant-loop-place l = string_bytes l.text ++ spaced_all (drop l.place-index l.places) ≡ string_bytes l.initial.text ++ spaced_all l.places
