use Rattle.std.proofs.Common.{◌≡◌, ◌++◌, drop, string_bytes}
use Rattle.raft_voter_session.specs.Text.{places_text}
use Rattle.raft_voter_session.proofs.text.write_replies.Given as goal

abbrev pub invariant-loop-place : goal.invariant-loop-place
invariant-loop-place l =
    string_bytes l.text ++ places_text l.place (drop l.place l.requests) (drop l.place l.replies) ≡ string_bytes l.initial.text ++ places_text 0 l.requests l.replies
