use Rattle.std.proofs.Common.{◌≡◌, ◌+◌, ◌≤◌, length}
use Rattle.std.specs.List.{slice_split}
use Rattle.raft_voter_session.specs.Words.{is_line_feed}
use Rattle.raft_voter_session.specs.Session.{read_from, session_of}
use Rattle.raft_voter_session.proofs.session.read_session.Given as goal

abbrev pub invariant-loop-line : goal.invariant-loop-line
invariant-loop-line l =
    (read_from (slice_split is_line_feed l.left) l.number l.is_whole l.reading ≡ session_of l.input) × (l.number + length l.left ≤ length l.input + 1)

abbrev pub decreases-loop-line : goal.decreases-loop-line
decreases-loop-line l = length l.left
