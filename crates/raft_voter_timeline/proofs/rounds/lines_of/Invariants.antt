use Rattle.std.proofs.Common.{◌≡◌, ◌++◌}
use Rattle.std.specs.VecDeque.{deque_len}
use Rattle.raft_voter_timeline.specs.Marks.{all_marks, marks_of}
use Rattle.raft_voter_timeline.proofs.rounds.lines_of.Given as goal

abbrev pub invariant-loop-title : goal.invariant-loop-title
invariant-loop-title l =
    marks_of l.lines.items ++ all_marks (marks_of l.titles.items) l.rounds l.writes l.cuts ≡ all_marks (marks_of l.fn.titles.items) l.fn.rounds l.fn.writes l.fn.cuts

abbrev pub decreases-loop-title : goal.decreases-loop-title
decreases-loop-title l = deque_len l.titles
