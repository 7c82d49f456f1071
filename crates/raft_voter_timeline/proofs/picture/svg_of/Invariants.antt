use Rattle.std.proofs.Common.{◌≡◌, ◌++◌, drop, string_bytes}
use Rattle.raft_voter_timeline.specs.Picture.{lines_text}
use Rattle.raft_voter_timeline.proofs.picture.svg_of.Given as goal

abbrev pub invariant-loop-number : goal.invariant-loop-number
invariant-loop-number l = string_bytes l.text ++ lines_text l.number (drop l.number l.lines) ≡ string_bytes l.initial.text ++ lines_text 0 l.lines
