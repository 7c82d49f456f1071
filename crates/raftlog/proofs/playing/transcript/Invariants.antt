use Rattle.std.proofs.Common.{◌≡◌, ◌++◌, drop, string_bytes}
use Rattle.std.specs.List.{flat_map}
use Rattle.raft_log_session.specs.Answers.{answer_line}
use Rattle.raftlog.proofs.playing.transcript.Given as goal

abbrev pub invariant-loop-answer : goal.invariant-loop-answer
invariant-loop-answer l = string_bytes l.text ++ flat_map answer_line (drop l.answer-index l.answers) ≡ flat_map answer_line l.answers
