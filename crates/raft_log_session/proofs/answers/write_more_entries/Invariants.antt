use Rattle.std.proofs.Common.{◌≡◌, ◌++◌, drop, map, string_bytes}
use Rattle.raft_log_world.specs.Reads.{all_bytes}
use Rattle.raft_log_session.specs.Answers.{after_commas, bytes_text}
use Rattle.raft_log_session.proofs.answers.write_more_entries.Given as goal

abbrev pub invariant-loop-entry : goal.invariant-loop-entry
invariant-loop-entry l =
    string_bytes l.text ++ after_commas (map bytes_text (all_bytes (drop l.entry-index l.entries))) ≡ string_bytes l.initial.text ++ after_commas (map bytes_text (all_bytes l.entries))
