use Rattle.std.proofs.Common.{◌≡◌, ◌++◌, drop, map, string_bytes}
use Rattle.raft_log_world.specs.Reads.{pairs_of}
use Rattle.raft_log_session.specs.Answers.{after_commas, pair_text}
use Rattle.raft_log_session.proofs.answers.write_more_pairs.Given as goal

abbrev pub invariant-loop-pair : goal.invariant-loop-pair
invariant-loop-pair l =
    string_bytes l.text ++ after_commas (map pair_text (pairs_of (drop l.pair-index l.pairs))) ≡ string_bytes l.initial.text ++ after_commas (map pair_text (pairs_of l.pairs))
