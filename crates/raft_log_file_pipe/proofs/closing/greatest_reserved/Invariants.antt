use Rattle.std.proofs.Common.{◌≡◌, map}
use Rattle.raft_log_file_pipe.specs.Closing.{greatest_reserved}
use Rattle.raft_log_file_pipe.proofs.closing.greatest_reserved.Given as goal

abbrev pub invariant-loop-file : goal.invariant-loop-file
invariant-loop-file l = l.greatest ≡ greatest_reserved (map (λ lent. lent.now) l.yielded)
