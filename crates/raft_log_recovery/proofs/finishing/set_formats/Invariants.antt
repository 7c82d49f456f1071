use Rattle.std.proofs.Common.{◌≡◌}
use Rattle.raft_log_recovery.proofs.Formats.{so_far}
use Rattle.raft_log_recovery.proofs.finishing.set_formats.Given as goal

-- the files so far have their formats
abbrev pub invariant-loop-index : goal.invariant-loop-index
invariant-loop-index l = l.files ≡ so_far l.index l.endings l.fn.files
