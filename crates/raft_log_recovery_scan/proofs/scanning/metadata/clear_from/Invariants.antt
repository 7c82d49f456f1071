use Rattle.std.proofs.Common.{◌≤◌}
use Rattle.raft_log_recovery_scan.specs.Metadata.{ChangesNoFile}
use Rattle.raft_log_recovery_scan.proofs.scanning.metadata.clear_from.Given as goal

-- no file changed so far
abbrev pub invariant-loop-seq : goal.invariant-loop-seq
invariant-loop-seq g l = record {
  files : ChangesNoFile (g.F.FileSystem.disk l.fn.file_system) (g.F.FileSystem.disk l.file_system);
  below : l.seq ≤ l.fn.first;
}

abbrev pub decreases-loop-seq : goal.decreases-loop-seq
decreases-loop-seq g l = l.seq
