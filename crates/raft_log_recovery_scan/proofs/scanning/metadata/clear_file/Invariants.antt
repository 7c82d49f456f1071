use Rattle.raft_log_recovery_scan.specs.Metadata.{ChangesNoFile}
use Rattle.raft_log_recovery_scan.proofs.scanning.metadata.clear_file.Given as goal

-- no file changed so far
abbrev pub invariant-loop-path_id : goal.invariant-loop-path_id
invariant-loop-path_id g l = ChangesNoFile (g.F.FileSystem.disk l.fn.file_system) (g.F.FileSystem.disk l.file_system)
