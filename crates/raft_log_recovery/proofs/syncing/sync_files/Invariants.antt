use Rattle.std.proofs.Common.{take}
use Rattle.raft_log_recovery.specs.Syncing.{SyncsEach}
use Rattle.raft_log_recovery.proofs.syncing.sync_files.Given as goal

-- the files so far are synced
abbrev pub invariant-loop-file : goal.invariant-loop-file
invariant-loop-file g l = SyncsEach (take l.file-index l.files) (g.F.FileSystem.disk l.fn.file_system) (g.F.FileSystem.disk l.file_system)
