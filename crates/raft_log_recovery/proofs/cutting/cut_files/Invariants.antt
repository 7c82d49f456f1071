use Rattle.std.proofs.Common.{take}
use Rattle.raft_log_recovery.specs.Cutting.{CutsEach}
use Rattle.raft_log_recovery.proofs.cutting.cut_files.Given as goal

-- the files so far are cut
abbrev pub invariant-loop-index : goal.invariant-loop-index
invariant-loop-index g l = CutsEach (take l.index l.files) (take l.index l.endings) (g.F.FileSystem.disk l.fn.file_system) (g.F.FileSystem.disk l.file_system)
