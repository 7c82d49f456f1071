use Rattle.std.proofs.Common.{take}
use Rattle.raft_log_open.specs.Unpadding.{UnpadsAll}
use Rattle.raft_log_open.proofs.unpadding.unpad_files.Given as goal

-- the files so far were done
abbrev pub invariant-loop-file : goal.invariant-loop-file
invariant-loop-file g l = UnpadsAll (take l.file-index l.files) l.written.items (g.F.FileSystem.disk l.fn.file_system) (g.F.FileSystem.disk l.file_system)
