use Rattle.std.proofs.Common.{map, take}
use Rattle.std.specs.String.{string_bytes}
use Rattle.raft_log_open.specs.Unpadding.{ClearsAll}
use Rattle.raft_log_open.proofs.unpadding.clear_all.Given as goal

-- the directories so far were cleared
abbrev pub invariant-loop-directory : goal.invariant-loop-directory
invariant-loop-directory g l = ClearsAll (map string_bytes (take l.directory-index l.directories)) (g.F.FileSystem.disk l.fn.file_system) (g.F.FileSystem.disk l.file_system)
