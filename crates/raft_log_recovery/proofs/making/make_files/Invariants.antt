use Rattle.raft_log_recovery.proofs.Made.{HasMade}
use Rattle.raft_log_recovery.proofs.making.make_files.Given as goal

-- so many are made so far
abbrev pub invariant-loop-at : goal.invariant-loop-at
invariant-loop-at g l =
    HasMade g.F.FileSystem.disk g.F.FileSystem.tells_space (g.G.PipeFormat.file_paths l.layout) l.bytes l.size l.first l.at l.fn.files.items l.files.items l.full l.fn.file_system l.file_system
