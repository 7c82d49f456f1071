use Rattle.raft_log_recovery.specs.Filling.{WritesPieces}
use Rattle.raft_log_recovery.proofs.filling.fill.Given as goal

-- the pieces so far are written
abbrev pub invariant-loop-piece : goal.invariant-loop-piece
invariant-loop-piece g l = WritesPieces l.handle l.bytes l.piece (g.F.FileSystem.disk l.fn.file_system) (g.F.FileSystem.disk l.file_system)
