use Rattle.raft_log_recovery.proofs.Dropped.{HasDropped}
use Rattle.raft_log_recovery.proofs.dropping.drop_newest.Given as goal

-- the files from this place on are deleted
abbrev pub invariant-loop-at : goal.invariant-loop-at
invariant-loop-at g l = HasDropped (g.G.PipeFormat.file_paths l.layout) l.files l.at l.left (g.F.FileSystem.disk l.fn.file_system) (g.F.FileSystem.disk l.file_system)

abbrev pub decreases-loop-at : goal.decreases-loop-at
decreases-loop-at g l = l.at
