use Rattle.raft_log_file_uses.specs.GoodEnd.{HasReadSoFar}
use Rattle.raft_log_file_reader.specs.Reader.{left_of}
use Rattle.raft_log_file_uses.proofs.whole_end.whole_end.Given as goal

abbrev pub invariant-loop-batch : goal.invariant-loop-batch
invariant-loop-batch g l = HasReadSoFar l.fn.id l.fn.handle (g.F.FileSystem.disk l.file_system) l.reader

abbrev pub decreases-loop-batch : goal.decreases-loop-batch
decreases-loop-batch g l = left_of l.reader
