use Rattle.raft_log_file_uses.specs.GoodEnd.{HasReadSoFar}
use Rattle.raft_log_file_reader.specs.Reader.{left_of}
use Rattle.raft_log_file_uses.proofs.good_end.good_end.Given as goal

abbrev pub invariant-loop-reader : goal.invariant-loop-reader
invariant-loop-reader g l = HasReadSoFar l.fn.id l.fn.handle (g.F.FileSystem.disk l.file_system) l.reader

abbrev pub decreases-loop-reader : goal.decreases-loop-reader
decreases-loop-reader g l = left_of l.reader
