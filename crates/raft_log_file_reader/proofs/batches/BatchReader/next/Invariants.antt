use Rattle.std.specs.Prelude.{length}
use Rattle.raft_log_file_reader.specs.ItemBatches.{files_of}
use Rattle.raft_log_file_reader.proofs.Steps.{HasComeTo}
use Rattle.raft_log_file_reader.proofs.batches.BatchReader.next.Given as goal

abbrev pub invariant-loop-batch : goal.invariant-loop-batch
invariant-loop-batch g l = HasComeTo (g.F.FileSystem.disk l.file_system) l.fn.self l.self

abbrev pub decreases-loop-batch : goal.decreases-loop-batch
decreases-loop-batch g l = length (files_of l.self)
