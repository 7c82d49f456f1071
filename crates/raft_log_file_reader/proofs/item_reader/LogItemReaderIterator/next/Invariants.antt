use Rattle.raft_log_file_reader.specs.ItemReader.{most_to_come}
use Rattle.raft_log_file_reader.proofs.Items.{HasReadTo}
use Rattle.raft_log_file_reader.proofs.item_reader.LogItemReaderIterator.next.Given as goal

abbrev pub invariant-loop-item : goal.invariant-loop-item
invariant-loop-item g l = HasReadTo g.F.FileSystem.disk l.fn.self l.self

abbrev pub decreases-loop-item : goal.decreases-loop-item
decreases-loop-item g l = most_to_come g.F.FileSystem.disk l.self
