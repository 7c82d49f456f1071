use Rattle.std.proofs.Common.{◌≡◌, ◌↔◌, List, [], IsTrue}
use Rattle.raft_log_record_items.specs.declared.item.LogItem.{LogItem}
use Rattle.raft_log_fs.specs.Receipts.{Collects}
use Rattle.raft_log_file_reader.specs.Reader.{left_of, honest_of}
use Rattle.raft_log_recovery_read.specs.Batches.{HasTaken, said}
use Rattle.raft_log_recovery_read.specs.Behind.{IsAtWork}
use Rattle.raft_log_recovery_read.specs.Records.{HasRecords}
use Rattle.raft_log_recovery_read.proofs.behind.read_last.Given as goal

-- if all reads were honest, the records so far follow one another up to where the reader is; they were handed on
abbrev pub invariant-loop-declined : goal.invariant-loop-declined
invariant-loop-declined g l = (batches : List (List LogItem))
    × IsAtWork (λ file content offset end. IsTrue (honest_of l.reader) → HasRecords file content offset batches end) (g.F.FileSystem.disk l.file_system) l.fn.reader l.reader
    × (IsTrue l.is_bare ↔ (batches ≡ []))
    × HasTaken (g.M.ReplayMachine.reads l.id.queue) (g.M.ReplayMachine.declines l.id.queue) (said l.id batches) l.fn.machine l.machine l.declined
    × Collects g.F.FileSystem.tells_truth (honest_of l.fn.reader) (honest_of l.reader)

abbrev pub decreases-loop-declined : goal.decreases-loop-declined
decreases-loop-declined g l = left_of l.reader
