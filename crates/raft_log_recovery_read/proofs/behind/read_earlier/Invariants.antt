use Rattle.std.proofs.Common.{List, IsTrue}
use Rattle.raft_log_record_items.specs.declared.item.LogItem.{LogItem}
use Rattle.raft_log_fs.specs.Receipts.{Collects}
use Rattle.raft_log_file_reader.specs.Reader.{left_of, honest_of}
use Rattle.raft_log_recovery_read.specs.Batches.{HasTaken, said}
use Rattle.raft_log_recovery_read.specs.Behind.{IsAtWork, LiesInside, StandsAtLast}
use Rattle.raft_log_recovery_read.proofs.behind.read_earlier.Given as goal

-- if all reads were honest, the batches so far follow one another up to where the reader is, and the last one is noted;
-- those before it were handed on
abbrev pub invariant-loop-last : goal.invariant-loop-last
invariant-loop-last g l = (before : List (List LogItem))
    × IsAtWork (λ file content offset end. IsTrue (honest_of l.reader) → StandsAtLast file content offset before l.last end) (g.F.FileSystem.disk l.file_system) l.fn.reader l.reader
    × LiesInside l.last l.reader
    × HasTaken (g.M.ReplayMachine.reads l.id.queue) (g.M.ReplayMachine.declines l.id.queue) (said l.id before) l.fn.machine l.machine l.declined
    × Collects g.F.FileSystem.tells_truth (honest_of l.fn.reader) (honest_of l.reader)

abbrev pub decreases-loop-last : goal.decreases-loop-last
decreases-loop-last g l = left_of l.reader
