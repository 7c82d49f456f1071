use Rattle.std.proofs.Common.{◌-◌, ◌↔◌, ◌<◌, IsTrue, drop, length}
use Rattle.raft_log_fs.specs.Receipts.{Collects}
use Rattle.raft_log_file_reader.specs.Source.{bytes_in}
use Rattle.raft_log_inspection.specs.Intact.{AreZeros}
use Rattle.raft_log_inspection.proofs.zeros.scan_zeros.Given as goal

-- if all reads were honest, the bytes from the offset on are zeros exactly if those from here on are
abbrev pub invariant-loop-at : goal.invariant-loop-at
invariant-loop-at g l =
    let content = bytes_in ((g.F.FileSystem.disk l.files).files l.handle.file) in
    (0 < length l.room) × (IsTrue l.receipts.honest → AreZeros (drop l.offset content) ↔ AreZeros (drop l.at content))
    × Collects g.F.FileSystem.tells_truth l.fn.receipts.honest l.receipts.honest

abbrev pub decreases-loop-at : goal.decreases-loop-at
decreases-loop-at g l = l.size - l.at
