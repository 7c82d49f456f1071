use Rattle.std.proofs.Common.{◌≡◌, List, ℕ, ◌++◌, IsTrue}
use Rattle.raft_log_fs.specs.Receipts.{Collects}
use Rattle.raft_log_file_reader.specs.Reader.{left_of, honest_of}
use Rattle.raft_log_recovery_read.specs.Behind.{IsAtWork}
use Rattle.raft_log_open.specs.Content.{HasAllBytes, joined}
use Rattle.raft_log_open.proofs.content.join_records.Given as goal

-- the records so far came behind what was there; if all reads were honest and `bytes` are the file's, they follow one
-- another up to where the reader is
abbrev pub invariant-loop-start : goal.invariant-loop-start
invariant-loop-start g l = (records : List (List ℕ))
    × IsAtWork (λ file content offset end. IsTrue (honest_of l.reader) → l.bytes ≡ content → HasAllBytes file content offset records end) (g.F.FileSystem.disk l.file_system) l.fn.reader l.reader
    × (l.new.items ≡ l.fn.new.items ++ joined records)
    × Collects g.F.FileSystem.tells_truth (honest_of l.fn.reader) (honest_of l.reader)

abbrev pub decreases-loop-start : goal.decreases-loop-start
decreases-loop-start g l = left_of l.reader
