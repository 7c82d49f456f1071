use Rattle.std.proofs.Common.{IsTrue, map, take}
use Rattle.std.specs.String.{string_bytes}
use Rattle.raft_log_fs.specs.Receipts.{Collects}
use Rattle.raft_log_inspection.specs.Steps.{HandsFiles}
use Rattle.raft_log_inspection.proofs.inspecting.read_files.Given as goal

-- if all reads were honest, the files so far were handed on
abbrev pub invariant-loop-file : goal.invariant-loop-file
invariant-loop-file g l =
    (IsTrue l.receipts.honest → HandsFiles (g.M.ReplayMachine.reads l.queue) l.queue (map string_bytes l.paths) (g.F.FileSystem.disk l.files) l.newest (take l.file-index l.found) l.fn.machine l.machine l.damages.items)
    × Collects g.F.FileSystem.tells_truth l.fn.receipts.honest l.receipts.honest
