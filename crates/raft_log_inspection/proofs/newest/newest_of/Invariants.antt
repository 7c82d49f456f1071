use Rattle.std.proofs.Common.{◌≤◌, All, take}
use Rattle.raft_log_inspection.proofs.newest.newest_of.Given as goal

-- no file so far has a higher number
abbrev pub invariant-loop-file : goal.invariant-loop-file
invariant-loop-file l = All (λ file. file.seq ≤ l.newest) (take l.file-index l.files)
