use Rattle.std.proofs.Common.{map, take}
use Rattle.std.specs.String.{string_bytes}
use Rattle.raft_log_offline.specs.Forks.{LiesInOne}
use Rattle.raft_log_offline.proofs.permission.lies_in_one.Given as goal

-- in none of the directories so far
abbrev pub invariant-loop-directory : goal.invariant-loop-directory
invariant-loop-directory l = LiesInOne (map string_bytes (take l.directory-index l.directories)) l.path → ⊥
