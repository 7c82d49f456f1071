use Rattle.std.proofs.Common.{take}
use Rattle.raft_log_memtables.specs.Tables.{shown_of}
use Rattle.raft_log_purge.specs.Garbage.{CountsPast}
use Rattle.raft_log_purge.proofs.garbage.count_past.Given as goal

-- so it is of the groups so far
abbrev pub invariant-loop-group : goal.invariant-loop-group
invariant-loop-group l = CountsPast l.fn.file (shown_of l.fn.tables) (take l.group-index l.groups) l.count
