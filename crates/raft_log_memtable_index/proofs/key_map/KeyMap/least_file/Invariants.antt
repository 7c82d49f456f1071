use Rattle.std.proofs.Common.{◌≡◌}
use Rattle.raft_log_memtable_index.specs.LeastFiles.{least_over}
use Rattle.raft_log_memtable_index.proofs.key_map.KeyMap.least_file.Given as goal

abbrev pub invariant-loop-slot : goal.invariant-loop-slot
invariant-loop-slot l = least_over l.appended l.least l.slot-iterator ≡ least_over l.appended l.initial.least l.initial.slot-iterator
