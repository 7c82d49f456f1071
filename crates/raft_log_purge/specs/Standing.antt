-- The number of entries and values that are live in Rewrite, if it was counted.
use Rattle.std.specs.Prelude.{ℕ, Option, Some, None}
use Rattle.raft_log_memtables.specs.Walking.{Stand}
use Rattle.raft_log_memtables.specs.declared.mem_tables.MemTables.{MemTables}

-- if a number is given, it is that of the live entries and values in Rewrite
abbrev pub StandIfTold : Option ℕ → MemTables → Type 0
StandIfTold None m = Unit {0}
StandIfTold (Some n) m = Stand m n
