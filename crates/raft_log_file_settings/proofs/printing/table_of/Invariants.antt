use Rattle.toml.specs.View.{table_view}
use Rattle.raft_log_file_settings.proofs.Printings.{AreSoFar}
use Rattle.raft_log_file_settings.proofs.printing.table_of.Given as goal

-- the rows so far are put
abbrev pub invariant-loop-row : goal.invariant-loop-row
invariant-loop-row l = AreSoFar l.rows l.row-index (table_view l.table)
