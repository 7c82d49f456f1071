-- The name of a history.
use Rattle.atomic_table.specs.Seated.{TableId}
use Rattle.raft_log_shared.specs.declared.history.FreshHistory.{FreshHistory}

-- the name that a fresh history gets
abbrev pub id_of : FreshHistory → TableId
id_of fresh = fresh.cell.table.shared.table_id
