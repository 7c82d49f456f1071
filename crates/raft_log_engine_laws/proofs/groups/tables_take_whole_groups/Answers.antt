use Rattle.raft_log_engine_laws.proofs.Taking.{one_part_moves, tables_take}
use Rattle.raft_log_engine_laws.proofs.groups.tables_take_whole_groups.Goals as goal

pub returns : goal.returns
returns g c = record { part = one_part_moves; whole = tables_take }
