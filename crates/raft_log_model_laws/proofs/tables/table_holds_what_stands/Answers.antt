use Rattle.raft_log_model_laws.proofs.TableLaws.{table_of_items, hostile_table}
use Rattle.raft_log_model_laws.proofs.tables.table_holds_what_stands.Goals as goal

pub returns : goal.returns
returns g c = record { without_holes = table_of_items; any = hostile_table }
