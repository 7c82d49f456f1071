use Rattle.raft_log_model_laws.proofs.TableLaws.{table_takes_past}
use Rattle.raft_log_model_laws.proofs.tables.hostile_table_takes_an_item.Goals as goal

pub returns : goal.returns
returns g c = table_takes_past
