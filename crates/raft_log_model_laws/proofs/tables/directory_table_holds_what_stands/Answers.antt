use Rattle.raft_log_model_laws.proofs.DirectoryTable.{directory_entries_hold, directory_values_hold}
use Rattle.raft_log_model_laws.proofs.tables.directory_table_holds_what_stands.Goals as goal

pub returns : goal.returns
returns g c = record { entries = directory_entries_hold; values = directory_values_hold }
