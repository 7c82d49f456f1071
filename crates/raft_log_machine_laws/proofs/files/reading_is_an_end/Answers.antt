use Rattle.raft_log_machine_laws.proofs.FileLaws.{read_split, read_records}
use Rattle.raft_log_machine_laws.proofs.files.reading_is_an_end.Goals as goal

pub returns : goal.returns
returns g c = λ n q kept s files numbered read. read_records q kept files (read_split n q kept s files numbered read)
