use Rattle.raft_log_file_reader.proofs.Readings.{one_reading_is, one_fault_is}
use Rattle.raft_log_file_reader.proofs.laws.one_reading.Goals as goal

pub returns : goal.returns
returns c = record { batches = one_reading_is; faults = one_fault_is }
