use denote.Param.Send.{IsSync}
use Rattle.raft_log_fs_os.proofs.Sharing.{record_sync}
use Rattle.raft_log_fs_os.specs.contracts.record.Record.{the_row}

pub sync : IsSync the_row
sync = record_sync
