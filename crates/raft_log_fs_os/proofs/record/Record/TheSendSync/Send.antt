use denote.Param.Send.{IsSend}
use Rattle.raft_log_fs_os.proofs.Sharing.{record_send}
use Rattle.raft_log_fs_os.specs.contracts.record.Record.{the_row}

pub send : IsSend the_row
send = record_send
