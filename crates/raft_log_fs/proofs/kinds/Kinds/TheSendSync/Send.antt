use denote.Param.Send.{IsSend}
use Rattle.raft_log_fs.proofs.Sharing.{kinds_send}
use Rattle.raft_log_fs.specs.contracts.kinds.Kinds.{the_row}

pub send : IsSend the_row
send = kinds_send
