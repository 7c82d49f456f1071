use denote.Param.Send.{IsSend}
use Rattle.raft_log_fs.proofs.Sharing.{receipt_send}
use Rattle.raft_log_fs.specs.contracts.receipt.Receipt.{the_row}

pub send : IsSend the_row
send = receipt_send
