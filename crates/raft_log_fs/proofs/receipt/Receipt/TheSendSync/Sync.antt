use denote.Param.Send.{IsSync}
use Rattle.raft_log_fs.proofs.Sharing.{receipt_sync}
use Rattle.raft_log_fs.specs.contracts.receipt.Receipt.{the_row}

pub sync : IsSync the_row
sync = receipt_sync
