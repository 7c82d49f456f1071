use denote.Param.Send.{IsSync}
use Rattle.raft_log_fs.proofs.Sharing.{kinds_sync}
use Rattle.raft_log_fs.specs.contracts.kinds.Kinds.{the_row}

pub sync : IsSync the_row
sync = kinds_sync
