use Rattle.std.proofs.Common.{arith}
use Rattle.raft_log_record_checksum.proofs.Folding.{started}
use Rattle.raft_log_record_checksum.proofs.checksum.folding.start.Goals as goal

pub returns : goal.returns
returns c = rw c.to_le_bytes.ensures (started c.args.register (omega arith))
