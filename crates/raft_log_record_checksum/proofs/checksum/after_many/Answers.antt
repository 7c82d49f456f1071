use Rattle.std.proofs.Common.{arith}
use Rattle.raft_log_record_checksum.proofs.CrcTables.{many_at}
use Rattle.raft_log_record_checksum.proofs.checksum.after_many.Goals as goal

pub returns : goal.returns
returns c = many_at c.args.zeros c.args.byte _ _ (omega arith) (omega arith)
