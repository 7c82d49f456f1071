use Rattle.std.proofs.Common.{arith}
use Rattle.raft_log_record_checksum.proofs.Crc.{middle_four}
use Rattle.raft_log_record_checksum.proofs.checksum.after_middle_four.Goals as goal

pub returns : goal.returns
returns c = rw (c.after_many.ensures, c.after_many-2.ensures, c.after_many-3.ensures, c.after_many-4.ensures) (middle_four c.args.bytes (omega arith))
