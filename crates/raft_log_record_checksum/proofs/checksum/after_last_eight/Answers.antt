use Rattle.std.proofs.Common.{arith}
use Rattle.raft_log_record_checksum.proofs.Crc.{last_eight}
use Rattle.raft_log_record_checksum.proofs.checksum.after_last_eight.Goals as goal

pub returns : goal.returns
returns c = rw (c.after_few.ensures, c.after_few-2.ensures, c.after_few-3.ensures, c.after_few-4.ensures, c.after_few-5.ensures, c.after_few-6.ensures, c.after_few-7.ensures, c.after_few-8.ensures) (last_eight c.args.bytes (omega arith))
