use Rattle.std.proofs.Common.{arith}
use Rattle.raft_log_record_checksum.proofs.Crc.{fold_four}
use Rattle.raft_log_record_checksum.proofs.checksum.after_first_four.Goals as goal

pub returns : goal.returns
returns c = rw (c.after_many.ensures, c.after_many-2.ensures, c.after_many-3.ensures, c.after_many-4.ensures, c.to_le_bytes.ensures) (fold_four 12 c.args.word (omega arith))
