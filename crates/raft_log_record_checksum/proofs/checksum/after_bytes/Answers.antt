use Rattle.std.proofs.Common.{arith, get_or}
use Rattle.raft_log_record_checksum.specs.Checksum.{crc_after}
use Rattle.raft_log_record_checksum.proofs.Crc.{crc_after_more, crc_after_done, register_step}
use Rattle.raft_log_record_checksum.proofs.checksum.after_bytes.Goals as goal

pub loop-byte-preserved : goal.loop-byte-preserved
loop-byte-preserved c =
    rw (c.after_few.ensures, register_step c.loop-byte.register (get_or c.args.bytes.now c.loop-byte.byte-index 0))
    (crc_after_more c.loop-byte.register c.args.bytes.now c.loop-byte.byte-index (crc_after c.args.register c.args.bytes.now) (omega arith) c.loop-byte.invariant)

pub returns : goal.returns
returns c = crc_after_done c.loop-byte.register c.args.bytes.now c.loop-byte.byte-index (crc_after c.args.register c.args.bytes.now) (omega arith) c.loop-byte.invariant
