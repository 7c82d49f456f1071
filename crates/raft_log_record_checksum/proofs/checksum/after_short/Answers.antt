use Rattle.std.proofs.Common.{◌/◌, length}
use Rattle.raft_log_record_checksum.proofs.Crc.{crc_after_parts}
use Rattle.raft_log_record_checksum.proofs.checksum.after_short.Goals as goal

pub returns : goal.returns
returns c =
    rw (c.after_bytes.ensures, c.after_chunks.ensures, c.as_chunks.ensures.front, c.as_chunks.ensures.back)
    (crc_after_parts c.args.register 16 (length c.args.bytes.now / 16) c.args.bytes.now)
