use Rattle.std.proofs.Common.{◌≡◌, drop}
use Rattle.raft_log_record_checksum.specs.Checksum.{crc_after}
use Rattle.raft_log_record_checksum.proofs.checksum.after_bytes.Given as goal

abbrev pub invariant-loop-byte : goal.invariant-loop-byte
invariant-loop-byte l = crc_after l.register (drop l.byte-index l.bytes) ≡ crc_after l.fn.register l.bytes
