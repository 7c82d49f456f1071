use Rattle.std.proofs.Common.{◌≡◌, ◌*◌, ◌-◌, take}
use Rattle.std.specs.Prelude.{bit_xor}
use Rattle.raft_log_record_checksum.specs.Checksum.{crc_bits, crc_after}
use Rattle.raft_log_record_checksum.proofs.checksum.folding.take_up.Given as goal

abbrev pub invariant-loop-i : goal.invariant-loop-i
invariant-loop-i l = crc_after 0 l.bytes ≡ bit_xor (crc_after 0 l.fn.bytes) (crc_bits (8 * (300 - l.i)) (crc_after 0 (take l.i l.owed)))
