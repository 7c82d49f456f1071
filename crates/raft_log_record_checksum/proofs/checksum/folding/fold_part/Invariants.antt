use Rattle.std.proofs.Common.{◌≡◌, ℕ, ◌+◌, ◌<◌, get_or, take}
use Rattle.raft_log_record_checksum.specs.Checksum.{crc_bits, crc_after}
use Rattle.raft_log_record_checksum.specs.Folding.{owed}
use Rattle.raft_log_record_checksum.proofs.checksum.folding.fold_part.Given as goal

abbrev pub invariant-loop-i : goal.invariant-loop-i
invariant-loop-i l = record {
  bytes : (k : ℕ) → get_or l.window k 0 < 256;
  owes : (register : ℕ) → owed (take 300 l.fn.window) ≡ crc_bits 2400 register → owed (take (300 + l.i) l.window) ≡ crc_bits 2400 (crc_after register (take l.i l.part));
}
