use Rattle.std.proofs.Common.{◌≡◌, ℕ, take}
use Rattle.std.specs.List.{concat}
use Rattle.raft_log_record_checksum.specs.Checksum.{crc_bits, crc_after}
use Rattle.raft_log_record_checksum.specs.Folding.{owed}
use Rattle.raft_log_record_checksum.proofs.checksum.folding.fold.Given as goal

abbrev pub invariant-loop-part : goal.invariant-loop-part
invariant-loop-part l =
    (register : ℕ) → owed (take 300 l.fn.window) ≡ crc_bits 2400 register → owed (take 300 l.window) ≡ crc_bits 2400 (crc_after register (concat (take l.part-index l.parts)))
