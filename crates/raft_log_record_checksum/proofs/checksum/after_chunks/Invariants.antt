use Rattle.std.proofs.Common.{◌≡◌, drop}
use Rattle.std.specs.List.{concat}
use Rattle.raft_log_record_checksum.specs.Checksum.{crc_after}
use Rattle.raft_log_record_checksum.proofs.checksum.after_chunks.Given as goal

abbrev pub invariant-loop-chunk : goal.invariant-loop-chunk
invariant-loop-chunk l = crc_after l.register (concat (drop l.chunk-index l.chunks)) ≡ crc_after l.fn.register (concat l.chunks)
