use Rattle.std.proofs.Common.{arith}
use Rattle.std.specs.List.{concat}
use Rattle.raft_log_record_checksum.specs.Checksum.{crc_after}
use Rattle.raft_log_record_checksum.proofs.Crc.{crc_chunks_more, crc_chunks_done}
use Rattle.raft_log_record_checksum.proofs.checksum.after_chunks.Goals as goal

pub loop-chunk-preserved : goal.loop-chunk-preserved
loop-chunk-preserved c =
    rw c.after_chunk-register.ensures
    (crc_chunks_more c.loop-chunk.register c.args.chunks.now c.loop-chunk.chunk-index (crc_after c.args.register (concat c.args.chunks.now)) (omega arith) c.loop-chunk.invariant)

pub returns : goal.returns
returns c = crc_chunks_done c.loop-chunk.register c.args.chunks.now c.loop-chunk.chunk-index (crc_after c.args.register (concat c.args.chunks.now)) (omega arith) c.loop-chunk.invariant
