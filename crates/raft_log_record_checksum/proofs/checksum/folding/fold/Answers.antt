use Rattle.std.proofs.Common.{◌/◌, ℕ, List, length, take, ap, ◌∙◌, arith}
use Rattle.std.specs.List.{concat}
use Rattle.std.proofs.lemmas.List.{take_all}
use Rattle.raft_log_record_checksum.specs.Checksum.{crc_bits, crc_after}
use Rattle.raft_log_record_checksum.proofs.Crc.{crc_after_parts}
use Rattle.raft_log_record_checksum.proofs.Folding.{parts_more}
use Rattle.raft_log_record_checksum.proofs.checksum.folding.fold.Goals as goal

pub loop-part-init : goal.loop-part-init
unfolding crc_after
loop-part-init c = λ register stands. stands

pub loop-part-preserved : goal.loop-part-preserved
loop-part-preserved c = λ register stands.
    c.fold_part.ensures (crc_after register (concat (take c.loop-part.part-index c.as_chunks.result.0.now))) (c.loop-part.invariant register stands)
    ∙ ap (λ r. crc_bits 2400 r) (parts_more register c.as_chunks.result.0.now c.loop-part.part-index (omega arith))

pub returns : goal.returns
returns c = λ register stands.
    let parts : List (List ℕ) = c.as_chunks.result.0.now in
    let before = c.loop-part.invariant register stands ∙ ap (λ (l : List (List ℕ)). crc_bits 2400 (crc_after register (concat l))) (take_all c.loop-part.part-index parts (omega arith)) in
    c.fold_part-2.ensures (crc_after register (concat parts)) before
    ∙ rw (c.as_chunks.ensures.front, c.as_chunks.ensures.back) (ap (λ r. crc_bits 2400 r) (crc_after_parts register 2048 (length c.args.bytes.now / 2048) c.args.bytes.now))
