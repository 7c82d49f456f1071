use Rattle.std.proofs.Common.{◌≡◌, ◌+◌, ◌<◌, ℕ, List, length, get_or, take, refl, ap, ◌∙◌, arith}
use Rattle.std.proofs.lemmas.List.{take_all}
use Rattle.raft_log_record_checksum.specs.Checksum.{crc_bits, crc_after}
use Rattle.raft_log_record_checksum.specs.Folding.{owed}
use Rattle.raft_log_record_checksum.proofs.Folding.{part_more, bytes_set, five_below, window_moved}
use Rattle.raft_log_record_checksum.proofs.checksum.folding.fold_part.Goals as goal

pub loop-i-init : goal.loop-i-init
unfolding crc_after
loop-i-init c = record { bytes = c.fits-window; owes = λ register stands. stands }

pub loop-i-preserved : goal.loop-i-preserved
loop-i-preserved c =
    let i : ℕ = c.loop-i.i in
    let w : ℕ → ℕ = λ k. get_or c.loop-i.window k 0 in
    let fits : (k : ℕ) → w k < 256 = c.loop-i.invariant.bytes in
    let own : get_or c.args.part.now i 0 < 256 = (c.type_inv.part i).fits in
    let below = five_below (get_or c.args.part.now i 0) (w (155 + i)) (w (117 + i)) (w (89 + i)) (w i) own (fits (155 + i)) (fits (117 + i)) (fits (89 + i)) (fits i) in
    record {
      bytes = bytes_set c.loop-i.window (300 + i) _ below fits;
      owes = λ register stands. part_more c.loop-i.window c.args.part.now i register _ (omega arith) (omega arith) below refl (c.loop-i.invariant.owes register stands);
    }

pub returns : goal.returns
returns c = λ register stands.
    let n : ℕ = length c.args.part.now in
    let done : n ≡ c.loop-i.i = omega arith in
    ap (λ (l : List ℕ). owed (take 300 l)) c.copy_within.ensures.after ∙ window_moved c.loop-i.window n (omega arith)
    ∙ ap (λ i. owed (take (300 + i) c.loop-i.window)) done ∙ c.loop-i.invariant.owes register stands
    ∙ ap (λ (l : List ℕ). crc_bits 2400 (crc_after register l)) (take_all c.loop-i.i c.args.part.now (omega arith))
