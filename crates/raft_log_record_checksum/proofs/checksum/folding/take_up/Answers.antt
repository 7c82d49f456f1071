use Rattle.std.proofs.Common.{◌≡◌, ◌*◌, ◌-◌, ℕ, List, length, ap, ◌∙◌, arith}
use Rattle.std.specs.Prelude.{bit_xor}
use Rattle.std.proofs.lemmas.List.{take_all}
use Rattle.raft_log_record_checksum.specs.Checksum.{crc_bits, crc_after}
use Rattle.raft_log_record_checksum.proofs.Folding.{take_up_more, none_taken}
use Rattle.raft_log_record_checksum.proofs.checksum.folding.take_up.Goals as goal

pub loop-i-init : goal.loop-i-init
loop-i-init c = none_taken (crc_after 0 c.args.bytes.now)

pub loop-i-preserved : goal.loop-i-preserved
loop-i-preserved c = take_up_more c.loop-i.bytes c.args.owed.now c.loop-i.i (crc_after 0 c.args.bytes.now) (omega arith) (omega arith) (omega arith) c.loop-i.invariant

pub returns : goal.returns
returns c =
    let whole : ℕ = crc_after 0 c.args.bytes.now in
    let done : c.loop-i.i ≡ length c.args.owed.now = omega arith in
    c.loop-i.invariant ∙ ap (λ (l : List ℕ). bit_xor whole (crc_bits (8 * (300 - c.loop-i.i)) (crc_after 0 l))) (take_all c.loop-i.i c.args.owed.now (omega arith))
    ∙ ap (λ i. bit_xor whole (crc_bits (8 * (300 - i)) (crc_after 0 c.args.owed.now))) done
