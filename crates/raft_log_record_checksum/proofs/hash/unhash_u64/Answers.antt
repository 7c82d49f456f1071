use Rattle.std.proofs.Common.{◌*◌, ◌%◌, ◌^◌, ap, arith, refl, ◌∙◌}
use Rattle.raft_log_record_checksum.specs.Hash.{fold_down, hash_of}
use Rattle.raft_log_record_checksum.proofs.HashInverse.{unmultiplied, fold_below, first_product, second_product}
use Rattle.raft_log_record_checksum.proofs.hash.unhash_u64.Goals as goal

pub returns : goal.returns
unfolding hash_of
returns c = λ number lt e.
    let last = c.unfold_down-number.ensures (second_product number) (omega arith) e in
    let middle = c.unfold_down-number-2.ensures (first_product number) (omega arith)
    (ap (λ r. r * 0x319642B2D24D8EC3 % 2 ^ 64) last ∙ unmultiplied (fold_down 27 (first_product number)) 0x94D049BB133111EB 0x319642B2D24D8EC3 (fold_below 27 (first_product number) (omega arith)) refl) in
    c.unfold_down.ensures number lt
    (ap (λ r. r * 0x96DE1B173F119089 % 2 ^ 64) middle ∙ unmultiplied (fold_down 30 number) 0xBF58476D1CE4E5B9 0x96DE1B173F119089 (fold_below 30 number lt) refl)
