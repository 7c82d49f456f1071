use Rattle.std.proofs.Common.{ℕ, List, [], ◌∷◌, get_or, refl, ap, ◌∙◌, sym}
use Rattle.raft_log_record_checksum.specs.Checksum.{crc_after}
use Rattle.raft_log_record_checksum.proofs.Crc.{crc_after_sixteen, sixteen_named, fits_named}
use Rattle.raft_log_record_checksum.proofs.checksum.after_chunk.Goals as goal

pub returns : goal.returns
returns c =
    let b : ℕ → ℕ = λ i. get_or c.args.chunk.now i 0 in
    let first : List ℕ = b 0 ∷ b 1 ∷ b 2 ∷ b 3 ∷ [] in
    let middle : List ℕ = b 4 ∷ b 5 ∷ b 6 ∷ b 7 ∷ [] in
    let last : List ℕ = b 8 ∷ b 9 ∷ b 10 ∷ b 11 ∷ b 12 ∷ b 13 ∷ b 14 ∷ b 15 ∷ [] in
    let r : ℕ = c.args.register in
    rw (c.after_middle_four.ensures, c.after_last_eight.ensures, c.after_first_four.ensures, c.from_le_bytes.ensures)
    (crc_after_sixteen r first middle last refl refl refl (fits_named (b 0) (b 1) (b 2) (b 3) (c.fits-chunk 0) (c.fits-chunk 1) (c.fits-chunk 2) (c.fits-chunk 3)) ∙ ap (λ (l : List ℕ). crc_after r l) (sym (sixteen_named c.args.chunk.now c.told-chunk)))
