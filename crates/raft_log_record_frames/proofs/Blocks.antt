-- Reading a whole entry block is its grammar.
use Rattle.std.proofs.Common.{◌≡◌, ℕ, ◌+◌, ◌-◌, ◌≤◌, true, false, cond, ltb, eqb, List, [], ◌∷◌, ◌++◌, length, take, drop, Result, Ok, Err, inl, inr, refl, sym, ap, ◌∙◌, arith}
use Rattle.std.specs.Int.{w32, from_le_bytes}
use Rattle.std.proofs.lemmas.Bool.{eq-eqb, eqb-true, ne_eqb, le-ltb, ltb-false}
use Rattle.std.proofs.lemmas.List.{take_at, drop_at, take-append-drop, length-drop, length-append}
use Rattle.raft_log_record_checksum.specs.Checksum.{crc32_of}
use Rattle.raft_log_record_base.specs.Number.{IsU32Le}
use Rattle.raft_log_record_base.proofs.Public.{chosen, ok_is}
use Rattle.raft_log_record_base.specs.Fault.{Fault}
use Rattle.raft_log_record_base.specs.Fault.Fault.{corrupt}
use Rattle.raft_log_record_frames.specs.Record.{IsBlock, block_of, block_too_short, block_mismatch}
use Rattle.raft_log_record_frames.specs.Frames.{BlockIsRead}

pub block_found : (bytes entries : List ℕ) → block_of bytes ≡ Ok entries → IsBlock bytes entries
unfolding block_of
block_found bytes entries e =
    let body : List ℕ = take (length bytes - 4) bytes in
    let checksum : List ℕ = drop (length bytes - 4) bytes in
    let summed : Result (List ℕ) Fault = cond (eqb (from_le_bytes w32 checksum) (crc32_of body)) (Ok body) (Err (corrupt block_mismatch)) in
    let some : Result (List ℕ) Fault = cond (ltb (length bytes) 4) (Err (corrupt (block_too_short (length bytes)))) summed in
    elim (chosen (eqb (length bytes) 0) (Ok []) some (Ok entries) e) [
      | inl a ↦ inl (nothing bytes (eqb-true _ _ a.0), sym (ok_is {E = Fault} [] entries a.1))
      | inr b ↦ elim (chosen (ltb (length bytes) 4) (Err (corrupt (block_too_short (length bytes)))) summed (Ok entries) b.1) [
        | inl c ↦ absurd (let k = c.1 in cc)
        | inr d ↦ elim (chosen (eqb (from_le_bytes w32 checksum) (crc32_of body)) (Ok body) (Err (corrupt block_mismatch)) (Ok entries) d.1) [
          | inr f ↦ absurd (let k = f.1 in cc)
          | inl g ↦
              let long : 4 ≤ length bytes = ltb-false _ _ d.0 in
              let same : body ≡ entries = ok_is {E = Fault} body entries g.1 in
              let sum : crc32_of entries ≡ from_le_bytes w32 checksum = ap (λ (l : List ℕ). crc32_of l) (sym same) ∙ sym (eqb-true _ _ g.0) in
              inr (checksum, record { size = omega (arith, length-drop (length bytes - 4) bytes, long); value = sum }, sym (take-append-drop (length bytes - 4) bytes) ∙ ap (λ (l : List ℕ). l ++ checksum) same)
        ]
      ]
    ]
  where
    nothing : (l : List ℕ) → length l ≡ 0 → l ≡ []
    nothing [] e = refl
    nothing (b ∷ bs) e = absurd (omega (arith, e))

summed_again : (bytes entries checksum : List ℕ) → IsU32Le checksum (crc32_of entries) → bytes ≡ entries ++ checksum → block_of bytes ≡ Ok entries
unfolding block_of
summed_again bytes entries checksum spelled joined =
    let all : length bytes ≡ length entries + 4 = omega (arith, ap (λ (l : List ℕ). length l) joined, length-append entries checksum, spelled.size) in
    let cut : length bytes - 4 ≡ length entries = omega (arith, all) in
    let some : eqb (length bytes) 0 ≡ false = ne_eqb _ _ (omega (arith, all)) in
    let long : ltb (length bytes) 4 ≡ false = le-ltb _ _ (omega (arith, all)) in
    let front : take (length bytes - 4) bytes ≡ entries = ap (λ (k : ℕ). take k bytes) cut ∙ ap (λ (l : List ℕ). take (length entries) l) joined ∙ take_at entries checksum (length entries) refl in
    let back : drop (length bytes - 4) bytes ≡ checksum = ap (λ (k : ℕ). drop k bytes) cut ∙ ap (λ (l : List ℕ). drop (length entries) l) joined ∙ drop_at entries checksum (length entries) refl in
    let test : eqb (from_le_bytes w32 checksum) (crc32_of entries) ≡ true = eq-eqb _ _ (sym spelled.value) in
    rw (some, long, back, front, test) refl

pub block_again : (bytes entries : List ℕ) → IsBlock bytes entries → block_of bytes ≡ Ok entries
unfolding block_of
block_again bytes entries h = elim h [
  | inl a ↦ rw (a.0, a.1) refl
  | inr b ↦ summed_again bytes entries b.0 b.1 b.2
]

pub block_is_read : BlockIsRead
block_is_read bytes entries = (block_found bytes entries, block_again bytes entries)
