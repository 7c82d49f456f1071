-- Bytes behind the first so many of which all are zeros: what stands there is 0, as it is past the end.
use Rattle.std.specs.Prelude.{◌≡◌, ℕ, ◌+◌, ◌≤◌, min, max, List, length}
use Rattle.std.proofs.Common.{sym, ◌∙◌, ap, arith, inl, inr, get_or, take}
use Rattle.std.proofs.lemmas.List.{ext_get_or, get_or-take, get_or_past, length-take}
use Rattle.std.proofs.lemmas.Bool.{cases_lt}
use Rattle.raft_log_fs.specs.Disk.{grown, overwritten}
use Rattle.raft_log_fs_state.specs.Zeros.{HasZerosBehind}
use Rattle.raft_log_fs_state.proofs.Growing.{length-grown}
use Rattle.raft_log_fs_state.proofs.Zeros.{get_or-grown, grown_more, overwritten_outside}

zero_behind : (count : ℕ) (bytes : List ℕ) (i : ℕ) → HasZerosBehind count bytes → count ≤ i → get_or bytes i 0 ≡ 0
zero_behind count bytes i has from =
    ap (λ (xs : List ℕ). get_or xs i 0) has.1
    ∙ (get_or-grown (length bytes) (take count bytes) i ∙ get_or_past (take count bytes) i 0 (omega (arith, length-take count bytes, from)))

behind_zeros : (count : ℕ) (bytes : List ℕ) → count ≤ length bytes → ((i : ℕ) → count ≤ i → get_or bytes i 0 ≡ 0) → HasZerosBehind count bytes
behind_zeros count bytes within none = (
  within,
  ext_get_or 0 bytes (grown (length bytes) (take count bytes)) (omega (arith, length-grown (length bytes) (take count bytes), length-take count bytes)) (λ i less.
      elim (cases_lt i count) [
        | inl before ↦ sym (get_or-grown (length bytes) (take count bytes) i ∙ get_or-take count bytes i 0 before)
        | inr from ↦
            none i from
            ∙ sym (get_or-grown (length bytes) (take count bytes) i ∙ get_or_past (take count bytes) i 0 (omega (arith, length-take count bytes, from)))
      ]),
)

-- a write: the bytes before the zeros reach up to its end
pub written_behind : (count at : ℕ) (over bytes : List ℕ) (size : ℕ) → size ≡ length (overwritten at over bytes) → length bytes ≤ size → HasZerosBehind count bytes
    → HasZerosBehind (max count (min (at + length over) size)) (overwritten at over bytes)
written_behind count at over bytes size is longer has =
    let within = has.0 in
    let new : List ℕ = overwritten at over bytes in
    let reached : ℕ = max count (min (at + length over) size) in
    behind_zeros reached new (omega (arith, within, longer, is)) (λ i from. elim (cases_lt i (at + length over)) [
      | inr behind ↦ overwritten_outside at over bytes i (inr behind) ∙ zero_behind count bytes i has (omega (arith, from))
      | inl inside ↦ get_or_past new i 0 (omega (arith, from, inside, is))
    ])

-- the bytes are those before the zeros, and zeros
pub front_grown : (count size : ℕ) (bytes : List ℕ) → length bytes ≤ size → HasZerosBehind count bytes → grown size bytes ≡ grown size (take count bytes)
front_grown count size bytes within has = ap (grown size) has.1 ∙ sym (grown_more size (length bytes) (take count bytes) within)

-- zeros up to one size and up to another
pub grown_further : (more size : ℕ) (bytes : List ℕ) → grown (max size more) (grown more bytes) ≡ grown more (grown size bytes)
grown_further more size bytes =
    ext_get_or 0 (grown (max size more) (grown more bytes)) (grown more (grown size bytes))
    (omega (arith, length-grown (max size more) (grown more bytes), length-grown more bytes, length-grown more (grown size bytes), length-grown size bytes)) (λ i inside.
    get_or-grown (max size more) (grown more bytes) i
    ∙ (get_or-grown more bytes i ∙ sym (get_or-grown more (grown size bytes) i ∙ get_or-grown size bytes i)))
