-- Each reader of a fixed number reads its grammar.
use Rattle.std.proofs.Common.{◌≡◌, ℕ, ◌≤◌, false, cond, ltb, List, [], ◌∷◌, ◌++◌, length, take, drop, Ok, Err, refl, sym, ap, ◌∙◌, inl, inr, arith}
use Rattle.std.specs.Int.{Width, w32, w64, byte_len, from_be_bytes, from_le_bytes, bit_not, cast_signed}
use Rattle.std.proofs.lemmas.Bool.{ltb-false, le-ltb}
use Rattle.std.proofs.lemmas.List.{take_at, drop_at, take-append-drop, length-take, length-append}
use Rattle.raft_log_record_base.specs.declared.codec.error.Error.{Error}
use Rattle.raft_log_record_base.specs.Grammar.{IsReader}
use Rattle.raft_log_record_base.specs.Number.{IsHighFirst, IsLowFirst, IsByte, IsU64Desc, IsI64, IsI64Desc, IsI64Le, IsI32Le, above_least, NumberReader, high_first_at, low_first_at, byte_at_front, u64_desc_at, i64_at, i64_desc_at, i64_le_at, i32_le_at}
use Rattle.raft_log_record_base.proofs.Grammar.{ok_is, chosen, is_mapped}

-- what stands at the front of that many bytes
pub record IsSplit (size : ℕ) (value : List ℕ → ℕ) (bytes : List ℕ) (y : ℕ × List ℕ) : Type 0 where
  pub front_size : length (take size bytes) ≡ size
  pub front_value : y.0 ≡ value (take size bytes)
  pub joined : bytes ≡ take size bytes ++ y.1

abbrev pub fixed_at : ℕ → (List ℕ → ℕ) → Error → NumberReader ℕ
fixed_at size value e bytes = cond (ltb (length bytes) size) (Err e) (Ok (value (take size bytes), drop size bytes))

pub fixed_splits : (size : ℕ) (value : List ℕ → ℕ) (e : Error) (bytes : List ℕ) (y : ℕ × List ℕ) → fixed_at size value e bytes ≡ Ok y → IsSplit size value bytes y
fixed_splits size value e bytes y h =
    elim (chosen (ltb (length bytes) size) (Err e) (Ok (value (take size bytes), drop size bytes)) (Ok y) h) [
      | inl a ↦ absurd cc
      | inr b ↦
          let long : size ≤ length bytes = ltb-false _ _ b.0 in
          let same = ok_is {E = Error} (value (take size bytes), drop size bytes) y b.1 in
          record {
            front_size = omega (arith, length-take size bytes);
            front_value = sym (ap (λ (q : ℕ × List ℕ). q.0) same);
            joined = sym (take-append-drop size bytes) ∙ ap (λ (q : ℕ × List ℕ). take size bytes ++ q.1) same;
          }
    ]

pub fixed_again : (size : ℕ) (value : List ℕ → ℕ) (e : Error) (text rest : List ℕ) (n : ℕ) → length text ≡ size → n ≡ value text → fixed_at size value e (text ++ rest) ≡ Ok (n, rest)
fixed_again size value e text rest n len is =
    let long : size ≤ length (text ++ rest) = omega (arith, length-append text rest) in
    let test : ltb (length (text ++ rest)) size ≡ false = le-ltb _ _ long in
    rw (test, take_at text rest size len, drop_at text rest size len, is) refl

pub is_high_first : (w : Width) → IsReader (high_first_at w) (IsHighFirst w)
is_high_first w = record {
  takes = λ bytes y h. let s = fixed_splits (byte_len w) (from_be_bytes w) _ bytes y h in (take (byte_len w) bytes, record { size = s.front_size; value = s.front_value }, s.joined);
  again = λ text rest n p. fixed_again (byte_len w) (from_be_bytes w) _ text rest n p.size p.value;
}

pub is_low_first : (w : Width) → IsReader (low_first_at w) (IsLowFirst w)
is_low_first w = record {
  takes = λ bytes y h. let s = fixed_splits (byte_len w) (from_le_bytes w) _ bytes y h in (take (byte_len w) bytes, record { size = s.front_size; value = s.front_value }, s.joined);
  again = λ text rest n p. fixed_again (byte_len w) (from_le_bytes w) _ text rest n p.size p.value;
}

byte_takes : (bytes : List ℕ) (y : ℕ × List ℕ) → byte_at_front bytes ≡ Ok y → (text : List ℕ) × IsByte text y.0 × (bytes ≡ text ++ y.1)
byte_takes [] y e = absurd cc
byte_takes (b ∷ bs) y e =
    let same = ok_is {E = Error} (b, bs) y e in
    (b ∷ [], record { only = ap (λ (q : ℕ × List ℕ). q.0 ∷ []) same }, ap (λ (q : ℕ × List ℕ). b ∷ q.1) same)

pub is_byte : IsReader byte_at_front IsByte
is_byte = record {
  takes = byte_takes;
  again = λ text rest n p. ap (λ (t : List ℕ). byte_at_front (t ++ rest)) p.only;
}

pub is_u64_desc : IsReader u64_desc_at IsU64Desc
is_u64_desc = is_mapped (bit_not w64) (is_high_first w64)

pub is_i64 : IsReader i64_at IsI64
is_i64 = is_mapped above_least (is_high_first w64)

pub is_i64_desc : IsReader i64_desc_at IsI64Desc
is_i64_desc = is_mapped above_least is_u64_desc

pub is_i64_le : IsReader i64_le_at IsI64Le
is_i64_le = is_mapped (cast_signed w64) (is_low_first w64)

pub is_i32_le : IsReader i32_le_at IsI32Le
is_i32_le = is_mapped (cast_signed w32) (is_low_first w32)
