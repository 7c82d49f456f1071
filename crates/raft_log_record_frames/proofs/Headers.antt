-- Reading the header of a record is its grammar.
use Rattle.std.proofs.Common.{◌≡◌, ℕ, ◌*◌, ◌/◌, ◌%◌, ◌≤◌, true, false, cond, ltb, eqb, List, ◌++◌, length, take, drop, Result, Ok, Err, inl, inr, refl, sym, ap, subst, ◌∙◌, append_assoc, arith}
use Rattle.std.specs.Int.{w64, from_be_bytes}
use Rattle.std.proofs.lemmas.Bool.{ltb-false, le-ltb, eqb-true, eq-eqb}
use Rattle.std.proofs.lemmas.List.{take_at, drop_at, take-append-drop, length-take-le, length-drop, length-append}
use Rattle.raft_log_record_base.specs.Grammar.{IsReader, ◌>>=◌}
use Rattle.raft_log_record_base.proofs.Public.{bind_ok, chosen, ok_is}
use Rattle.raft_log_record_items.specs.declared.compression.CompressionType.{CompressionType}
use Rattle.raft_log_record_items.specs.declared.compression.CompressionType.TheVariants as kinds
use Rattle.raft_log_record_base.specs.Fault.{Fault}
use Rattle.raft_log_record_base.specs.Fault.Fault.{corrupt}
use Rattle.raft_log_record_items.specs.Reading.{unsupported_compression}
use Rattle.raft_log_record_frames.specs.Record.{IsHeader, IsSoundHeader, header_of, header_at, header_too_short, offset_in_header, offset_past_end}

-- what two words must be where they are a header
record Says (word offset : ℕ) (h : ℕ × CompressionType × ℕ) : Type 0 where
  plain : word % 256 ≡ 0
  behind : 16 ≤ offset
  inside : offset ≤ word / 256
  same : (offset, kinds.None, word / 256) ≡ h

words_say : (word offset : ℕ) (h : ℕ × CompressionType × ℕ) → header_of word offset ≡ Ok h → Says word offset h
unfolding header_of
words_say word offset h e =
    let inner : Result (ℕ × CompressionType × ℕ) Fault = cond (ltb (word / 256) offset) (Err (corrupt (offset_past_end offset))) (Ok (offset, kinds.None, word / 256)) in
    let middle : Result (ℕ × CompressionType × ℕ) Fault = cond (ltb offset 16) (Err (corrupt (offset_in_header offset))) inner in
    elim (chosen (eqb (word % 256) 0) middle (Err (corrupt (unsupported_compression (word % 256)))) (Ok h) e) [
      | inr b ↦ absurd (let k = b.1 in cc)
      | inl a ↦ elim (chosen (ltb offset 16) (Err (corrupt (offset_in_header offset))) inner (Ok h) a.1) [
        | inl c ↦ absurd (let k = c.1 in cc)
        | inr d ↦ elim (chosen (ltb (word / 256) offset) (Err (corrupt (offset_past_end offset))) (Ok (offset, kinds.None, word / 256)) (Ok h) d.1) [
          | inl f ↦ absurd (let k = f.1 in cc)
          | inr g ↦ record {
            plain = eqb-true _ _ a.0;
            behind = ltb-false _ _ d.0;
            inside = ltb-false _ _ g.0;
            same = ok_is {E = Fault} (offset, kinds.None, word / 256) h g.1;
          }
        ]
      ]
    ]

header_takes : (bytes : List ℕ) (y : (ℕ × CompressionType × ℕ) × List ℕ) → header_at bytes ≡ Ok y → (text : List ℕ) × IsSoundHeader text y.0 × (bytes ≡ text ++ y.1)
unfolding header_at
header_takes bytes y e =
    let first : List ℕ = take 8 bytes in
    let second : List ℕ = take 8 (drop 8 bytes) in
    let rest : List ℕ = drop 8 (drop 8 bytes) in
    let word : ℕ = from_be_bytes w64 first in
    let offset : ℕ = from_be_bytes w64 second in
    elim (chosen (ltb (length bytes) 16) (Err (corrupt (header_too_short (length bytes)))) (header_of word offset >>= λ h. Ok (h, rest)) (Ok y) e) [
      | inl a ↦ absurd (let k = a.1 in cc)
      | inr b ↦
          let long : 16 ≤ length bytes = ltb-false _ _ b.0 in
          let read = bind_ok (header_of word offset) (λ (h : ℕ × CompressionType × ℕ). Ok (h, rest)) y b.1 in
          let says = words_say word offset read.0 read.1 in
          let same : (read.0, rest) ≡ y = ok_is {E = Fault} (read.0, rest) y read.2 in
          let header : (offset, kinds.None, word / 256) ≡ y.0 = says.same ∙ ap (λ (q : (ℕ × CompressionType × ℕ) × List ℕ). q.0) same in
          let after : rest ≡ y.1 = ap (λ (q : (ℕ × CompressionType × ℕ) × List ℕ). q.1) same in
          let sound : IsSoundHeader (first ++ second) (offset, kinds.None, word / 256) = record {
            spelled = record {
              first = first;
              second = second;
              joined = refl;
              length_spelled = record { size = length-take-le 8 bytes (omega (arith, long)); value = omega (arith, says.plain) };
              offset_spelled = record { size = length-take-le 8 (drop 8 bytes) (omega (arith, long, length-drop 8 bytes)); value = refl };
            };
            plain = refl;
            behind = says.behind;
            inside = says.inside;
          } in
          let whole : bytes ≡ (first ++ second) ++ rest =
          sym (take-append-drop 8 bytes) ∙ ap (λ (l : List ℕ). first ++ l) (sym (take-append-drop 8 (drop 8 bytes))) ∙ sym (append_assoc first second rest) in
          (first ++ second, subst (λ (h : ℕ × CompressionType × ℕ). IsSoundHeader (first ++ second) h) header sound, whole ∙ ap (λ (l : List ℕ). (first ++ second) ++ l) after)
    ]

-- the two words of a header
pub header_words : (text rest : List ℕ) (len offset : ℕ) → IsHeader text len offset
    → (length text ≡ 16) × (from_be_bytes w64 (take 8 (text ++ rest)) ≡ 256 * len) × (from_be_bytes w64 (take 8 (drop 8 (text ++ rest))) ≡ offset) × (drop 8 (drop 8 (text ++ rest)) ≡ rest)
header_words text rest len offset h =
    let grouped : text ++ rest ≡ h.first ++ (h.second ++ rest) = ap (λ (l : List ℕ). l ++ rest) h.joined ∙ append_assoc h.first h.second rest in
    let behind : drop 8 (text ++ rest) ≡ h.second ++ rest = ap (λ (l : List ℕ). drop 8 l) grouped ∙ drop_at h.first (h.second ++ rest) 8 h.length_spelled.size in
    let one : take 8 (text ++ rest) ≡ h.first = ap (λ (l : List ℕ). take 8 l) grouped ∙ take_at h.first (h.second ++ rest) 8 h.length_spelled.size in
    let two : take 8 (drop 8 (text ++ rest)) ≡ h.second = ap (λ (l : List ℕ). take 8 l) behind ∙ take_at h.second rest 8 h.offset_spelled.size in (
      ap (λ (l : List ℕ). length l) h.joined ∙ length-append h.first h.second ∙ rw (h.length_spelled.size, h.offset_spelled.size) refl,
      ap (λ (l : List ℕ). from_be_bytes w64 l) one ∙ sym h.length_spelled.value,
      ap (λ (l : List ℕ). from_be_bytes w64 l) two ∙ sym h.offset_spelled.value,
      ap (λ (l : List ℕ). drop 8 l) behind ∙ drop_at h.second rest 8 h.offset_spelled.size,
    )

words_read : (len offset : ℕ) → 16 ≤ offset → offset ≤ len → header_of (256 * len) offset ≡ Ok (offset, kinds.None, len)
unfolding header_of
words_read len offset behind inside =
    let plain : eqb (256 * len % 256) 0 ≡ true = eq-eqb _ _ (omega arith) in
    let size : 256 * len / 256 ≡ len = omega arith in
    let not_in : ltb offset 16 ≡ false = le-ltb _ _ behind in
    let not_past : ltb len offset ≡ false = le-ltb _ _ inside in
    rw (plain, not_in, size, not_past) refl

pub header_again : (text rest : List ℕ) (header : ℕ × CompressionType × ℕ) → IsSoundHeader text header → header_at (text ++ rest) ≡ Ok (header, rest)
unfolding header_at
header_again text rest header h =
    let words = header_words text rest header.2 header.0 h.spelled in
    let long : ltb (length (text ++ rest)) 16 ≡ false = le-ltb _ _ (omega (arith, length-append text rest, words.0)) in
    let plain : (header.0, kinds.None, header.2) ≡ header = ap (λ (k : CompressionType). (header.0, k, header.2)) (sym h.plain) in
    rw (long, words.1, words.2, words.3, words_read header.2 header.0 h.behind h.inside, plain) refl

pub is_sound_header : IsReader header_at IsSoundHeader
is_sound_header = record { takes = header_takes; again = header_again }
