-- Reading a whole footer is its grammar.
use Rattle.std.proofs.Common.{◌≡◌, ℕ, ◌+◌, ◌-◌, ◌≤◌, ◌<◌, ◌^◌, Bool, true, false, cond, ◌&&◌, ltb, eqb, List, [], ◌∷◌, ◌++◌, length, take, drop, Option, Result, Ok, Err, ◌⊎◌, inl, inr, refl, sym, ap, subst, ◌∙◌, arith, Some, bit_xor}
use Rattle.std.specs.Int.Bits.{xor_assoc, xor_self, xor_zero_l}
use Rattle.raft_log_record_checksum.specs.Checksum.{crc32_of}
use Rattle.std.specs.Int.{w32, from_le_bytes}
use Rattle.std.proofs.lemmas.Bool.{eq-eqb, eqb-true, le-ltb, lt-ltb, ltb-true, ltb-false, ne_eqb}
use Rattle.std.proofs.lemmas.List.{append-nil, take_at, drop_at, take-append-drop, length-drop, length-append}
use Rattle.raft_log_record_base.specs.Number.{IsVarU64}
use Rattle.raft_log_record_base.proofs.Public.{bind_ok, chosen, done, ok_is}
use Rattle.raft_log_record_items.specs.declared.item.LogItem.{LogItem}
use Rattle.raft_log_record_base.specs.Fault.{Fault}
use Rattle.raft_log_record_base.specs.Fault.Fault.{corrupt}
use Rattle.raft_log_record_items.specs.Items.{AreItems}
use Rattle.raft_log_record_items.specs.Reading.{items_at}
use Rattle.raft_log_record_base.specs.Grammar.{◌>>=◌}
use Rattle.raft_log_record_items.proofs.Public.{are_items}
use Rattle.raft_log_record_items.specs.Placed.{entries_len, placed}
use Rattle.raft_log_record_frames.specs.Record.{signed, IsFooter, AddsUp, adds_up, whole_of, whole_items, body_of, footer_of, placed_footer_of, footer_too_short, footer_mismatch, bytes_after_items, lengths_mismatch}
use Rattle.raft_log_record_frames.specs.Frames.{FooterIsRead, PlacedFooterIsRead}

-- a list of items has a byte at least
pub some_bytes : (body : List ℕ) (items : List LogItem) → AreItems body items → 1 ≤ length body
some_bytes body items h = starts h.1 h.2 body h.3 h.5
  where
    starts : (front back body : List ℕ) {n : ℕ} → IsVarU64 front n → body ≡ front ++ back → 1 ≤ length body
    starts [] back body v e = absurd v.digits
    starts (b ∷ bs) back body v e = omega (arith, ap (λ (l : List ℕ). length l) e)

adds_up_of : (n len : ℕ) → n < 2 ^ 32 → ((len ≡ 0) × (n ≡ 0)) ⊎ (len ≡ n + 4) → adds_up len n ≡ true
adds_up_of n len fits h =
    let test : ltb n (2 ^ 32) ≡ true = lt-ltb _ _ fits in
    elim h [
      | inl p ↦ rw (test, p.0, p.1) refl
      | inr q ↦
          let some : eqb len 0 ≡ false = ne_eqb _ _ (omega (arith, q)) in
          let whole : eqb len (n + 4) ≡ true = eq-eqb _ _ q in
          rw (test, some, whole) refl
    ]

adds_up_true : (items : List LogItem) (len : ℕ) → AddsUp items len → adds_up len (entries_len items) ≡ true
adds_up_true items len h = adds_up_of (entries_len items) len h.0 h.1

pub footer_again : (signature : Option ℕ) (len : ℕ) (bytes : List ℕ) (items : List LogItem) → IsFooter signature bytes items → AddsUp items len → footer_of signature len bytes ≡ Ok items
unfolding footer_of body_of whole_items whole_of
footer_again signature len bytes items h up =
    let four : length h.checksum ≡ 4 = h.checksum_spelled.size in
    let all : length bytes ≡ length h.body + 4 = omega (arith, ap (λ (l : List ℕ). length l) h.joined, length-append h.body h.checksum) in
    let cut : length bytes - 4 ≡ length h.body = omega (arith, all) in
    let long : ltb (length bytes) 5 ≡ false = le-ltb _ _ (omega (arith, all, some_bytes h.body items h.items_spelled)) in
    let front : take (length bytes - 4) bytes ≡ h.body = ap (λ (k : ℕ). take k bytes) cut ∙ ap (λ (l : List ℕ). take (length h.body) l) h.joined ∙ take_at h.body h.checksum (length h.body) refl in
    let back : drop (length bytes - 4) bytes ≡ h.checksum = ap (λ (k : ℕ). drop k bytes) cut ∙ ap (λ (l : List ℕ). drop (length h.body) l) h.joined ∙ drop_at h.body h.checksum (length h.body) refl in
    let test : eqb (from_le_bytes w32 h.checksum) (signed signature h.body) ≡ true = eq-eqb _ _ (sym h.checksum_spelled.value) in
    let read : items_at h.body ≡ Ok (items, []) = ap items_at (sym (append-nil h.body)) ∙ are_items.again h.body [] items h.items_spelled in
    rw (long, back, front, test, read, adds_up_true items len up) refl

both_true : (b c : Bool) → (b && c) ≡ true → (b ≡ true) × (c ≡ true)
both_true true c e = (refl, e)
both_true false c e = absurd cc

adds_up_from : (items : List LogItem) (len : ℕ) → adds_up len (entries_len items) ≡ true → AddsUp items len
adds_up_from items len h =
    let both = both_true (ltb (entries_len items) (2 ^ 32)) (cond (eqb len 0) (eqb (entries_len items) 0) (eqb len (entries_len items + 4))) h in
    let fits : entries_len items < 2 ^ 32 = ltb-true _ _ both.0 in (
      fits,
      elim (chosen (eqb len 0) (eqb (entries_len items) 0) (eqb len (entries_len items + 4)) true both.1) [
        | inl a ↦ inl (eqb-true _ _ a.0, eqb-true _ _ a.1)
        | inr b ↦ inr (eqb-true _ _ b.1)
      ],
    )

-- what is whole has nothing behind it, and adds up
pub whole_found : (len sum : ℕ) (rest : List ℕ) (u : Unit {0}) → whole_of len sum rest ≡ Ok u → (rest ≡ []) × (adds_up len sum ≡ true)
unfolding whole_of
whole_found len sum rest u e =
    let good : Result (Unit {0}) Fault = cond (adds_up len sum) (Ok tt) (Err (corrupt lengths_mismatch)) in
    elim (chosen (eqb (length rest) 0) good (Err (corrupt (bytes_after_items (length rest)))) (Ok u) e) [
      | inr d ↦ absurd (let k = d.1 in cc)
      | inl c ↦ elim (chosen (adds_up len sum) (Ok tt) (Err (corrupt lengths_mismatch)) (Ok u) c.1) [
        | inr d ↦ absurd (let k = d.1 in cc)
        | inl b ↦ (nothing rest (eqb-true _ _ c.0), b.0)
      ]
    ]
  where
    nothing : (l : List ℕ) → length l ≡ 0 → l ≡ []
    nothing [] e = refl
    nothing (b ∷ bs) e = absurd (omega (arith, e))

-- lengths that add up to a block are few
pub adds_up_fits : (len sum : ℕ) → adds_up len sum ≡ true → sum < 2 ^ 32
adds_up_fits len sum h = ltb-true _ _ (both_true (ltb sum (2 ^ 32)) (cond (eqb len 0) (eqb sum 0) (eqb len (sum + 4))) h).0

-- the items of a footer whose parts are read
pub footer_made : (signature : Option ℕ) (len : ℕ) (bytes body : List ℕ) (items : List LogItem) (rest : List ℕ) (u : Unit {0})
    → body_of signature bytes ≡ Ok body → items_at body ≡ Ok (items, rest) → whole_of len (entries_len items) rest ≡ Ok u → footer_of signature len bytes ≡ Ok items
unfolding footer_of whole_items
footer_made signature len bytes body items rest u a b c = rw (a, b, c) refl

-- the body of a footer that is read
record HasBody (signature : Option ℕ) (bytes body : List ℕ) : Type 0 where
  front : take (length bytes - 4) bytes ≡ body
  long : 5 ≤ length bytes
  sum : from_le_bytes w32 (drop (length bytes - 4) bytes) ≡ signed signature body

body_found : (signature : Option ℕ) (bytes body : List ℕ) → body_of signature bytes ≡ Ok body → HasBody signature bytes body
unfolding body_of
body_found signature bytes body e =
    let front : List ℕ = take (length bytes - 4) bytes in
    let checksum : List ℕ = drop (length bytes - 4) bytes in
    let read : Result (List ℕ) Fault = cond (eqb (from_le_bytes w32 checksum) (signed signature front)) (Ok front) (Err (corrupt footer_mismatch)) in
    elim (chosen (ltb (length bytes) 5) (Err (corrupt (footer_too_short (length bytes)))) read (Ok body) e) [
      | inl a ↦ absurd (let k = a.1 in cc)
      | inr b ↦ elim (chosen (eqb (from_le_bytes w32 checksum) (signed signature front)) (Ok front) (Err (corrupt footer_mismatch)) (Ok body) b.1) [
        | inr d ↦ absurd (let k = d.1 in cc)
        | inl c ↦
            let same : front ≡ body = ok_is {E = Fault} front body c.1 in
            record { front = same; long = ltb-false _ _ b.0; sum = eqb-true _ _ c.0 ∙ ap (λ (l : List ℕ). signed signature l) same }
      ]
    ]

-- what is read as a whole footer is one
pub footer_found : (signature : Option ℕ) (len : ℕ) (bytes : List ℕ) (items : List LogItem) → footer_of signature len bytes ≡ Ok items → IsFooter signature bytes items × AddsUp items len
unfolding footer_of whole_items
footer_found signature len bytes items e =
    let a = bind_ok (body_of signature bytes) (λ (body : List ℕ). items_at body >>= λ (r : List LogItem × List ℕ). whole_items len r.0 r.1) items e in
    let b = bind_ok (items_at a.0) (λ (r : List LogItem × List ℕ). whole_items len r.0 r.1) items a.2 in
    let w = bind_ok (whole_of len (entries_len b.0.0) b.0.1) (λ (u : Unit {0}). Ok b.0.0) items b.2 in
    let body = body_found signature bytes a.0 a.1 in
    let whole = whole_found len (entries_len b.0.0) b.0.1 w.0 w.1 in
    let same : b.0.0 ≡ items = ok_is {E = Fault} b.0.0 items w.2 in
    let t = are_items.takes a.0 b.0 b.1 in
    let all : a.0 ≡ t.0 = t.2 ∙ ap (λ (l : List ℕ). t.0 ++ l) whole.0 ∙ append-nil t.0 in
    let spelled : AreItems a.0 b.0.0 = subst (λ (l : List ℕ). AreItems l b.0.0) (sym all) t.1 in (
      record {
        body = a.0;
        checksum = drop (length bytes - 4) bytes;
        joined = sym (take-append-drop (length bytes - 4) bytes) ∙ ap (λ (l : List ℕ). l ++ drop (length bytes - 4) bytes) body.front;
        items_spelled = subst (λ (x : List LogItem). AreItems a.0 x) same spelled;
        checksum_spelled = record { size = omega (arith, length-drop (length bytes - 4) bytes, body.long); value = sym body.sum };
      },
      subst (λ (x : List LogItem). AddsUp x len) same (adds_up_from b.0.0 len whole.1),
    )

pub footer_is_read : FooterIsRead
footer_is_read signature len bytes items = (footer_found signature len bytes items, λ h. footer_again signature len bytes items h.0 h.1)

pub placed_footer_is_read : PlacedFooterIsRead
unfolding placed_footer_of
placed_footer_is_read signature block bytes there = (
  λ e.
      let f = bind_ok (footer_of signature block.len bytes) (λ (items : List LogItem). done {E = Fault} (placed block items)) there e in
      (f.0, footer_found signature block.len bytes f.0 f.1, sym (ok_is {E = Fault} (placed block f.0) there f.2)),
  λ h.
      ap (λ (r : Result (List LogItem) Fault). r >>= λ (items : List LogItem). done {E = Fault} (placed block items)) (footer_again signature block.len bytes h.0 h.1.0 h.1.1)
      ∙ ap (λ (l : List LogItem). done {E = Fault} l) (sym h.2),
)

-- ---- signatures

body_is : (signature : Option ℕ) (bytes : List ℕ) (items : List LogItem) (h : IsFooter signature bytes items) → take (length bytes - 4) bytes ≡ h.body
body_is signature bytes items h =
    let cut : length bytes - 4 ≡ length h.body = omega (arith, ap (λ (l : List ℕ). length l) h.joined, length-append h.body h.checksum, h.checksum_spelled.size) in
    ap (λ (k : ℕ). take k bytes) cut ∙ ap (λ (l : List ℕ). take (length h.body) l) h.joined ∙ take_at h.body h.checksum (length h.body) refl

checksum_is : (signature : Option ℕ) (bytes : List ℕ) (items : List LogItem) (h : IsFooter signature bytes items) → drop (length bytes - 4) bytes ≡ h.checksum
checksum_is signature bytes items h =
    let cut : length bytes - 4 ≡ length h.body = omega (arith, ap (λ (l : List ℕ). length l) h.joined, length-append h.body h.checksum, h.checksum_spelled.size) in
    ap (λ (k : ℕ). drop k bytes) cut ∙ ap (λ (l : List ℕ). drop (length h.body) l) h.joined ∙ drop_at h.body h.checksum (length h.body) refl

twice : (c x : ℕ) → bit_xor c (bit_xor c x) ≡ x
twice c x = sym (xor_assoc c c x) ∙ ap (λ (z : ℕ). bit_xor z x) (xor_self c) ∙ xor_zero_l x

-- two signatures of one footer are one
pub one_signature : (s t : ℕ) (bytes : List ℕ) (items others : List LogItem) → IsFooter (Some s) bytes items → IsFooter (Some t) bytes others → s ≡ t
one_signature s t bytes items others h k =
    let body : h.body ≡ k.body = sym (body_is (Some s) bytes items h) ∙ body_is (Some t) bytes others k in
    let sum : h.checksum ≡ k.checksum = sym (checksum_is (Some s) bytes items h) ∙ checksum_is (Some t) bytes others k in
    let same : bit_xor (crc32_of h.body) s ≡ bit_xor (crc32_of h.body) t =
    h.checksum_spelled.value ∙ ap (λ (l : List ℕ). from_le_bytes w32 l) sum ∙ sym k.checksum_spelled.value ∙ ap (λ (l : List ℕ). bit_xor (crc32_of l) t) (sym body) in
    sym (twice (crc32_of h.body) s) ∙ ap (λ (z : ℕ). bit_xor (crc32_of h.body) z) same ∙ twice (crc32_of h.body) t
