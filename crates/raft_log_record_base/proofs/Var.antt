-- The reader of numbers of variable length reads their grammar, and refuses exactly where it should.
use Rattle.std.proofs.Common.{◌≡◌, ℕ, ℤ, pos, negsuc, zero, suc, ◌+◌, ◌*◌, ◌/◌, ◌%◌, ◌^◌, ◌<◌, ◌≤◌, ltb, List, [], ◌∷◌, ◌++◌, length, Result, Ok, Err, refl, sym, ap, subst, ◌∙◌, ◌↔◌, inl, inr, arith, ◌-◌, get_or, take, drop}
use Rattle.std.proofs.Math.Nat.{pow-suc}
use Rattle.std.proofs.lemmas.List.{take_all}
use Rattle.std.proofs.lemmas.Bool.{ltb-true, ltb-false, lt-ltb, le-ltb, cases_lt}
use Rattle.std.specs.declared.io.ErrorKind.TheVariants.{UnexpectedEof, InvalidData}
use Rattle.raft_log_record_base.specs.declared.codec.error.Error.{Error}
use Rattle.raft_log_record_base.specs.declared.codec.error.Error.TheVariants.{Io}
use Rattle.raft_log_record_base.specs.Grammar.{IsReader, ◌>>=◌, ReadsAs}
use Rattle.raft_log_record_base.specs.Number.{IsBase128, IsVarU64, IsVarI64, zigzag, from_zigzag, var_within, var_u64_at, var_i64_at, AllGoOn, EndsFirst, RunsOver, IsShort, IsInvalid}
use Rattle.raft_log_record_base.proofs.Grammar.{ok_is, bind_ok, chosen, is_mapped}

-- a byte with the top bit before a number
pub goes_on : (b : ℕ) (text : List ℕ) (high n : ℕ) → 128 ≤ b → n ≡ b % 128 + 128 * high → IsBase128 text high → IsBase128 (b ∷ text) n
goes_on b [] high n le is h = absurd h
goes_on b (c ∷ bs) high n le is h = (le, high, is, h)

-- ---- what is read is spelled so

record Taken (left : ℕ) (bytes : List ℕ) (y : ℕ × List ℕ) : Type 0 where
  pub text : List ℕ
  pub digits : IsBase128 text y.0
  pub short : length text ≤ left + 1
  pub below : y.0 < 2 * 128 ^ left
  pub parts : bytes ≡ text ++ y.1

last_taken : (left b : ℕ) (bs : List ℕ) (y : ℕ × List ℕ) → b < 128 → b < 2 * 128 ^ left → (b, bs) ≡ y → Taken left (b ∷ bs) y
last_taken left b bs y small below same = record {
  text = b ∷ [];
  digits = (small, sym (ap (λ (q : ℕ × List ℕ). q.0) same));
  short = omega arith;
  below = rw (← same) below;
  parts = ap (λ (q : ℕ × List ℕ). b ∷ q.1) same;
}

pub power_grows : (left : ℕ) → 128 ^ suc left ≡ 128 * 128 ^ left
power_grows left = pow-suc 128 left ∙ omega arith

pub power_pos : (left : ℕ) → 0 < 128 ^ left
power_pos zero = omega arith
power_pos (suc left) = omega (arith, power_grows left, power_pos left)

more_taken : (left b : ℕ) (bs : List ℕ) (x y : ℕ × List ℕ) → 128 ≤ b → Taken left bs x → (b % 128 + 128 * x.0, x.1) ≡ y → Taken (suc left) (b ∷ bs) y
more_taken left b bs x y le t same =
    let value : b % 128 + 128 * x.0 ≡ y.0 = ap (λ (q : ℕ × List ℕ). q.0) same in
    record {
      text = b ∷ t.text;
      digits = goes_on b t.text x.0 y.0 le (sym value) t.digits;
      short = omega (arith, t.short);
      below = omega (arith, t.below, power_grows left, value);
      parts = ap (λ (l : List ℕ). b ∷ l) t.parts ∙ ap (λ (q : ℕ × List ℕ). b ∷ (t.text ++ q.1)) same;
    }

taken : (left : ℕ) (bytes : List ℕ) (y : ℕ × List ℕ) → var_within left bytes ≡ Ok y → Taken left bytes y
unfolding var_within
taken zero [] y e = absurd cc
taken (suc left) [] y e = absurd cc
taken zero (b ∷ bs) y e =
    elim (chosen (ltb b 2) (Ok (b, bs)) (Err (Io InvalidData)) (Ok y) e) [
      | inl p ↦ let small : b < 2 = ltb-true _ _ p.0 in last_taken zero b bs y (omega arith) (omega arith) (ok_is {E = Error} (b, bs) y p.1)
      | inr p ↦ absurd cc
    ]
taken (suc left) (b ∷ bs) y e =
    elim (chosen (ltb b 128) (Ok (b, bs)) (var_within left bs >>= λ x. Ok (b % 128 + 128 * x.0, x.1)) (Ok y) e) [
      | inl p ↦ let small : b < 128 = ltb-true _ _ p.0 in last_taken (suc left) b bs y small (omega (arith, power_grows left, power_pos left)) (ok_is {E = Error} (b, bs) y p.1)
      | inr p ↦
          let le : 128 ≤ b = ltb-false _ _ p.0 in
          let a = bind_ok (var_within left bs) (λ (x : ℕ × List ℕ). Ok (b % 128 + 128 * x.0, x.1)) y p.1 in
          more_taken left b bs a.0 y le (taken left bs a.0 a.1) (ok_is {E = Error} (b % 128 + 128 * a.0.0, a.0.1) y a.2)
    ]

-- ---- what is spelled so is read

again_within : (left : ℕ) (text rest : List ℕ) (n : ℕ) → IsBase128 text n → length text ≤ left + 1 → n < 2 * 128 ^ left → var_within left (text ++ rest) ≡ Ok (n, rest)
unfolding var_within
again_within left [] rest n h short below = absurd h
again_within zero (b ∷ []) rest n h short below = rw (lt-ltb b 2 (omega (arith, h.1)), h.1) refl
again_within zero (b ∷ c ∷ bs) rest n h short below = absurd (omega arith)
again_within (suc left) (b ∷ []) rest n h short below = rw (lt-ltb b 128 h.0, h.1) refl
again_within (suc left) (b ∷ c ∷ bs) rest n h short below =
    let one : var_within left ((c ∷ bs) ++ rest) ≡ Ok (h.1, rest) = again_within left (c ∷ bs) rest h.1 h.3 (omega arith) (omega (arith, h.2, power_grows left)) in
    rw (le-ltb b 128 h.0, one, ← h.2) refl

pub is_var_u64 : IsReader var_u64_at IsVarU64
unfolding var_u64_at
is_var_u64 = record {
  takes = λ bytes y e. let t = taken 9 bytes y e in (t.text, record { digits = t.digits; short = t.short; fits = t.below }, t.parts);
  again = λ text rest n p. again_within 9 text rest n p.digits p.short p.fits;
}

-- ---- signed numbers

from_zigzag-zigzag : (v : ℤ) → from_zigzag (zigzag v) ≡ v
from_zigzag-zigzag (pos n) =
    let even : 2 * n % 2 ≡ 0 = omega arith in
    let half : 2 * n / 2 ≡ n = omega arith in
    rw (even, half) refl
from_zigzag-zigzag (negsuc n) =
    let odd : (2 * n + 1) % 2 ≡ 1 = omega arith in
    let half : (2 * n + 1) / 2 ≡ n = omega arith in
    rw (odd, half) refl

zigzag-from_zigzag : (n : ℕ) → zigzag (from_zigzag n) ≡ n
zigzag-from_zigzag n =
    elim (cases_lt (n % 2) 1) [
      | inl lt ↦ let even : n % 2 ≡ 0 = omega arith in rw even (omega arith)
      | inr le ↦ let odd : n % 2 ≡ 1 = omega arith in rw odd (omega arith)
    ]

pub is_var_i64 : IsReader var_i64_at IsVarI64
unfolding var_i64_at
is_var_i64 =
    let h = is_mapped from_zigzag is_var_u64 in
    record {
      takes = λ bytes y e.
          let t = h.takes bytes y e in
          let same : t.1.0 ≡ zigzag y.0 = sym (ap zigzag t.1.2 ∙ zigzag-from_zigzag t.1.0) in
          let P : ℕ → Type 0 = λ n. IsVarU64 t.0 n in
          (t.0, subst P same t.1.1, t.2);
      again = λ text rest v p. h.again text rest v (zigzag v, p, sym (from_zigzag-zigzag v));
    }

-- ---- refusals

abbrev failed : Error → Result (ℕ × List ℕ) Error
failed e = Err e

passed_on : (e : Error) (b : ℕ) (read : Result (ℕ × List ℕ) Error) → (read >>= λ x. Ok (b % 128 + 128 * x.0, x.1)) ≡ failed e → read ≡ failed e
passed_on e b (Ok x) h = absurd cc
passed_on e b (Err d) h = h

invalid_is_no_end : failed (Io UnexpectedEof) ≡ failed (Io InvalidData) → ⊥
invalid_is_no_end h = cc

pub short_ends : (left : ℕ) (bytes : List ℕ) → var_within left bytes ≡ Err (Io UnexpectedEof) → AllGoOn bytes × (length bytes ≤ left)
unfolding var_within
short_ends left [] e = (tt, omega arith)
short_ends zero (b ∷ bs) e =
    elim (chosen (ltb b 2) (Ok (b, bs)) (Err (Io InvalidData)) (failed (Io UnexpectedEof)) e) [
      | inl p ↦ absurd cc
      | inr p ↦ absurd (invalid_is_no_end (sym p.1))
    ]
short_ends (suc left) (b ∷ bs) e =
    elim (chosen (ltb b 128) (Ok (b, bs)) (var_within left bs >>= λ x. Ok (b % 128 + 128 * x.0, x.1)) (failed (Io UnexpectedEof)) e) [
      | inl p ↦ absurd cc
      | inr p ↦ let r = short_ends left bs (passed_on (Io UnexpectedEof) b (var_within left bs) p.1) in ((ltb-false _ _ p.0, r.0), omega (arith, r.1))
    ]

pub ends_short : (left : ℕ) (bytes : List ℕ) → AllGoOn bytes → length bytes ≤ left → var_within left bytes ≡ Err (Io UnexpectedEof)
unfolding var_within
ends_short zero [] g le = refl
ends_short (suc left) [] g le = refl
ends_short zero (b ∷ bs) g le = absurd (omega arith)
ends_short (suc left) (b ∷ bs) g le =
    let one : var_within left bs ≡ Err (Io UnexpectedEof) = ends_short left bs g.1 (omega arith) in
    rw (le-ltb b 128 g.0, one) refl

-- the parts of RunsOver, with any number of bytes before the last
pub record Over (left : ℕ) (bytes : List ℕ) : Type 0 where
  pub front : List ℕ
  pub tenth : ℕ
  pub rest : List ℕ
  pub parts : bytes ≡ front ++ tenth ∷ rest
  pub size : length front ≡ left
  pub go_on : AllGoOn front
  pub above : 1 < tenth

pub invalid_over : (left : ℕ) (bytes : List ℕ) → var_within left bytes ≡ Err (Io InvalidData) → Over left bytes
unfolding var_within
invalid_over zero [] e = absurd (invalid_is_no_end e)
invalid_over (suc left) [] e = absurd (invalid_is_no_end e)
invalid_over zero (b ∷ bs) e =
    elim (chosen (ltb b 2) (Ok (b, bs)) (Err (Io InvalidData)) (failed (Io InvalidData)) e) [
      | inl p ↦ absurd cc
      | inr p ↦ record { front = []; tenth = b; rest = bs; parts = refl; size = refl; go_on = tt; above = ltb-false _ _ p.0 }
    ]
invalid_over (suc left) (b ∷ bs) e =
    elim (chosen (ltb b 128) (Ok (b, bs)) (var_within left bs >>= λ x. Ok (b % 128 + 128 * x.0, x.1)) (failed (Io InvalidData)) e) [
      | inl p ↦ absurd cc
      | inr p ↦
          let o = invalid_over left bs (passed_on (Io InvalidData) b (var_within left bs) p.1) in
          record { front = b ∷ o.front; tenth = o.tenth; rest = o.rest; parts = ap (λ (l : List ℕ). b ∷ l) o.parts; size = omega (arith, o.size); go_on = (ltb-false _ _ p.0, o.go_on); above = o.above }
    ]

pub over_invalid : (left : ℕ) (front : List ℕ) (tenth : ℕ) (rest : List ℕ) → length front ≡ left → AllGoOn front → 1 < tenth → var_within left (front ++ tenth ∷ rest) ≡ Err (Io InvalidData)
unfolding var_within
over_invalid zero [] tenth rest size g above = rw (le-ltb tenth 2 above) refl
over_invalid (suc left) [] tenth rest size g above = absurd (omega arith)
over_invalid zero (b ∷ bs) tenth rest size g above = absurd (omega arith)
over_invalid (suc left) (b ∷ bs) tenth rest size g above =
    let one : var_within left (bs ++ tenth ∷ rest) ≡ Err (Io InvalidData) = over_invalid left bs tenth rest (omega arith) g.1 above in
    rw (le-ltb b 128 g.0, one) refl

pub var_short : (bytes : List ℕ) → (var_u64_at bytes ≡ Err (Io UnexpectedEof)) ↔ EndsFirst bytes
unfolding var_u64_at
var_short bytes = (short_ends 9 bytes, λ h. ends_short 9 bytes h.0 h.1)

pub var_invalid : (bytes : List ℕ) → (var_u64_at bytes ≡ Err (Io InvalidData)) ↔ RunsOver bytes
unfolding var_u64_at
var_invalid bytes = (
  λ e. let o = invalid_over 9 bytes e in (o.front, o.tenth, o.rest, o.parts, o.size, o.go_on, o.above),
  λ h. ap (λ (l : List ℕ). var_within 9 l) h.3 ∙ over_invalid 9 h.0 h.1 h.2 h.4 h.5 h.6,
)

abbrev answered : ℕ → Result ℕ Error
answered n = Ok n

abbrev refused : Error → Result ℕ Error
refused e = Err e

same_refusal : (d e : Error) → failed d ≡ failed e → refused d ≡ refused e
same_refusal d e h = cc

same_failure : (d e : Error) → refused d ≡ refused e → failed d ≡ failed e
same_failure d e h = cc

no_refusal : (n : ℕ) (e : Error) → answered n ≡ refused e → ⊥
no_refusal n e h = cc

no_failure : (y : ℕ × List ℕ) (e : Error) (read : Result (ℕ × List ℕ) Error) → read ≡ Ok y → read ≡ failed e → ⊥
no_failure y e read h k = let both = sym h ∙ k in cc

-- what a decoder of such numbers answers, where it answers and leaves what the reading gives
pub short_exactly : (result : Result ℕ Error) (old new : List ℕ) → ReadsAs result old new (var_u64_at old) → IsShort result ↔ EndsFirst old
short_exactly (Ok n) old new h =
    (λ e. absurd (no_refusal n (Io UnexpectedEof) e), λ f. absurd (no_failure (n, new) (Io UnexpectedEof) (var_u64_at old) h ((var_short old).1 f)))
short_exactly (Err d) old new h =
    (λ e. (var_short old).0 (h.0 ∙ same_failure d (Io UnexpectedEof) e), λ f. same_refusal d (Io UnexpectedEof) (sym h.0 ∙ (var_short old).1 f))

pub invalid_exactly : (result : Result ℕ Error) (old new : List ℕ) → ReadsAs result old new (var_u64_at old) → IsInvalid result ↔ RunsOver old
invalid_exactly (Ok n) old new h =
    (λ e. absurd (no_refusal n (Io InvalidData) e), λ f. absurd (no_failure (n, new) (Io InvalidData) (var_u64_at old) h ((var_invalid old).1 f)))
invalid_exactly (Err d) old new h =
    (λ e. (var_invalid old).0 (h.0 ∙ same_failure d (Io InvalidData) e), λ f. same_refusal d (Io InvalidData) (sym h.0 ∙ (var_invalid old).1 f))

-- a byte below 128 is a whole number
pub var_one : (bytes : List ℕ) → 1 ≤ length bytes → get_or bytes 0 0 < 128 → var_u64_at bytes ≡ Ok (get_or bytes 0 0, take (length bytes - 1) (drop 1 bytes))
unfolding var_u64_at var_within
var_one [] some lt = absurd (omega arith)
var_one (b ∷ bs) some lt =
    let rest : take (length (b ∷ bs) - 1) bs ≡ bs = take_all (length (b ∷ bs) - 1) bs (omega arith) in
    rw (lt-ltb b 128 lt) (ap (λ (l : List ℕ). Ok (b, l)) (sym rest))
