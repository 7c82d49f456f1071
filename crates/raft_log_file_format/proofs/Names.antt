-- A name's number: that it is found where it is, and that the one that is written is read back.
use Rattle.std.proofs.Common.{◌≡◌, ℕ, zero, suc, ◌+◌, ◌-◌, ◌^◌, ◌<◌, ◌≤◌, Bool, true, false, eqb, nat_lt, cond, List, [], ◌∷◌, ◌++◌, length, get_or, take, drop, replicate, Some, None, Result, Ok, Err, refl, sym, ap, subst, ◌∙◌, inl, inr, arith}
use Rattle.std.specs.Result.{result_ok}
use Rattle.std.specs.Prelude.{IsUtf8}
use Rattle.std.specs.Str.{IsCharBoundary}
use Rattle.std.specs.Str.Parse.{AllDigits, IsNumeral, ParsesUnsigned, digits_value, without_leading_plus}
use Rattle.std.specs.Fmt.{decimal, padded_integral, format_spec, char_count}
use Rattle.std.proofs.Math.Seq.{take-append_seam}
use Rattle.std.proofs.lemmas.List.{append-nil, length-take-le, length-append, length-replicate, get_or-append-add, get_or_append_left, get_or-take}
use Rattle.std.proofs.lemmas.Bool.{cases_Bool, lt-ltb, ltb-true}
use Rattle.std.proofs.lemmas.Str.{IsCharBoundary-after_ascii}
use Rattle.std.proofs.lemmas.Str.Parse.{IsNumeralModel, numerals_by_value, tells_digits, digit_at, digits_value_short, without_leading_plus_none}
use Rattle.std.proofs.lemmas.Option.{same_Some, none-some}
use Rattle.std.proofs.lemmas.Fmt.{decimal_is_IsNumeral, length-decimal-le}
use Rattle.std.specs.Prelude.{codes}
use Rattle.raft_log_record_base.specs.declared.pipe_log.LogQueue.{LogQueue}
use Rattle.raft_log_record_base.specs.declared.pipe_log.LogQueue.TheVariants.{Append, Rewrite}
use Rattle.raft_log_record_base.specs.declared.pipe_log.FileId.{FileId}
use Rattle.raft_log_file_format.specs.Name.{EndsWith, IsNumberText, IsNamed, name_limit, number_text, signed_digits, sixteen_digits, suffix_of, OneQueueAName}

own : IsNumeralModel (AllDigits 10) (digits_value 10)
own = numerals_by_value (AllDigits 10) tells_digits

-- whether a plus stands first or not, the last of sixteen bytes is a digit
last_digit : (b : Bool) (front : List ℕ) → length front ≡ 16 → AllDigits 10 (drop (cond b 1 0) front) → get_or front 15 0 < 128
last_digit true (c ∷ front) long ds =
    let tail_long : length front ≡ 15 = omega (arith, long) in
    let digit = digit_at front 14 ds (omega (arith, tail_long)) in
    omega (arith, digit)
last_digit true [] long ds = absurd (omega (arith, long))
last_digit false front long ds =
    let digit = digit_at front 15 ds (omega (arith, long)) in
    omega (arith, digit)

-- so the sixteen bytes end between two characters
pub numbered_boundary : (name : List ℕ) (n : ℕ) → IsUtf8 name → IsNumberText name n → IsCharBoundary name 16
numbered_boundary name n utf8 numbered =
    let long : length (take 16 name) ≡ 16 = length-take-le 16 name (omega (arith, numbered.longer)) in
    let last = last_digit (eqb (get_or (take 16 name) 0 0) 43) (take 16 name) long numbered.digits.1 in
    let same = get_or-take 16 name 15 0 (omega arith) in
    IsCharBoundary-after_ascii name 15 utf8 (omega (arith, numbered.longer)) (omega (arith, last, same))

drop_no_longer : (b : Bool) (front : List ℕ) → length front ≡ 16 → length (drop (cond b 1 0) front) ≤ 16
drop_no_longer true (c ∷ front) long = omega (arith, long)
drop_no_longer true [] long = omega arith
drop_no_longer false front long = omega (arith, long)

-- a number of sixteen digits has 64 bits
fits : (front : List ℕ) → length front ≡ 16 → AllDigits 10 (without_leading_plus front) → digits_value 10 (without_leading_plus front) < 2 ^ 64
fits front long ds =
    let short = digits_value_short own (without_leading_plus front) 16 ds (drop_no_longer (eqb (get_or front 0 0) 43) front long) in
    omega (arith, short)

-- what `parse` says of the first sixteen bytes is what the name says
pub parsed_number : {E : Type 0} (name : List ℕ) (r : Result ℕ E) → 16 < length name → ParsesUnsigned 64 10 (take 16 name) r
    → (n : ℕ) → (result_ok r ≡ Some n → IsNumberText name n) × (IsNumberText name n → result_ok r ≡ Some n)
parsed_number name (Ok x) longer parsed n =
    ((λ same. record { longer = longer; digits = parsed.0.0; value = sym (same_Some x n same) ∙ parsed.1 }), λ numbered. ap Some (parsed.1 ∙ sym numbered.value))
parsed_number name (Err e) longer parsed n =
    let long : length (take 16 name) ≡ 16 = length-take-le 16 name (omega (arith, longer)) in
    ((λ same. absurd (none-some n same)), λ numbered. absurd (parsed (numbered.digits, fits (take 16 name) long numbered.digits.1)))

-- ---- the name that is written

pub padded_sixteen : (n : ℕ) → padded_integral (format_spec 32 0 4 16 (2 ^ 64 - 1)) false [] (decimal n) ≡ sixteen_digits n
unfolding padded_integral char_count
padded_sixteen n =
    let left : ℕ = 16 - length (decimal n) - 0 - 0 in
    let same : left ≡ 16 - length (decimal n) = omega arith in
    ap (λ (l : List ℕ). replicate left 48 ++ l) (append-nil (decimal n)) ∙ ap (λ (k : ℕ). replicate k 48 ++ decimal n) same

-- zeros in front of a number leave it
zeros : (k n : ℕ) → n < 2 ^ 64 → IsNumeral 10 (replicate k 48 ++ decimal n) × (digits_value 10 (replicate k 48 ++ decimal n) ≡ n)
zeros zero n fit = decimal_is_IsNumeral n fit
zeros (suc k) n fit = let rest = zeros k n fit in ((omega arith, (omega arith, rest.0.1)), rest.1)

sixteen : (n : ℕ) → n < 10 ^ 16 → length (sixteen_digits n) ≡ 16
sixteen n fit =
    let short = length-decimal-le 16 n (omega arith) fit (omega (arith, fit)) in
    omega (arith, short, length-append (replicate (16 - length (decimal n)) 48) (decimal n), length-replicate {A = ℕ} (16 - length (decimal n)) 48)

pub written_number : (suffix : List ℕ) (n : ℕ) → n < 10 ^ 16 → 0 < length suffix → IsNumberText (sixteen_digits n ++ suffix) n
written_number suffix n fit some =
    let digits = zeros (16 - length (decimal n)) n (omega (arith, fit)) in
    let first = digit_at (sixteen_digits n) 0 digits.0.1 digits.0.0 in
    let plain : without_leading_plus (sixteen_digits n) ≡ sixteen_digits n = without_leading_plus_none (sixteen_digits n) (λ plus. absurd (omega (arith, first, plus))) in
    let front : take 16 (sixteen_digits n ++ suffix) ≡ sixteen_digits n = ap (λ (k : ℕ). take k (sixteen_digits n ++ suffix)) (sym (sixteen n fit)) ∙ take-append_seam _ _ in
    let whole = ap without_leading_plus front ∙ plain in
    record {
      longer = omega (arith, sixteen n fit, some, length-append (sixteen_digits n) suffix);
      digits = subst (IsNumeral 10) (sym whole) digits.0;
      value = sym (ap (digits_value 10) whole ∙ digits.1);
    }

-- ---- the name that has a sign

pub padded_signed : (n : ℕ) → padded_integral (format_spec 32 0 5 16 (2 ^ 64 - 1)) false [] (decimal n) ≡ signed_digits n
unfolding padded_integral char_count
padded_signed n =
    let left : ℕ = 16 - length (decimal n) - 1 - 0 in
    let same : left ≡ 15 - length (decimal n) = omega arith in
    ap (λ (l : List ℕ). 43 ∷ (replicate left 48 ++ l)) (append-nil (decimal n)) ∙ ap (λ (k : ℕ). 43 ∷ (replicate k 48 ++ decimal n)) same

fifteen : (n : ℕ) → n < 10 ^ 15 → length (signed_digits n) ≡ 16
fifteen n fit =
    let short = length-decimal-le 15 n (omega arith) fit (omega (arith, fit)) in
    omega (arith, short, length-append (replicate (15 - length (decimal n)) 48) (decimal n), length-replicate {A = ℕ} (15 - length (decimal n)) 48)

-- a sign in front leaves the number
signed_number : (suffix : List ℕ) (n : ℕ) → n < 10 ^ 15 → 0 < length suffix → IsNumberText (signed_digits n ++ suffix) n
signed_number suffix n fit some =
    let digits = zeros (15 - length (decimal n)) n (omega (arith, fit)) in
    let front : take 16 (signed_digits n ++ suffix) ≡ signed_digits n = ap (λ (k : ℕ). take k (signed_digits n ++ suffix)) (sym (fifteen n fit)) ∙ take-append_seam _ _ in
    let whole : without_leading_plus (take 16 (signed_digits n ++ suffix)) ≡ replicate (15 - length (decimal n)) 48 ++ decimal n = ap without_leading_plus front in
    record {
      longer = omega (arith, fifteen n fit, some, length-append (signed_digits n) suffix);
      digits = subst (IsNumeral 10) (sym whole) digits.0;
      value = sym (ap (digits_value 10) whole ∙ digits.1);
    }

-- with a sign, where there is room for one
pub text_signed : (n : ℕ) → n < 10 ^ 15 → number_text true n ≡ signed_digits n
text_signed n fit = ap (λ (b : Bool). cond b (signed_digits n) (sixteen_digits n)) (lt-ltb n (10 ^ 15) fit)

pub text_unsigned : (n : ℕ) → (n < 10 ^ 15 → ⊥) → number_text true n ≡ sixteen_digits n
text_unsigned n over = elim (cases_Bool (nat_lt n (10 ^ 15))) [
  | inl under ↦ absurd (over (ltb-true n (10 ^ 15) under))
  | inr not ↦ ap (λ (b : Bool). cond b (signed_digits n) (sixteen_digits n)) not
]

-- a number that stands in a name is read back, with a sign or without one
pub written_text : (signed : Bool) (suffix : List ℕ) (n : ℕ) → n < 10 ^ 16 → 0 < length suffix → IsNumberText (number_text signed n ++ suffix) n
written_text false suffix n fit some = written_number suffix n fit some
written_text true suffix n fit some = elim (cases_Bool (nat_lt n (10 ^ 15))) [
  | inl under ↦ (let room = ltb-true n (10 ^ 15) under in
      subst (λ (l : List ℕ). IsNumberText (l ++ suffix) n) (sym (text_signed n room)) (signed_number suffix n room some))
  | inr not ↦ subst (λ (l : List ℕ). IsNumberText (l ++ suffix) n) (sym (ap (λ (b : Bool). cond b (signed_digits n) (sixteen_digits n)) not)) (written_number suffix n fit some)
]

-- with a sign and without one they are two
two_signs : (suffix : List ℕ) (m n : ℕ) → m < 10 ^ 15 → n < 10 ^ 16 → number_text true m ++ suffix ≡ sixteen_digits n ++ suffix → ⊥
two_signs suffix m n room fit same =
    let digits = zeros (16 - length (decimal n)) n (omega (arith, fit)) in
    let first = digit_at (sixteen_digits n) 0 digits.0.1 digits.0.0 in
    let there : get_or (sixteen_digits n ++ suffix) 0 0 ≡ 43 = ap (λ (l : List ℕ). get_or l 0 0) (sym same ∙ ap (λ (l : List ℕ). l ++ suffix) (text_signed m room)) in
    let kept = get_or_append_left (sixteen_digits n) suffix 0 0 (omega (arith, sixteen n fit)) in
    omega (arith, first, there, kept)

-- whether there is a sign in front can be seen
pub signs_apart : (a b : Bool) (suffix : List ℕ) (m n : ℕ) → m < name_limit a → n < name_limit b → number_text a m ++ suffix ≡ number_text b n ++ suffix → a ≡ b
signs_apart true true suffix m n room fit same = refl
signs_apart false false suffix m n room fit same = refl
signs_apart true false suffix m n room fit same = absurd (two_signs suffix m n room fit same)
signs_apart false true suffix m n fit room same = absurd (two_signs suffix n m room fit (sym same))

-- ---- names of the two queues

-- the eighth byte from the end is a point in both queues' names, and the last one differs
pub one_queue : (name : List ℕ) → EndsWith (codes ".raftlog") name → EndsWith (codes ".rewrite") name → ⊥
one_queue name (a, append) (b, rewrite) =
    let same : length a ≡ length b = omega (arith, ap length append, ap length rewrite, length-append a (codes ".raftlog"), length-append b (codes ".rewrite")) in
    let letter_g : get_or name (length a + 7) 0 ≡ 103 = ap (λ (l : List ℕ). get_or l (length a + 7) 0) append ∙ get_or-append-add a (codes ".raftlog") 7 0 in
    let letter_e : get_or name (length b + 7) 0 ≡ 101 = ap (λ (l : List ℕ). get_or l (length b + 7) 0) rewrite ∙ get_or-append-add b (codes ".rewrite") 7 0 in
    let one = sym (ap (λ (k : ℕ). get_or name (k + 7) 0) same) ∙ letter_g in
    absurd (omega (arith, one, letter_e))

pub same_queue : OneQueueAName
same_queue name Append Append a b = refl
same_queue name Rewrite Rewrite a b = refl
same_queue name Append Rewrite a b = absurd (one_queue name a b)
same_queue name Rewrite Append a b = absurd (one_queue name b a)

pub one_number : (name : List ℕ) (m n : ℕ) → IsNumberText name m → IsNumberText name n → m ≡ n
one_number name m n a b = a.value ∙ sym b.value

same_file : (f g : FileId) → f.queue ≡ g.queue → f.seq ≡ g.seq → f ≡ g
same_file f g queue seq = ap (λ (q : LogQueue). record f { queue = q }) queue ∙ ap (λ (n : ℕ). record g { seq = n }) seq

named_file : (name : List ℕ) (f : FileId) → IsNamed (suffix_of f.queue) name f.seq → (id : FileId)
    → (Some f ≡ Some id → IsNamed (suffix_of id.queue) name id.seq) × (IsNamed (suffix_of id.queue) name id.seq → Some f ≡ Some id)
named_file name f named id = (
  (λ same. subst (λ (g : FileId). IsNamed (suffix_of g.queue) name g.seq) (same_Some f id same) named),
  λ other. ap Some (same_file f id (same_queue name f.queue id.queue named.1 other.1) (one_number name f.seq id.seq named.0 other.0)),
)

-- the file that is made of a name is the one that is named so
pub file_found : (name : List ℕ) (f : FileId) (q : LogQueue) (seq : ℕ) → f.queue ≡ q → f.seq ≡ seq → IsNamed (suffix_of q) name seq → (id : FileId)
    → (Some f ≡ Some id → IsNamed (suffix_of id.queue) name id.seq) × (IsNamed (suffix_of id.queue) name id.seq → Some f ≡ Some id)
file_found name f q seq queue number named id =
    named_file name f (subst (λ (p : LogQueue). IsNamed (suffix_of p) name f.seq) (sym queue) (subst (λ (n : ℕ). IsNamed (suffix_of q) name n) (sym number) named)) id

pub none_found : (name : List ℕ) → ((n : ℕ) → IsNamed (codes ".raftlog") name n → ⊥) → ((n : ℕ) → IsNamed (codes ".rewrite") name n → ⊥)
    → (id : FileId) → (None ≡ Some id → IsNamed (suffix_of id.queue) name id.seq) × (IsNamed (suffix_of id.queue) name id.seq → None ≡ Some id)
none_found name append rewrite id = ((λ same. absurd (none-some id same)), λ named. absurd (in_queue id.queue id.seq named))
  where
    in_queue : (q : LogQueue) (n : ℕ) → IsNamed (suffix_of q) name n → ⊥
    in_queue Append n named = append n named
    in_queue Rewrite n named = rewrite n named
