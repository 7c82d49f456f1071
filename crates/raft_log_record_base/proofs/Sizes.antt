-- A printed size is read as itself.
use Rattle.std.proofs.Common.{◌≡◌, ℕ, zero, suc, ◌+◌, ◌-◌, ◌*◌, ◌/◌, ◌%◌, ◌^◌, ◌<◌, ◌≤◌, true, false, eqb, ltb, List, [], ◌∷◌, ◌++◌, append_assoc, length, get_or, take, drop, Some, Result, Ok, Err, refl, sym, ap, subst, ◌∙◌, inl, inr, arith, rules, add-one}
use Rattle.std.specs.Prelude.{codes}
use Rattle.std.specs.Char.{is_ascii_digit, is_whitespace}
use Rattle.std.specs.Fmt.{decimal}
use Rattle.std.specs.Str.{all_ascii_digits, encode_utf8_all, drop_trailing_whitespace, IsAscii, IsTrim, trim, trim_start, trim_end}
use Rattle.std.proofs.Math.Seq.{drop-cons}
use Rattle.std.proofs.lemmas.Bool.{cases_Bool, and_parts, eqb-true, lt-ltb}
use Rattle.std.proofs.lemmas.Bool.Decides.{nat_tests}
use Rattle.std.proofs.lemmas.Str.{chars-IsAscii, encodes-IsAscii, IsAscii-append}
use Rattle.std.proofs.lemmas.List.{drop_all, take_all, length-drop, get_or_append_left, get_or-append-add, length-append}
use Rattle.std.proofs.lemmas.Fmt.{digits_decimal, digits_value-decimal, decimal_nonempty, decimal_digit, IsAscii-decimal}
use Rattle.std.proofs.lemmas.Str.Parse.{IsNumeralModel, numerals_by_fold, digit_at}
use Rattle.std.proofs.lemmas.Str.Pattern.{trim_same}
use Rattle.std.specs.Int.{IsInRange}
use Rattle.raft_log_record_base.specs.declared.size.ReadableSize.{ReadableSize}
use Rattle.raft_log_record_base.specs.declared.size.ParseSizeError.{ParseSizeError}
use Rattle.raft_log_record_base.specs.Size.{size_text, number_in, unit_size, size_in, starts_with_digit, GivesSize, ReadsSize}

-- ---- the loop over the digits

pub number_grows : (n : ℕ) (cs : List ℕ) → n ≤ (number_in n cs).0
unfolding number_in
number_grows n [] = omega arith
number_grows n (c ∷ cs) =
    elim (cases_Bool (is_ascii_digit c)) [
      | inl is_digit ↦ rw is_digit (omega (arith, number_grows (n * 10 + (c - 48)) cs))
      | inr not_digit ↦ rw not_digit (omega arith)
    ]

front_is : (i : ℕ) (text : List ℕ) → i < length text → drop i text ≡ get_or text i 0 ∷ drop (i + 1) text
front_is i text lt = rw add-one (drop-cons text i 0 lt)

pub number_goes_on : (n i : ℕ) (text : List ℕ) (total : ℕ × List ℕ) → i < length text → is_ascii_digit (get_or text i 0) ≡ true → number_in n (drop i text) ≡ total
    → number_in (n * 10 + (get_or text i 0 - 48)) (drop (i + 1) text) ≡ total
unfolding number_in
number_goes_on n i text total lt is_digit so_far =
    let one : number_in n (drop i text) ≡ number_in (n * 10 + (get_or text i 0 - 48)) (drop (i + 1) text) = rw (front_is i text lt, is_digit) refl in
    sym one ∙ so_far

pub number_stops : (n i : ℕ) (text : List ℕ) (total : ℕ × List ℕ) → i < length text → is_ascii_digit (get_or text i 0) ≡ false → number_in n (drop i text) ≡ total → total ≡ (n, drop i text)
unfolding number_in
number_stops n i text total lt not_digit so_far =
    let one : number_in n (drop i text) ≡ (n, drop i text) = rw (front_is i text lt, not_digit) refl in
    sym so_far ∙ one

pub number_stops_there : (n i : ℕ) (text : List ℕ) (total : ℕ × List ℕ) → i < length text → is_ascii_digit (get_or text i 0) ≡ false → number_in n (drop i text) ≡ total
    → total ≡ (n, take (length text - i) (drop i text))
number_stops_there n i text total lt not_digit so_far =
    let whole : take (length text - i) (drop i text) ≡ drop i text = take_all (length text - i) (drop i text) (omega (arith, length-drop i text)) in
    number_stops n i text total lt not_digit so_far ∙ ap (λ (l : List ℕ). (n, l)) (sym whole)

-- a digit more makes it no smaller
pub number_over : (n i : ℕ) (text : List ℕ) (total : ℕ × List ℕ) → i < length text → is_ascii_digit (get_or text i 0) ≡ true → number_in n (drop i text) ≡ total
    → n * 10 + (get_or text i 0 - 48) ≤ total.0
number_over n i text total lt is_digit so_far =
    let grown : n * 10 + (get_or text i 0 - 48) ≤ (number_in (n * 10 + (get_or text i 0 - 48)) (drop (i + 1) text)).0 = number_grows (n * 10 + (get_or text i 0 - 48)) (drop (i + 1) text) in
    let P : ℕ × List ℕ → Type 0 = λ t. n * 10 + (get_or text i 0 - 48) ≤ t.0 in
    subst P (number_goes_on n i text total lt is_digit so_far) grown

pub number_done : (n i : ℕ) (text : List ℕ) (total : ℕ × List ℕ) → length text ≤ i → number_in n (drop i text) ≡ total → total ≡ (n, [])
unfolding number_in
number_done n i text total le so_far =
    let one : number_in n (drop i text) ≡ (n, []) = rw (drop_all i text le) refl in
    sym so_far ∙ one

-- ---- what is printed

abbrev read_on : ℕ → List ℕ → ℕ
read_on n [] = n
read_on n (c ∷ cs) = read_on (n * 10 + (c - 48)) cs

own : IsNumeralModel (λ ds. all_ascii_digits ds ≡ true) (read_on 0)
own = numerals_by_fold _ (search rules) read_on (search rules)

number_over_digits : (n : ℕ) (ds rest : List ℕ) → all_ascii_digits ds ≡ true → number_in n (ds ++ rest) ≡ number_in (read_on n ds) rest
unfolding number_in
number_over_digits n [] rest e = refl
number_over_digits n (c ∷ cs) rest e =
    let p = and_parts (is_ascii_digit c) (all_ascii_digits cs) e in
    rw p.0 (number_over_digits (n * 10 + (c - 48)) cs rest p.1)

ascii_nil : IsAscii []
ascii_nil i = omega arith

ascii_cons : (b : ℕ) (bs : List ℕ) → b < 128 → IsAscii bs → IsAscii (b ∷ bs)
ascii_cons b bs low rest zero = low
ascii_cons b bs low rest (suc i) = rest i

power_ascii : (letter : ℕ) → letter < 128 → IsAscii (letter ∷ 105 ∷ 66 ∷ [])
power_ascii letter low = ascii_cons letter (105 ∷ 66 ∷ []) low (ascii_cons 105 (66 ∷ []) (omega arith) (ascii_cons 66 [] (omega arith) ascii_nil))

-- the name of a unit, which no digit begins
record IsUnit (unit : ℕ) (name : List ℕ) : Type 0 where
  pub stops : (m : ℕ) → number_in m name ≡ (m, name)
  pub size : unit_size name ≡ Some unit
  pub nonempty : 0 < length name
  pub last : get_or name (length name - 1) 0 ≡ 66
  pub front : List ℕ
  pub ends : name ≡ front ++ 66 ∷ []
  pub plain : IsAscii name

-- a number and the name of a unit
record IsPrinted (n : ℕ) (text : List ℕ) : Type 0 where
  pub count : ℕ
  pub unit : ℕ
  pub name : List ℕ
  pub parts : text ≡ decimal count ++ name
  pub whole : count * unit ≡ n
  pub fits : count < 2 ^ 64
  pub is_unit : IsUnit unit name

bytes_unit : IsUnit 1 (codes "B")
unfolding number_in unit_size
bytes_unit = record { stops = λ m. refl; size = refl; nonempty = omega arith; last = refl; front = []; ends = refl; plain = ascii_cons 66 [] (omega arith) ascii_nil }

kib_unit : IsUnit (2 ^ 10) (codes "KiB")
unfolding number_in unit_size
kib_unit = record { stops = λ m. refl; size = refl; nonempty = omega arith; last = refl; front = 75 ∷ 105 ∷ []; ends = refl; plain = power_ascii 75 (omega arith) }

mib_unit : IsUnit (2 ^ 20) (codes "MiB")
unfolding number_in unit_size
mib_unit = record { stops = λ m. refl; size = refl; nonempty = omega arith; last = refl; front = 77 ∷ 105 ∷ []; ends = refl; plain = power_ascii 77 (omega arith) }

gib_unit : IsUnit (2 ^ 30) (codes "GiB")
unfolding number_in unit_size
gib_unit = record { stops = λ m. refl; size = refl; nonempty = omega arith; last = refl; front = 71 ∷ 105 ∷ []; ends = refl; plain = power_ascii 71 (omega arith) }

tib_unit : IsUnit (2 ^ 40) (codes "TiB")
unfolding number_in unit_size
tib_unit = record { stops = λ m. refl; size = refl; nonempty = omega arith; last = refl; front = 84 ∷ 105 ∷ []; ends = refl; plain = power_ascii 84 (omega arith) }

pib_unit : IsUnit (2 ^ 50) (codes "PiB")
unfolding number_in unit_size
pib_unit = record { stops = λ m. refl; size = refl; nonempty = omega arith; last = refl; front = 80 ∷ 105 ∷ []; ends = refl; plain = power_ascii 80 (omega arith) }

zero_printed : codes "0KiB" ≡ decimal 0 ++ codes "KiB"
zero_printed = ap (λ (l : List ℕ). l ++ codes "KiB") (sym (decimal_digit 0 (omega arith)))

printed : (n : ℕ) → n < 2 ^ 64 → IsPrinted n (size_text n)
unfolding size_text
printed n lt =
    elim (cases_Bool (eqb n 0)) [
      | inl e ↦ let is : n ≡ 0 = eqb-true _ _ e in rw e (record { count = 0; unit = 2 ^ 10; name = codes "KiB"; parts = zero_printed; whole = omega arith; fits = omega arith; is_unit = kib_unit })
      | inr a ↦ elim (cases_Bool (eqb (n % 2 ^ 50) 0)) [
        | inl e ↦ let is : n % 2 ^ 50 ≡ 0 = eqb-true _ _ e in rw (a, e) (record { count = n / 2 ^ 50; unit = 2 ^ 50; name = codes "PiB"; parts = refl; whole = omega arith; fits = omega arith; is_unit = pib_unit })
        | inr b ↦ elim (cases_Bool (eqb (n % 2 ^ 40) 0)) [
          | inl e ↦ let is : n % 2 ^ 40 ≡ 0 = eqb-true _ _ e in rw (a, b, e) (record { count = n / 2 ^ 40; unit = 2 ^ 40; name = codes "TiB"; parts = refl; whole = omega arith; fits = omega arith; is_unit = tib_unit })
          | inr d ↦ elim (cases_Bool (eqb (n % 2 ^ 30) 0)) [
            | inl e ↦ let is : n % 2 ^ 30 ≡ 0 = eqb-true _ _ e in rw (a, b, d, e) (record { count = n / 2 ^ 30; unit = 2 ^ 30; name = codes "GiB"; parts = refl; whole = omega arith; fits = omega arith; is_unit = gib_unit })
            | inr f ↦ elim (cases_Bool (eqb (n % 2 ^ 20) 0)) [
              | inl e ↦ let is : n % 2 ^ 20 ≡ 0 = eqb-true _ _ e in rw (a, b, d, f, e) (record { count = n / 2 ^ 20; unit = 2 ^ 20; name = codes "MiB"; parts = refl; whole = omega arith; fits = omega arith; is_unit = mib_unit })
              | inr g ↦ elim (cases_Bool (eqb (n % 2 ^ 10) 0)) [
                | inl e ↦ let is : n % 2 ^ 10 ≡ 0 = eqb-true _ _ e in rw (a, b, d, f, g, e) (record { count = n / 2 ^ 10; unit = 2 ^ 10; name = codes "KiB"; parts = refl; whole = omega arith; fits = omega arith; is_unit = kib_unit })
                | inr h ↦ rw (a, b, d, f, g, h) (record { count = n; unit = 1; name = codes "B"; parts = refl; whole = omega arith; fits = lt; is_unit = bytes_unit })
              ]
            ]
          ]
        ]
      ]
    ]

-- ---- what is read of it

starts : (ds rest : List ℕ) → 0 < length ds → all_ascii_digits ds ≡ true → starts_with_digit (ds ++ rest) ≡ true
starts [] rest some e = absurd (omega arith)
starts (c ∷ cs) rest some e = (and_parts (is_ascii_digit c) (all_ascii_digits cs) e).0

read_printed : (n : ℕ) (text : List ℕ) → n < 2 ^ 64 → IsPrinted n text → size_in text ≡ Ok n
unfolding size_in
read_printed n text lt p =
    let ds : List ℕ = decimal p.count in
    let digits : all_ascii_digits ds ≡ true = digits_decimal own p.count p.fits in
    let first : starts_with_digit (ds ++ p.name) ≡ true = starts ds p.name (decimal_nonempty p.count p.fits) digits in
    let number : number_in 0 (ds ++ p.name) ≡ (p.count, p.name)
    = number_over_digits 0 ds p.name digits ∙ ap (λ m. number_in m p.name) (digits_value-decimal own p.count p.fits) ∙ p.is_unit.stops p.count in
    let small : ltb p.count (2 ^ 64) ≡ true = lt-ltb _ _ p.fits in
    let fits : ltb (p.count * p.unit) (2 ^ 64) ≡ true = lt-ltb _ _ (omega (arith, p.whole)) in
    rw (p.parts, first, number, small, p.is_unit.size, fits) (ap (λ m. Ok m) p.whole)

trim_printed : (n : ℕ) (text core : List ℕ) → IsPrinted n text → IsTrim text core → core ≡ text
trim_printed n text core p trimmed =
    let ds : List ℕ = decimal p.count in
    let some : 0 < length ds = decimal_nonempty p.count p.fits in
    let digit : IsInRange 48 57 (get_or ds 0 0) = digit_at ds 0 (own.to ds (digits_decimal own p.count p.fits)) some in
    let first : get_or text 0 0 ≡ get_or ds 0 0 = rw p.parts (get_or_append_left ds p.name 0 0 some) in
    let place : length text - 1 ≡ length ds + (length p.name - 1) = rw p.parts (omega (arith, length-append ds p.name, p.is_unit.nonempty)) in
    let last : get_or text (length text - 1) 0 ≡ 66
    = rw place (ap (λ (l : List ℕ). get_or l (length ds + (length p.name - 1)) 0) p.parts ∙ get_or-append-add ds p.name (length p.name - 1) 0 ∙ p.is_unit.last) in
    trim_same text core trimmed (omega arith, omega arith) (omega arith, omega arith)

abbrev of_size : ℕ → Result ReadableSize ParseSizeError
of_size n = Ok (record { 0 = n })

given : (result : Result ReadableSize ParseSizeError) (n : ℕ) (size : Result ℕ ParseSizeError) → GivesSize result size → size ≡ Ok n → result ≡ of_size n
given (Ok s) n size h e = let same : n ≡ s.0 = cc in ap (λ k. of_size k) (sym same)
given (Err d) n size h e = absurd cc

pub reads_size : (text core : List ℕ) (result : Result ReadableSize ParseSizeError) → IsTrim text core → core ≡ trim text → GivesSize result (size_in core) → ReadsSize text result
reads_size text core result trimmed is h = record {
  exact = subst (λ (l : List ℕ). GivesSize result (size_in l)) is h;
  trimmed = subst (λ (l : List ℕ). IsTrim text l) is trimmed;
  printed = λ n lt e.
      let P : List ℕ → Type 0 = λ t. IsPrinted n t in
      let shape = subst P (sym e) (printed n lt) in
      let same = trim_printed n text core shape trimmed in
      given result n (size_in core) h (ap size_in same ∙ read_printed n text lt shape);
}

-- White space before and behind a printed size: there is none.

ends_solid : (front : List ℕ) (c : ℕ) → is_whitespace c ≡ false → drop_trailing_whitespace (front ++ c ∷ []) ≡ front ++ c ∷ []
ends_solid [] c solid = rw solid refl
ends_solid (x ∷ front) c solid =
    let some : eqb (length (front ++ c ∷ [])) 0 ≡ false = let n = length-append front (c ∷ []) in grind (arith, nat_tests) in
    rw (ends_solid front c solid, some) (elim (cases_Bool (is_whitespace x)) [
      | inl e ↦ rw e refl
      | inr e ↦ rw e refl
    ])

starts_solid : (c : ℕ) (cs : List ℕ) → IsAscii (c ∷ cs) → is_whitespace c ≡ false → trim_start (c ∷ cs) ≡ c ∷ cs
unfolding trim_start
starts_solid c cs ascii solid = rw (chars-IsAscii (c ∷ cs) ascii, solid) (encodes-IsAscii (c ∷ cs) ascii)

stops_solid : (text front : List ℕ) (c : ℕ) → text ≡ front ++ c ∷ [] → IsAscii text → is_whitespace c ≡ false → trim_end text ≡ text
unfolding trim_end
stops_solid text front c is ascii solid =
    ap (λ (l : List ℕ). encode_utf8_all (drop_trailing_whitespace l)) (chars-IsAscii text ascii ∙ is)
    ∙ ap encode_utf8_all (ends_solid front c solid ∙ sym is) ∙ encodes-IsAscii text ascii

digit_is_solid : (c : ℕ) → is_ascii_digit c ≡ true → is_whitespace c ≡ false
digit_is_solid c e = grind (arith, nat_tests)

solid : (ds name front : List ℕ) → 0 < length ds → all_ascii_digits ds ≡ true → IsAscii (ds ++ name) → name ≡ front ++ 66 ∷ [] → trim (ds ++ name) ≡ ds ++ name
solid [] name front some digits ascii ends = absurd (omega arith)
solid (c ∷ cs) name front some digits ascii ends =
    let whole : c ∷ (cs ++ name) ≡ (c ∷ (cs ++ front)) ++ 66 ∷ [] = ap (λ (l : List ℕ). c ∷ l) (ap (λ (l : List ℕ). cs ++ l) ends ∙ sym (append_assoc cs front (66 ∷ []))) in
    let start : trim_start (c ∷ (cs ++ name)) ≡ c ∷ (cs ++ name) = starts_solid c (cs ++ name) ascii (digit_is_solid c (and_parts (is_ascii_digit c) (all_ascii_digits cs) digits).0) in
    ap trim_end start ∙ stops_solid (c ∷ (cs ++ name)) (c ∷ (cs ++ front)) 66 whole ascii refl

-- a printed size, trimmed and read, is the size
pub size_in-size_text : (n : ℕ) → n < 2 ^ 64 → size_in (trim (size_text n)) ≡ Ok n
size_in-size_text n lt =
    let p = printed n lt in
    let ds : List ℕ = decimal p.count in
    let ascii : IsAscii (ds ++ p.name) = IsAscii-append ds p.name (IsAscii-decimal p.count p.fits) p.is_unit.plain in
    let same : trim (ds ++ p.name) ≡ ds ++ p.name = solid ds p.name p.is_unit.front (decimal_nonempty p.count p.fits) (digits_decimal own p.count p.fits) ascii p.is_unit.ends in
    ap (λ (l : List ℕ). size_in (trim l)) p.parts ∙ ap size_in (same ∙ sym p.parts) ∙ read_printed n (size_text n) lt p
