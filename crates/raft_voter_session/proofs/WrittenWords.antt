-- The words of a written line are read again.
use Rattle.std.proofs.Common.{◌≡◌, ℕ, suc, zero, ◌+◌, ◌/◌, ◌%◌, ◌<◌, ◌^◌, ◌&&◌, ◌∙◌, Bool, true, false, not, nat_lt, nat_le, inl, inr, List, [], ◌∷◌, ◌++◌, length, length-append, drop, Option, Some, codes, append_assoc, refl, sym, ap, arith}
use Rattle.std.proofs.lemmas.Bool.{and_parts, cases_lt}
use Rattle.std.proofs.lemmas.Bool.Decides.{nat_tests}
use Rattle.std.proofs.lemmas.Fmt.{digits_decimal, digits_value-decimal, decimal_nonempty, length-decimal-le}
use Rattle.std.proofs.lemmas.List.{take_at, drop_at}
use Rattle.std.proofs.lemmas.List.Folds.{list_all-append}
use Rattle.std.proofs.lemmas.Str.Parse.{IsNumeralModel, numerals_by_value, tells_all_ascii_digits}
use Rattle.std.specs.Option.{option_map_or}
use Rattle.std.specs.Char.{is_ascii_digit}
use Rattle.std.specs.Fmt.{decimal}
use Rattle.std.specs.List.{after_first, before_first, flat_map, list_all, list_any, position_or_len, slice_index}
use Rattle.std.specs.Str.{all_ascii_digits}
use Rattle.std.specs.Str.Parse.{digits_value}
use Rattle.hex.specs.Hex.{IsBytes, encode_lower, encode_with, lower_digits}
use Rattle.hex.proofs.HexLemmas.{decode_of-encode_lower}
use Rattle.raft_voter_session.specs.Words.{◌>>=◌, data_of, is_colon, is_line_feed, is_lower_hex_digit, is_space, number_at, number_of, value_from, word_at}
use Rattle.raft_voter_session.specs.Requests.{commit_at, entries_at, entry_of, has_plain_word}
use Rattle.raft_voter_session.specs.SessionText.{is_number, is_sent, sent_text}
use Rattle.raft_voter_session.specs.Text.{spaced, spaced_all}
use Rattle.raft_voter_session.proofs.WordLists.{entries_at-empty, entries_at-word}

-- Parts.

-- no byte passes a test
abbrev pub has_none : (ℕ → Bool) → List ℕ → Bool
has_none p text = list_all (λ b. not (p b)) text

-- a text is empty, or its first byte passes a test
abbrev pub is_at : (ℕ → Bool) → List ℕ → Bool
is_at p [] = true
is_at p (b ∷ text) = p b

pub has_none-append : (p : ℕ → Bool) (a b : List ℕ) → has_none p a ≡ true → has_none p b ≡ true → has_none p (a ++ b) ≡ true
has_none-append p a b h k = list_all-append (λ c. not (p c)) a b ∙ rw (h, k) refl

position-append : (p : ℕ → Bool) (a rest : List ℕ) → has_none p a ≡ true → is_at p rest ≡ true → position_or_len p (a ++ rest) ≡ length a
position-append p [] [] h at = refl
position-append p [] (b ∷ rest) h at = rw at refl
position-append p (b ∷ a) rest h at =
    let parts = and_parts (not (p b)) (has_none p a) h in
    let more = position-append p a rest parts.1 at in
    rw parts.0 (omega (arith, more))

pub before_first-append : (p : ℕ → Bool) (a rest : List ℕ) → has_none p a ≡ true → is_at p rest ≡ true → before_first p (a ++ rest) ≡ a
before_first-append p a rest h at = rw (position-append p a rest h at) (take_at a rest (length a) refl)

pub behind_first-append : (p : ℕ → Bool) (a rest : List ℕ) → has_none p a ≡ true → is_at p rest ≡ true
    → drop (length (before_first p (a ++ rest))) (a ++ rest) ≡ rest
behind_first-append p a rest h at = rw (before_first-append p a rest h at) (drop_at a rest (length a) refl)

-- what follows a step that gives a value
pub bind : {A B : Type 0} (o : Option A) (x : A) (f : A → Option B) → o ≡ Some x → (o >>= f) ≡ f x
bind o x f e = rw e refl

-- a word behind a space
pub word_read : (word rest : List ℕ) → has_none is_space word ≡ true → is_at is_space rest ≡ true → word_at (32 ∷ (word ++ rest)) ≡ Some (word, rest)
word_read word rest h at = rw (behind_first-append is_space word rest h at, before_first-append is_space word rest h at) refl

-- Numbers.

decimal_digits : IsNumeralModel (λ ds. all_ascii_digits ds ≡ true) (digits_value 10)
decimal_digits = numerals_by_value (λ ds. all_ascii_digits ds ≡ true) tells_all_ascii_digits

are_digits : (n : ℕ) → n < 2 ^ 64 → all_ascii_digits (decimal n) ≡ true
are_digits n small = digits_decimal decimal_digits n small

digits_have_none : (p : ℕ → Bool) → ((b : ℕ) → is_ascii_digit b ≡ true → not (p b) ≡ true) → (ds : List ℕ) → all_ascii_digits ds ≡ true → has_none p ds ≡ true
digits_have_none p other [] h = refl
digits_have_none p other (d ∷ ds) h =
    let parts = and_parts (is_ascii_digit d) (all_ascii_digits ds) h in
    rw (other d parts.0, digits_have_none p other ds parts.1) refl

digit_is_no_space : (b : ℕ) → is_ascii_digit b ≡ true → not (is_space b) ≡ true
digit_is_no_space b h = grind (arith, nat_tests)

digit_is_no_colon : (b : ℕ) → is_ascii_digit b ≡ true → not (is_colon b) ≡ true
digit_is_no_colon b h = grind (arith, nat_tests)

digit_is_no_line_feed : (b : ℕ) → is_ascii_digit b ≡ true → not (is_line_feed b) ≡ true
digit_is_no_line_feed b h = grind (arith, nat_tests)

no_space_in_number : (n : ℕ) → n < 2 ^ 64 → has_none is_space (decimal n) ≡ true
no_space_in_number n small = digits_have_none is_space digit_is_no_space (decimal n) (are_digits n small)

no_colon_in_number : (n : ℕ) → n < 2 ^ 64 → has_none is_colon (decimal n) ≡ true
no_colon_in_number n small = digits_have_none is_colon digit_is_no_colon (decimal n) (are_digits n small)

pub no_line_feed_in_number : (n : ℕ) → n < 2 ^ 64 → has_none is_line_feed (spaced n) ≡ true
unfolding spaced
no_line_feed_in_number n small = digits_have_none is_line_feed digit_is_no_line_feed (decimal n) (are_digits n small)

is_small : (n : ℕ) → is_number n ≡ true → n < 2 ^ 64
is_small n h = grind (arith, nat_tests)

number_of_decimal : (n : ℕ) → n < 2 ^ 64 → number_of (decimal n) ≡ Some n
unfolding value_from
number_of_decimal n small =
    let some : nat_lt 0 (length (decimal n)) ≡ true = let long = decimal_nonempty n small in grind (arith, nat_tests) in
    let few : nat_le (length (decimal n)) 20 ≡ true = let short = length-decimal-le 20 n (omega arith) (omega arith) small in grind (arith, nat_tests) in
    let value : digits_value 10 (decimal n) ≡ n = digits_value-decimal decimal_digits n small in
    let fits : nat_lt n (2 ^ 64) ≡ true = grind (arith, nat_tests) in
    rw (some, few, are_digits n small, value, fits) refl

number_read : (n : ℕ) (rest : List ℕ) → n < 2 ^ 64 → is_at is_space rest ≡ true → number_at (spaced n ++ rest) ≡ Some (n, rest)
unfolding number_at spaced
number_read n rest small at =
    bind (word_at (32 ∷ (decimal n ++ rest))) (decimal n, rest) (λ word. number_of word.0 >>= (λ m. Some (m, word.1)))
    (word_read (decimal n) rest (no_space_in_number n small) at)
    ∙ bind (number_of (decimal n)) n (λ m. Some (m, rest)) (number_of_decimal n small)

pub at_numbers : (ns rest : List ℕ) → is_at is_space rest ≡ true → is_at is_space (spaced_all ns ++ rest) ≡ true
unfolding spaced
at_numbers [] rest at = at
at_numbers (n ∷ ns) rest at = refl

-- the first of numbers is read, and the others are left
pub first_read : (n : ℕ) (ns rest : List ℕ) → list_all is_number (n ∷ ns) ≡ true → is_at is_space rest ≡ true
    → number_at (spaced_all (n ∷ ns) ++ rest) ≡ Some (n, spaced_all ns ++ rest)
first_read n ns rest h at =
    let parts = and_parts (is_number n) (list_all is_number ns) h in
    ap number_at (append_assoc (spaced n) (spaced_all ns) rest) ∙ number_read n (spaced_all ns ++ rest) (is_small n parts.0) (at_numbers ns rest at)

pub others_fit : (n : ℕ) (ns : List ℕ) → list_all is_number (n ∷ ns) ≡ true → list_all is_number ns ≡ true
others_fit n ns h = (and_parts (is_number n) (list_all is_number ns) h).1

-- Entries.

-- the digits of all numbers below this one are lower case
abbrev all_lower : ℕ → Bool
all_lower zero = true
all_lower (suc n) = is_lower_hex_digit (slice_index lower_digits n) && all_lower n

lower_at : (n k : ℕ) → all_lower n ≡ true → k < n → is_lower_hex_digit (slice_index lower_digits k) ≡ true
lower_at zero k h below = absurd (omega arith)
lower_at (suc n) k h below =
    let parts = and_parts (is_lower_hex_digit (slice_index lower_digits n)) (all_lower n) h in
    elim (cases_lt k n) [
      | inl less ↦ lower_at n k parts.1 less
      | inr top ↦ let e : k ≡ n = omega arith in rw e parts.0
    ]

digit_is_lower : (d : ℕ) → d < 16 → is_lower_hex_digit (slice_index lower_digits d) ≡ true
digit_is_lower d small = lower_at 16 d refl small

all_digits_lower : (bytes : List ℕ) → list_all (λ b. nat_lt b 256) bytes ≡ true → list_all is_lower_hex_digit (encode_lower bytes) ≡ true
unfolding encode_with
all_digits_lower [] h = refl
all_digits_lower (b ∷ bytes) h =
    let parts = and_parts (nat_lt b 256) (list_all (λ c. nat_lt c 256) bytes) h in
    let small : b < 256 = grind (arith, nat_tests) in
    rw (digit_is_lower (b / 16) (omega arith), digit_is_lower (b % 16) (omega arith), all_digits_lower bytes parts.1) refl

lower_have_none : (p : ℕ → Bool) → ((b : ℕ) → is_lower_hex_digit b ≡ true → not (p b) ≡ true) → (ds : List ℕ) → list_all is_lower_hex_digit ds ≡ true → has_none p ds ≡ true
lower_have_none p other [] h = refl
lower_have_none p other (d ∷ ds) h =
    let parts = and_parts (is_lower_hex_digit d) (list_all is_lower_hex_digit ds) h in
    rw (other d parts.0, lower_have_none p other ds parts.1) refl

lower_is_no_space : (b : ℕ) → is_lower_hex_digit b ≡ true → not (is_space b) ≡ true
lower_is_no_space b h = grind (arith, nat_tests)

lower_is_no_line_feed : (b : ℕ) → is_lower_hex_digit b ≡ true → not (is_line_feed b) ≡ true
lower_is_no_line_feed b h = grind (arith, nat_tests)

are_bytes : (bytes : List ℕ) → list_all (λ b. nat_lt b 256) bytes ≡ true → IsBytes bytes
are_bytes [] h zero = omega arith
are_bytes [] h (suc i) = omega arith
are_bytes (b ∷ bytes) h zero = let parts = and_parts (nat_lt b 256) (list_all (λ c. nat_lt c 256) bytes) h in grind (arith, nat_tests)
are_bytes (b ∷ bytes) h (suc i) = are_bytes bytes (and_parts (nat_lt b 256) (list_all (λ c. nat_lt c 256) bytes) h).1 i

data_read : (bytes : List ℕ) → list_all (λ b. nat_lt b 256) bytes ≡ true → data_of (encode_lower bytes) ≡ Some bytes
data_read bytes h = rw (all_digits_lower bytes h, decode_of-encode_lower bytes (are_bytes bytes h)) refl

-- the word of an entry, without its space
abbrev sent_word : ℕ × List ℕ → List ℕ
sent_word e = decimal e.0 ++ 58 ∷ encode_lower e.1

after_first-append : (p : ℕ → Bool) (a : List ℕ) (b : ℕ) (rest : List ℕ) → has_none p a ≡ true → p b ≡ true → after_first p (a ++ b ∷ rest) ≡ rest
after_first-append p a b rest h at =
    let place = position-append p a (b ∷ rest) h at in
    rw place (ap (drop (length a + 1)) (sym (append_assoc a (b ∷ []) rest)) ∙ drop_at (a ++ b ∷ []) rest (length a + 1) (omega (arith, length-append a (b ∷ []))))

entry_read : (e : ℕ × List ℕ) → is_sent e ≡ true → entry_of (sent_word e) ≡ Some e
unfolding entry_of
entry_read e h =
    let parts = and_parts (is_number e.0) (list_all (λ b. nat_lt b 256) e.1) h in
    let small = is_small e.0 parts.0 in
    let none = no_colon_in_number e.0 small in
    let place = position-append is_colon (decimal e.0) (58 ∷ encode_lower e.1) none refl in
    let within : nat_lt (position_or_len is_colon (sent_word e)) (length (sent_word e)) ≡ true =
    rw place (let size = length-append (decimal e.0) (58 ∷ encode_lower e.1) in grind (arith, nat_tests)) in
    let term : number_of (before_first is_colon (sent_word e)) ≡ Some e.0 =
    ap number_of (before_first-append is_colon (decimal e.0) (58 ∷ encode_lower e.1) none refl) ∙ number_of_decimal e.0 small in
    let bytes : data_of (after_first is_colon (sent_word e)) ≡ Some e.1 =
    ap data_of (after_first-append is_colon (decimal e.0) 58 (encode_lower e.1) none refl) ∙ data_read e.1 parts.1 in
    rw (within, term, bytes) refl

no_space_in_sent : (e : ℕ × List ℕ) → is_sent e ≡ true → has_none is_space (sent_word e) ≡ true
no_space_in_sent e h =
    let parts = and_parts (is_number e.0) (list_all (λ b. nat_lt b 256) e.1) h in
    has_none-append is_space (decimal e.0) (58 ∷ encode_lower e.1) (no_space_in_number e.0 (is_small e.0 parts.0))
    (lower_have_none is_space lower_is_no_space (encode_lower e.1) (all_digits_lower e.1 parts.1))

sent_spelled : (e : ℕ × List ℕ) → sent_text e ≡ 32 ∷ sent_word e
unfolding spaced
sent_spelled e = append_assoc (spaced e.0) (codes ":") (encode_lower e.1)

pub at_sent : (es : List (ℕ × List ℕ)) → is_at is_space (flat_map sent_text es) ≡ true
unfolding spaced
at_sent [] = refl
at_sent (e ∷ es) = refl

pub sent_read : (es : List (ℕ × List ℕ)) → list_all is_sent es ≡ true → entries_at (flat_map sent_text es) ≡ Some es
sent_read [] h = entries_at-empty [] refl
sent_read (e ∷ es) h =
    let parts = and_parts (is_sent e) (list_all is_sent es) h in
    let rest = flat_map sent_text es in
    ap (λ text. entries_at (text ++ rest)) (sent_spelled e)
    ∙ entries_at-word (32 ∷ (sent_word e ++ rest)) (sent_word e) rest (word_read (sent_word e) rest (no_space_in_sent e parts.0) (at_sent es))
    ∙ bind (entry_of (sent_word e)) e (λ f. entries_at rest >>= (λ fs. Some (f ∷ fs))) (entry_read e parts.0)
    ∙ bind (entries_at rest) es (λ fs. Some (e ∷ fs)) (sent_read es parts.1)

pub no_line_feed_in_sent : (es : List (ℕ × List ℕ)) → list_all is_sent es ≡ true → has_none is_line_feed (flat_map sent_text es) ≡ true
no_line_feed_in_sent [] h = refl
no_line_feed_in_sent (e ∷ es) h =
    let parts = and_parts (is_sent e) (list_all is_sent es) h in
    let own = and_parts (is_number e.0) (list_all (λ b. nat_lt b 256) e.1) parts.0 in
    let digits = lower_have_none is_line_feed lower_is_no_line_feed (encode_lower e.1) (all_digits_lower e.1 own.1) in
    has_none-append is_line_feed (sent_text e) (flat_map sent_text es)
    (has_none-append is_line_feed (spaced e.0 ++ codes ":") (encode_lower e.1)
    (has_none-append is_line_feed (spaced e.0) (codes ":") (no_line_feed_in_number e.0 (is_small e.0 own.0)) refl) digits)
    (no_line_feed_in_sent es parts.1)

pub no_line_feed_in_numbers : (ns : List ℕ) → list_all is_number ns ≡ true → has_none is_line_feed (spaced_all ns) ≡ true
no_line_feed_in_numbers [] h = refl
no_line_feed_in_numbers (n ∷ ns) h =
    let parts = and_parts (is_number n) (list_all is_number ns) h in
    has_none-append is_line_feed (spaced n) (spaced_all ns) (no_line_feed_in_number n (is_small n parts.0)) (no_line_feed_in_numbers ns parts.1)

-- The commit.

no_colon : (word : List ℕ) → has_none is_colon word ≡ true → list_any is_colon word ≡ false
no_colon [] h = refl
no_colon (b ∷ word) h =
    let parts = and_parts (not (is_colon b)) (has_none is_colon word) h in
    let other : is_colon b ≡ false = grind (arith, nat_tests) in
    rw (other, no_colon word parts.1) refl

pub commit_read : (commit : ℕ) (rest : List ℕ) → is_number commit ≡ true → is_at is_space rest ≡ true
    → commit_at (spaced_all (commit ∷ []) ++ rest) ≡ Some (commit, rest)
unfolding commit_at spaced
commit_read commit rest h at =
    let small = is_small commit h in
    let word : word_at (32 ∷ (decimal commit ++ rest)) ≡ Some (decimal commit, rest) = word_read (decimal commit) rest (no_space_in_number commit small) at in
    let plain : has_plain_word (spaced commit ++ rest) ≡ true =
    ap (λ (o : Option (List ℕ × List ℕ)). option_map_or (λ word. not (list_any is_colon word.0)) o false) word ∙ rw (no_colon (decimal commit) (no_colon_in_number commit small)) refl in
    ap commit_at (append_assoc (spaced commit) [] rest) ∙ rw plain (number_read commit rest small at)
