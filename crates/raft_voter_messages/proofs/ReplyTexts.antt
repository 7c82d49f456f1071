-- Hex digits, part by part.
use Rattle.std.proofs.Common.{◌≡◌, ℕ, ◌/◌, ◌%◌, ◌<◌, true, nat_lt, List, [], ◌∷◌, ◌++◌, slice_index, take, drop, refl, sym, ap, ◌∙◌, arith}
use Rattle.std.proofs.lemmas.Bool.Decides.{nat_tests}
use Rattle.std.proofs.lemmas.List.{take-append-drop}
use Rattle.std.proofs.lemmas.Str.Ascii.{IsAscii-nil, IsAscii-cons}
use Rattle.std.specs.List.{list_all}
use Rattle.std.specs.Str.{IsAscii}
use Rattle.hex.proofs.HexLemmas.{IsAscii-encode_with}
use Rattle.hex.specs.Hex.{encode_lower, encode_with, lower_digits}

ascii_by_test : (bs : List ℕ) → list_all (λ b. nat_lt b 128) bs ≡ true → IsAscii bs
ascii_by_test [] h = IsAscii-nil
ascii_by_test (b ∷ bs) h =
    let facts : (b < 128) × (list_all (λ b. nat_lt b 128) bs ≡ true) = grind (arith, nat_tests) in
    IsAscii-cons b bs facts.0 (ascii_by_test bs facts.1)

pub digits_ascii : (bytes : List ℕ) → IsAscii (encode_lower bytes)
digits_ascii bytes = IsAscii-encode_with lower_digits bytes (ascii_by_test lower_digits refl)

pub no_digits : encode_lower [] ≡ []
unfolding encode_with
no_digits = refl

encode_lower-append : (xs ys : List ℕ) → encode_lower (xs ++ ys) ≡ encode_lower xs ++ encode_lower ys
unfolding encode_with
encode_lower-append [] ys = refl
encode_lower-append (b ∷ xs) ys =
    ap (λ more. slice_index lower_digits (b / 16) ∷ slice_index lower_digits (b % 16) ∷ more) (encode_lower-append xs ys)

-- the digits of a list are those of its parts
pub digits_in_parts :
    (all front rest : List ℕ) (n : ℕ) → front ≡ take n all → rest ≡ drop n all → encode_lower front ++ encode_lower rest ≡ encode_lower all
digits_in_parts all front rest n e f =
    sym (encode_lower-append front rest) ∙ ap encode_lower (ap (λ xs. xs ++ rest) e ∙ ap (λ xs. take n all ++ xs) f ∙ take-append-drop n all)
