-- Sizes as text: how a number of bytes is printed, and how the text of a size is parsed.
use Rattle.std.specs.Prelude.{◌≡◌, ℕ, ◌+◌, ◌-◌, ◌*◌, ◌/◌, ◌%◌, ◌^◌, ◌<◌, List, [], ◌∷◌, ◌++◌, Option, Some, None, Result, Ok, Err, Bool, false, MatchResult, nat_lt, ◌==◌, ◌&&◌, if◌then◌else◌, codes}
use Rattle.std.specs.Char.{is_ascii_digit}
use Rattle.std.specs.Fmt.{decimal}
use Rattle.std.specs.Str.{IsTrim, trim}
use Rattle.raft_log_record_base.specs.declared.size.ReadableSize.{ReadableSize}
use Rattle.raft_log_record_base.specs.declared.size.ParseSizeError.{ParseSizeError}
use Rattle.raft_log_record_base.specs.declared.size.ParseSizeError.TheVariants.{NoNumber, UnknownUnit, TooLarge}

-- Printing.

-- The size as a whole number of the largest unit that divides it. 0 is printed as 0KiB.
unfoldable pub size_text : ℕ → List ℕ
size_text n =
    if n == 0 then codes "0KiB"
    else (if n % 2 ^ 50 == 0 then decimal (n / 2 ^ 50) ++ codes "PiB"
    else (if n % 2 ^ 40 == 0 then decimal (n / 2 ^ 40) ++ codes "TiB"
    else (if n % 2 ^ 30 == 0 then decimal (n / 2 ^ 30) ++ codes "GiB"
    else (if n % 2 ^ 20 == 0 then decimal (n / 2 ^ 20) ++ codes "MiB"
    else (if n % 2 ^ 10 == 0 then decimal (n / 2 ^ 10) ++ codes "KiB"
    else decimal n ++ codes "B")))))

-- Parsing.

-- Reads the decimal digits at the front of the text. The result is the number whose digits are those of `n` and then
-- these, and the text after these digits.
unfoldable pub number_in : ℕ → List ℕ → ℕ × List ℕ
number_in n [] = (n, [])
number_in n (c ∷ cs) = if is_ascii_digit c then number_in (n * 10 + (c - 48)) cs else (n, c ∷ cs)

-- whether the text begins with a digit
abbrev pub starts_with_digit : List ℕ → Bool
starts_with_digit [] = false
starts_with_digit (c ∷ cs) = is_ascii_digit c

-- the number of bytes in the unit with this letter (K, M, G, T or P), or `None` for any other letter
abbrev pub power_of : ℕ → Option ℕ
power_of letter =
    if letter == 75 then Some (2 ^ 10)
    else (if letter == 77 then Some (2 ^ 20)
    else (if letter == 71 then Some (2 ^ 30)
    else (if letter == 84 then Some (2 ^ 40)
    else (if letter == 80 then Some (2 ^ 50)
    else None))))

-- The number of bytes in the unit with this name, or `None` if there is no such unit. The empty name and B are one
-- byte. K, M, G, T and P may be followed by nothing, B or iB.
unfoldable pub unit_size : List ℕ → Option ℕ
unit_size [] = Some 1
unit_size (a ∷ []) = if a == 66 then Some 1 else power_of a
unit_size (a ∷ b ∷ []) = if b == 66 then power_of a else None
unit_size (a ∷ b ∷ c ∷ []) = if b == 105 && c == 66 then power_of a else None
unit_size (a ∷ b ∷ c ∷ d ∷ ds) = None

-- `n` times the unit; the error `UnknownUnit` if there is no unit, or `TooLarge` if the product is 2 ^ 64 or more
abbrev pub sized : ℕ → Option ℕ → Result ℕ ParseSizeError
sized n None = Err UnknownUnit
sized n (Some unit) = if nat_lt (n * unit) (2 ^ 64) then Ok (n * unit) else Err TooLarge

-- The size that `text` spells, or the first of these faults: no digit at the front, a number of 2 ^ 64 or more, an
-- unknown unit, a size of 2 ^ 64 or more.
unfoldable pub size_in : List ℕ → Result ℕ ParseSizeError
size_in text =
    if starts_with_digit text
    then (if nat_lt (number_in 0 text).0 (2 ^ 64)
    then sized (number_in 0 text).0 (unit_size (number_in 0 text).1) else Err TooLarge)
    else Err NoNumber

-- a call returned the size in `size`, or failed with the fault in `size`
abbrev pub GivesSize : Result ReadableSize ParseSizeError → Result ℕ ParseSizeError → Type 0
GivesSize result size = MatchResult result (λ s. size ≡ Ok s.0) (λ e. size ≡ Err e)

-- A call parsed the size in `text`, ignored the white space at both ends, and returned `result`. If `text` is the
-- printed form of a size below 2 ^ 64, the call returned this size.
pub record ReadsSize (text : List ℕ) (result : Result ReadableSize ParseSizeError) : Type 0 where
  pub exact : GivesSize result (size_in (trim text))
  pub trimmed : IsTrim text (trim text)
  pub printed : (n : ℕ) → n < 2 ^ 64 → text ≡ size_text n → result ≡ Ok (record { 0 = n })
