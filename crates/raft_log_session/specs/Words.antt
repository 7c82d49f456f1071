-- How the line of a session is split into words, numbers and arguments.
use Rattle.std.specs.Prelude.{◌≡◌, ℕ, ◌<◌, ◌^◌, ◌==◌, Bool, List, length, take, drop, bytes_eq, Option, Some, None, if◌then◌else◌}
use Rattle.std.specs.List.{before_first}
use Rattle.std.specs.Str.{IsUtf8}
use Rattle.std.specs.Str.Parse.{IsNumeral, digits_value, without_leading_plus}

-- whether the byte separates two words of a line: only a space does
abbrev pub parts_words : ℕ → Bool
parts_words b = b == 32

-- the word is the number `n` in decimal, perhaps after a plus sign, and it is below 2 ^ 64
pub record IsNumberWord (word : List ℕ) (n : ℕ) : Type 0 where
  pub text : IsUtf8 word
  pub numeral : IsNumeral 10 (without_leading_plus word)
  pub small : digits_value 10 (without_leading_plus word) < 2 ^ 64
  pub value : n ≡ digits_value 10 (without_leading_plus word)

-- the first word of a text, and the text after it
abbrev pub first_word : List ℕ → List ℕ × List ℕ
first_word text = (before_first parts_words text, drop (length (before_first parts_words text)) text)

-- the word right after the bytes `front` (the value of an argument), and the text after this word; `None` if the text
-- doesn't begin with `front`
unfoldable pub argument_at : List ℕ → List ℕ → Option (List ℕ × List ℕ)
argument_at front text =
    if bytes_eq (take (length front) text) front then Some (first_word (drop (length front) text)) else None

-- the text begins with the bytes `front`, then a word that is the number `n`, and then `rest`
abbrev pub BeginsWithNumber : List ℕ → List ℕ → ℕ → List ℕ → Type 0
BeginsWithNumber front text n rest =
    (word : List ℕ) × (argument_at front text ≡ Some (word, rest)) × IsNumberWord word n
