-- The words of a session's line: numbers in decimal digits, and bytes in hex digits.
use Rattle.std.specs.Prelude.{ℕ, ◌^◌, ◌==◌, ◌&&◌, ◌||◌, Bool, nat_le, nat_lt, List, [], ◌∷◌, length, drop}
use Rattle.std.specs.Prelude.{Option, Some, None, if◌then◌else◌}
use Rattle.std.specs.List.{before_first, list_all, slice_split}
use Rattle.std.specs.Result.{result_ok}
use Rattle.std.specs.Str.{all_ascii_digits, is_utf8}
use Rattle.std.specs.Str.Parse.{digits_value_after}
use Rattle.hex.specs.Hex.{decode_of}

-- as Rust's `?`: the next step gets the value, and `None` stays `None`
infixl 10 ◌>>=◌
abbrev pub ◌>>=◌ : {A B : Type 0} → Option A → (A → Option B) → Option B
None >>= f = None
Some x >>= f = f x

-- the value `x` if no text is left, otherwise `None`
abbrev pub ends : {A : Type 0} → List ℕ → A → Option A
ends [] x = Some x
ends (b ∷ text) x = None

-- The value of a number whose first digits have the value `n`, and whose other digits are `digits`. `None` if one of
-- `digits` isn't a decimal digit, or if the value isn't below 2^64.
unfoldable pub value_from : ℕ → List ℕ → Option ℕ
value_from n digits =
    if all_ascii_digits digits && nat_lt (digits_value_after 10 n digits) (2 ^ 64)
    then Some (digits_value_after 10 n digits)
    else None

-- the value of a word of one to twenty digits; `None` for any other word, or if the value isn't below 2^64
abbrev pub number_of : List ℕ → Option ℕ
number_of word = if nat_lt 0 (length word) && nat_le (length word) 20 then value_from 0 word else None

-- the byte is a hex digit in lower case, `0` to `9` or `a` to `f`
abbrev pub is_lower_hex_digit : ℕ → Bool
is_lower_hex_digit b = (nat_le 48 b && nat_le b 57) || (nat_le 97 b && nat_le b 102)

-- the bytes that a word of hex digits in lower case encodes, two digits each; `None` for any other word
abbrev pub data_of : List ℕ → Option (List ℕ)
data_of word = if list_all is_lower_hex_digit word then result_ok (decode_of word) else None

-- the byte is a space
abbrev pub is_space : ℕ → Bool
is_space b = b == 32

-- the byte is a line feed
abbrev pub is_line_feed : ℕ → Bool
is_line_feed b = b == 10

-- the byte is a colon
abbrev pub is_colon : ℕ → Bool
is_colon b = b == 58

-- The next word of a line, and the text after it. One space comes before the word, and the next space ends it.
abbrev pub word_at : List ℕ → Option (List ℕ × List ℕ)
word_at [] = None
word_at (b ∷ text) =
    if is_space b then Some (before_first is_space text, drop (length (before_first is_space text)) text)
    else None

-- the number in the next word, and the text after it
unfoldable pub number_at : List ℕ → Option (ℕ × List ℕ)
number_at text = do
  word ← word_at text
  n ← number_of word.0
  Some (n, word.1)

-- these pieces without the first; `None` if there are no pieces, or the first isn't empty
abbrev pub behind_space : List (List ℕ) → Option (List (List ℕ))
behind_space [] = None
behind_space (piece ∷ pieces) = ends piece pieces

-- the words of this text, which has one space before each word
abbrev pub words_of : List ℕ → Option (List (List ℕ))
words_of text = behind_space (slice_split is_space text)

-- the number in the next word, which must be at least 1, and the text after it
unfoldable pub count_at : List ℕ → Option (ℕ × List ℕ)
count_at text = do
  count ← number_at text
  if nat_lt 0 count.0 then Some count else None

-- these bytes, if they are UTF-8
abbrev pub text_of : List ℕ → Option (List ℕ)
text_of bytes = if is_utf8 bytes then Some bytes else None
