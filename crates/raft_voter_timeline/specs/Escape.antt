-- How text is escaped for XML.
use Rattle.std.specs.Prelude.{◌≡◌, ℕ, ◌==◌, ◌||◌, nat_lt, Bool, false, List, ◌++◌, String, codes, encode_utf8, flat_map, if◌then◌else◌, string_bytes}
use Rattle.std.specs.List.{list_any}
use Rattle.std.specs.declared.alloc.Global.{Global}

-- the bytes `more` were appended to the string
abbrev pub Gains : String Global → String Global → List ℕ → Type 0
Gains old new more = string_bytes new ≡ string_bytes old ++ more

-- The character is replaced in the XML: its code is below 32, or it is U+FFFE or U+FFFF. XML allows none of these
-- except tab, line feed and carriage return.
abbrev pub has_no_place : ℕ → Bool
has_no_place c = nat_lt c 32 || (c == 0xFFFE || c == 0xFFFF)

-- The bytes of a character in the XML. They are an entity for `&`, `<`, `>` and the quotes, U+FFFD if the character is
-- replaced (`has_no_place`), and otherwise the character's UTF-8.
unfoldable pub escaped : ℕ → List ℕ
escaped c =
    if c == 38 then codes "&amp;"
    else if c == 60 then codes "&lt;"
    else if c == 62 then codes "&gt;"
    else if c == 34 then codes "&quot;"
    else if c == 39 then codes "&#39;"
    else if has_no_place c then encode_utf8 0xFFFD
    else encode_utf8 c

-- the byte is `<`, `>` or a quote, which would begin or end a tag, or end an attribute's value
abbrev pub is_mark : ℕ → Bool
is_mark b = b == 60 || b == 62 || b == 34 || b == 39

-- Escaped text has no byte that would begin or end a tag, or end an attribute's value.
abbrev pub EscapedHasNoMark : Type 0
EscapedHasNoMark = (cs : List ℕ) → list_any is_mark (flat_map escaped cs) ≡ false
