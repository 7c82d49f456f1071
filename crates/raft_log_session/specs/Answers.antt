-- The text of answers and of verdicts, one line for each.
use Rattle.std.specs.Prelude.{◌≡◌, ℕ, Bool, true, false, List, [], ◌∷◌, ◌++◌, Option, Some, None, codes, map, string_bytes, String}
use Rattle.std.specs.Fmt.{decimal}
use Rattle.std.specs.declared.alloc.Global.{Global}
use Rattle.std.specs.List.{flat_map}
use Rattle.hex.specs.Hex.{encode_lower}
use Rattle.raft_log_world.specs.declared.event.Answer.{Answer}
use Rattle.raft_log_world.specs.declared.event.Answer.TheVariants.{Done, Found, At, Entries, Keys, Refused, Failed, Idle}
use Rattle.raft_log_world.specs.Reads.{all_bytes, bytes_of, pairs_of}

-- the bytes `more` were appended to the string
abbrev pub Gains : String Global → String Global → List ℕ → Type 0
Gains old new more = string_bytes new ≡ string_bytes old ++ more

-- bytes in hex digits, or `''` if there are none
abbrev pub bytes_text : List ℕ → List ℕ
bytes_text [] = codes "''"
bytes_text (b ∷ bytes) = encode_lower (b ∷ bytes)

-- the text of a key and its value
unfoldable pub pair_text : List ℕ × List ℕ → List ℕ
pair_text pair = bytes_text pair.0 ++ codes "=" ++ bytes_text pair.1

-- the text between two elements of a list
abbrev pub comma : List ℕ
comma = codes ","

-- each of these texts after a comma
abbrev pub after_commas : List (List ℕ) → List ℕ
after_commas texts = flat_map (λ text. comma ++ text) texts

-- these texts, separated by commas; `none` if there are none
abbrev pub list_text : List (List ℕ) → List ℕ
list_text [] = codes "none"
list_text (text ∷ texts) = text ++ after_commas texts

-- what a read of a value or an entry returned: its bytes, or `none`
abbrev pub found_text : Option (List ℕ) → List ℕ
found_text None = codes "none"
found_text (Some bytes) = bytes_text bytes

-- an index in decimal, or `none`
abbrev pub index_text : Option ℕ → List ℕ
index_text None = codes "none"
index_text (Some index) = decimal index

-- the text of an answer
abbrev pub answer_text : Answer → List ℕ
answer_text Done = codes "ok"
answer_text (Found found) = found_text (bytes_of found)
answer_text (At index) = index_text index
answer_text (Entries entries) = list_text (map bytes_text (all_bytes entries.items))
answer_text (Keys pairs) = list_text (map pair_text (pairs_of pairs.items))
answer_text Refused = codes "refused"
answer_text Failed = codes "failed"
answer_text Idle = codes "idle"

-- the line of an answer
unfoldable pub answer_line : Answer → List ℕ
answer_line answer = answer_text answer ++ codes "\n"

-- the line of a verdict: `yes` if it is `true`, otherwise `no`
abbrev pub verdict_line : Bool → List ℕ
verdict_line true = codes "verdict yes\n"
verdict_line false = codes "verdict no\n"
