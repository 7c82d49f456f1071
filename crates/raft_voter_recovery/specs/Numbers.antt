-- The index and the term in the stored bytes of an entry, parsed without the entry's data.
use Rattle.std.specs.Prelude.{ℕ, ◌==◌, ◌&&◌, nat_le, if◌then◌else◌, bytes_eq, List, [], ◌∷◌, ◌++◌, length, take, drop, Option, None, Some}
use Rattle.std.specs.Int.{from_be_bytes, w64}
use Rattle.raft_voter_messages.specs.Ranges.{fits}
use Rattle.raft_voter_messages.specs.StoredForms.{entry_text, number_text}

-- the number in the first eight bytes, if there are eight
unfoldable pub number_in : List ℕ → Option ℕ
number_in bytes =
    if bytes_eq (number_text (from_be_bytes w64 (take 8 bytes))) (take 8 bytes)
    then Some (from_be_bytes w64 (take 8 bytes)) else None

-- both numbers, or none if either is missing
abbrev pub both : Option ℕ → Option ℕ → Option (ℕ × ℕ)
both (Some index) (Some term) = Some (index, term)
both _ _ = None

-- the index and the term, if the first byte and the length are those of a stored entry; else none
abbrev pub numbers_in : List ℕ → Option (ℕ × ℕ)
numbers_in [] = None
numbers_in (form ∷ body) =
    if form == 1 && nat_le 16 (length body) && nat_le (length body) 65551
    then both (number_in body) (number_in (drop 8 body)) else None

-- a stored entry with this index and term and no data; no bytes for `None`
abbrev pub numbers_text : Option (ℕ × ℕ) → List ℕ
numbers_text None = []
numbers_text (Some numbers) = entry_text (record { index = numbers.0; term = numbers.1; bytes = [] })

-- the term of the entry at `index`, if the numbers are in range and their index is `index`
abbrev pub term_told : ℕ → Option (ℕ × ℕ) → Option ℕ
term_told index None = None
term_told index (Some numbers) =
    if numbers.0 == index && fits numbers.0 && fits numbers.1 then Some numbers.1 else None
