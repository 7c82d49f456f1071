-- Which numbers, entries and requests are in range. A voter replies `Refused` to a request that isn't.
use Rattle.std.specs.Prelude.{ℕ, ◌+◌, ◌^◌, ◌&&◌, nat_lt, nat_le, Bool, true, List, [], ◌∷◌, length, sum_by}
use Rattle.std.specs.List.{list_all}
use Rattle.raft_voter_messages.specs.declared.request.Request.{Request}
use Rattle.raft_voter_messages.specs.declared.request.Request.TheVariants.{Vote, Append, Compact, Install, Read, Status, Retire}

-- `n` is below 2^63, the bound of indexes, terms and candidates
abbrev pub fits : ℕ → Bool
fits n = nat_lt n (2 ^ 63)

-- the entry's term is in range, and it has at most 65,535 bytes
abbrev pub entry_fits : ℕ × List ℕ → Bool
entry_fits e = fits e.0 && nat_le (length e.1) 65535

-- the sum of the lengths of these entries, in bytes
abbrev pub total_bytes : List (ℕ × List ℕ) → ℕ
total_bytes sent = sum_by (λ e. length e.1) sent

-- The entries `sent` of an Append after index `prev` keep the limits. There are at most 1,024 of them, with at most
-- 1,048,576 bytes together. Each entry is in range. The index of the last entry is in range too, or `prev` if there are
-- no entries.
abbrev pub entries_fit : ℕ → List (ℕ × List ℕ) → Bool
entries_fit prev sent =
    fits (prev + length sent) && nat_le (length sent) 1024 && list_all entry_fits sent
    && nat_le (total_bytes sent) 1048576

-- the numbers of the request are in range, and so are the entries that an Append brings
abbrev pub in_range : Request → Bool
in_range (Vote term candidate index last) = list_all fits (term ∷ candidate ∷ index ∷ last ∷ [])
in_range (Append term prev prev_term commit sent) =
    list_all fits (term ∷ prev_term ∷ commit ∷ []) && entries_fit prev sent
in_range (Compact index) = fits index
in_range (Install term index entry_term) = list_all fits (term ∷ index ∷ entry_term ∷ [])
in_range (Read from to) = list_all fits (from ∷ to ∷ [])
in_range Status = true
in_range Retire = true
