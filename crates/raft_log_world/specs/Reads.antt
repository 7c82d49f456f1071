-- The contents `m` of a log, and what reads of them return.
use Rattle.std.specs.Prelude.{◌≡◌, ◌⊎◌, ◌+◌, ◌-◌, ◌<◌, ◌≤◌, ◌&&◌, ℕ, Bool, true, false, List, [], ◌∷◌, Option, Some, None, option_map, length, map, bytes_eq}
use Rattle.std.specs.Cmp.Lexicographic.{slice_cmp}
use Rattle.std.specs.Global.{Vec}
use Rattle.std.specs.List.Sorted.{IsStrictlySortedBy}
use Rattle.std.specs.Map.{keys_of, lookup}
use Rattle.std.specs.Ordering.{is_le, is_lt, nat_cmp}
use Rattle.raft_log_model_laws.specs.Meaning.Slot.{Index, Key}
use Rattle.raft_log_model_laws.specs.Meaning.Content.{Entry, Value}
use Rattle.raft_log_model_laws.specs.Groups.{Map}

-- the contents of a log: for each raft group, the bytes of its entry at each index, and the value of each key
abbrev pub Contents : Type 0
Contents = Map (List ℕ) (List ℕ)

-- the bytes that a read returned, or none
abbrev pub bytes_of : Option (Vec ℕ) → Option (List ℕ)
bytes_of found = option_map (λ bytes. bytes.items) found

-- the bytes of each entry that a read returned
abbrev pub all_bytes : List (Vec ℕ) → List (List ℕ)
all_bytes entries = map (λ bytes. bytes.items) entries

-- the bytes of each key that a read returned, and of its value
abbrev pub pairs_of : List (Vec ℕ × Vec ℕ) → List (List ℕ × List ℕ)
pairs_of pairs = map (λ pair. (pair.0.items, pair.1.items)) pairs

-- the group has no entry at the indexes from `begin` to below `end`
abbrev pub HasNone : Contents → ℕ → ℕ → ℕ → Type 0
HasNone m group begin end = (index : ℕ) → begin ≤ index → index < end → m group (Index index) ≡ None

-- the first index at which the group has an entry, or none if it has no entry
abbrev pub IsFirstIndex : Contents → ℕ → Option ℕ → Type 0
IsFirstIndex m group None = (index : ℕ) → m group (Index index) ≡ None
IsFirstIndex m group (Some first) = (m group (Index first) ≡ None → ⊥) × HasNone m group 0 first

-- the last index at which the group has an entry, or none if it has no entry
abbrev pub IsLastIndex : Contents → ℕ → Option ℕ → Type 0
IsLastIndex m group None = (index : ℕ) → m group (Index index) ≡ None
IsLastIndex m group (Some last) =
    (m group (Index last) ≡ None → ⊥) × ((index : ℕ) → last < index → m group (Index index) ≡ None)

-- from this index on, the group has these entries, one after another
abbrev pub HasEntries : Contents → ℕ → ℕ → List (List ℕ) → Type 0
HasEntries m group index [] = Unit {0}
HasEntries m group index (entry ∷ entries) =
    (m group (Index index) ≡ Some (Entry entry)) × HasEntries m group (index + 1) entries

-- A read may return `count` of `all` entries. Without a greatest size, it returns all. With one, it returns at least
-- one, if there are any.
abbrev pub IsCount : Option ℕ → ℕ → ℕ → Type 0
IsCount None all count = count ≡ all
IsCount (Some max) all count = (count ≤ all) × (0 < all → 0 < count)

-- The group has an entry at each index from `begin` to below `end`. `entries` are the first of these. Without a
-- greatest size `max`, they are all of these. With one, they are at least one, if there are any.
pub record AreFetched (m : Contents) (group begin end : ℕ) (max : Option ℕ) (entries : List (List ℕ)) : Type 0 where
  pub are : HasEntries m group begin entries
  pub all : (index : ℕ) → begin ≤ index → index < end → m group (Index index) ≡ None → ⊥
  pub count : IsCount max (end - begin) (length entries)

-- A read of the entries from `begin` to below `end` may return `entries`. If the group has none of them, the read
-- returns none. If the group has all of them, the read returns the first ones (`AreFetched`). If the group has only
-- some, no result is right.
abbrev pub Fetches : Contents → ℕ → ℕ → ℕ → Option ℕ → List (List ℕ) → Type 0
Fetches m group begin end max entries =
    (HasNone m group begin end × (entries ≡ [])) ⊎ AreFetched m group begin end max entries

-- whether key `k` is at or above `start`, if there is a start
abbrev pub is_from : Option (List ℕ) → List ℕ → Bool
is_from None k = true
is_from (Some start) k = is_le (slice_cmp nat_cmp start k)

-- whether key `k` is below `end`, if there is an end
abbrev pub is_below : Option (List ℕ) → List ℕ → Bool
is_below None k = true
is_below (Some end) k = is_lt (slice_cmp nat_cmp k end)

-- `pairs` are the keys of the group from `start` on, below `end`, with their values: each key once, in the order of the
-- keys' bytes.
pub record Scans (m : Contents) (group : ℕ) (start end : Option (List ℕ)) (pairs : List (List ℕ × List ℕ))
    : Type 0 where
  pub rising : IsStrictlySortedBy (slice_cmp nat_cmp) (keys_of pairs)
  pub inside : (k : List ℕ) → is_from start k && is_below end k ≡ true
      → m group (Key k) ≡ option_map Value (lookup (bytes_eq k) pairs)
  pub outside : (k : List ℕ) → is_from start k && is_below end k ≡ false → lookup (bytes_eq k) pairs ≡ None
