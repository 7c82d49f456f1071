-- Two irregular cases: a run that starts past the end of the entries before it, and a gap between Rewrite's entries
-- and Append's.
use Rattle.std.specs.Prelude.{ℕ, ◌≡◌, ◌<◌, ◌≤◌, ◌+◌, max, min, Bool, true, false, ◌&&◌, not, List, [], ◌∷◌, Option, Some, None, unwrap_or, if◌then◌else◌, nat_le, nat_lt, length, IsFalse, ⊤}
use Rattle.std.specs.Option.{option_or}
use Rattle.raft_log_model_laws.specs.Item.{Item}
use Rattle.raft_log_model_laws.specs.Item.Item.{Run, Clean, Compact, Put, Del}
use Rattle.raft_log_model_laws.specs.Meaning.{Slot, Content, write, holds}
use Rattle.raft_log_model_laws.specs.Meaning.Slot.{Index}
use Rattle.raft_log_model_laws.specs.Meaning.Content.{Entry}

-- The current run of a list of items: the consecutive entries that the list leaves, if a run that starts past the end
-- of the entries before it drops all of these. `first` is the index of the current run's first entry, and `end` the
-- index after its last one. The current run is empty if `end` isn't above `first`.
pub record Window : Type 0 where
  pub first : ℕ
  pub end : ℕ

-- an empty current run
abbrev pub nothing : Window
nothing = record { first = 0; end = 0 }

-- a run that starts at `f` would leave a hole: the current run isn't empty, and ends below `f`
abbrev pub is_past : Window → ℕ → Bool
is_past w f = nat_lt w.first w.end && nat_lt w.end f

-- The current run after one more item. A run of entries that starts inside the current run or at its end continues it;
-- any other run of entries replaces it. A Clean empties it, and a Compact raises its first index.
abbrev pub next_window : {E V : Type 0} → Window → Item E V → Window
next_window w (Run f []) = w
next_window w (Run f (e ∷ es)) =
    record { first = if nat_lt w.first f && nat_le f w.end then w.first else f; end = f + length (e ∷ es) }
next_window w Clean = nothing
next_window w (Compact c) = record w { first = max w.first c }
next_window w (Put k v) = w
next_window w (Del k) = w

-- the current run after more items, if it was `w` before them
abbrev pub window : {E V : Type 0} → Window → List (Item E V) → Window
window w [] = w
window w (x ∷ xs) = window (next_window w x) xs

-- What one item does to a slot, if the current run before it is `w`. A run of entries that starts past the end of `w`
-- also empties all lower indexes.
abbrev pub write_past : {E V : Type 0} → Window → Slot → Item E V → Option (Option (Content E V))
write_past w (Index i) (Run f []) = None
write_past w (Index i) (Run f (e ∷ es)) =
    if is_past w f && nat_lt i f then Some None else write (Index i) (Run f (e ∷ es))
write_past w s x = write s x

-- What the last of these items that touches the slot does to it, if the current run before them is `w`. A run past the
-- end also empties all lower indexes.
abbrev pub says_past : {E V : Type 0} → Window → Slot → List (Item E V) → Option (Option (Content E V))
says_past w s [] = None
says_past w s (x ∷ xs) = option_or (says_past (next_window w x) s xs) (write_past w s x)

-- what is in the slot after these items, if a run past the end also empties all lower indexes
abbrev pub holds_past : {E V : Type 0} → Slot → List (Item E V) → Option (Content E V)
holds_past s xs = unwrap_or (says_past nothing s xs) None

-- `m` has an entry at each index from `first` to below `end`, and nothing at any other index
pub record Spans {E V : Type 0} (first end : ℕ) (m : ℕ → Option (Content E V)) : Type 0 where
  pub stands : (i : ℕ) → first ≤ i → i < end → (e : E) × (m i ≡ Some (Entry e))
  pub none_below : (i : ℕ) → i < first → m i ≡ None
  pub none_above : (i : ℕ) → end ≤ i → m i ≡ None

-- the item leaves no hole if the current run before it is `w`
abbrev pub FitsOn : {E V : Type 0} → Window → Item E V → Type 0
FitsOn w (Run f []) = ⊤
FitsOn w (Run f (e ∷ es)) = IsFalse (is_past w f)
FitsOn w Clean = ⊤
FitsOn w (Compact c) = ⊤
FitsOn w (Put k v) = ⊤
FitsOn w (Del k) = ⊤

-- none of these items leaves a hole if the current run before them is `w`
abbrev pub NoHole : {E V : Type 0} → Window → List (Item E V) → Type 0
NoHole w [] = ⊤
NoHole w (x ∷ xs) = FitsOn w x × NoHole (next_window w x) xs

-- one of the items is a Clean
abbrev pub has_clean : {E V : Type 0} → List (Item E V) → Bool
has_clean [] = false
has_clean (Clean ∷ xs) = true
has_clean (x ∷ xs) = has_clean xs

-- the greatest index of a Compact among these items, or 0 if there is none
abbrev pub low : {E V : Type 0} → List (Item E V) → ℕ
low [] = 0
low (Compact c ∷ xs) = max c (low xs)
low (x ∷ xs) = low xs

-- the lower of `n` and the bound; `n` if there is no bound
abbrev pub least : ℕ → Option ℕ → ℕ
least n None = n
least n (Some b) = min n b

-- the lowest start of a run of entries among these items, or `None` if there is none
abbrev pub high : {E V : Type 0} → List (Item E V) → Option ℕ
high [] = None
high (Run f [] ∷ xs) = high xs
high (Run f (e ∷ es) ∷ xs) = Some (least f (high xs))
high (x ∷ xs) = high xs

-- the index is below the bound, if there is one
abbrev pub is_below : ℕ → Option ℕ → Bool
is_below i None = true
is_below i (Some b) = nat_lt i b

-- The items don't touch index `i`: they have no Clean, and `i` is at or above each Compact's index and below each
-- run's start.
abbrev pub is_silent : {E V : Type 0} → List (Item E V) → ℕ → Bool
is_silent xs i = not (has_clean xs) && (nat_le (low xs) i && is_below i (high xs))

-- Append's items keep some entries of Rewrite's current run `w`, and Append's own current run starts past the end of
-- the kept entries. A Clean among the items isn't considered here.
abbrev pub has_gap : {E V : Type 0} → Window → List (Item E V) → Bool
has_gap w append =
    nat_lt (max w.first (low append)) (least w.end (high append))
    && (nat_lt (window nothing append).first (window nothing append).end
    && nat_lt (least w.end (high append)) (window nothing append).first)

-- What is at index `i` of a directory: Append's entry, if there is one. Otherwise it is Rewrite's, if Append's items
-- don't touch `i` (`is_silent`) and leave no gap (`has_gap`).
abbrev pub directory_by_intervals : {E V : Type 0} → ℕ → List (Item E V) → List (Item E V)
    → Option (Content E V)
directory_by_intervals i rewrite append =
    option_or (holds (Index i) append)
    (if is_silent append i && not (has_gap (window nothing rewrite) append)
    then holds_past (Index i) rewrite
    else None)

-- between two indexes with content in `m`, each index has content
abbrev pub IsSolid : {E V : Type 0} → (ℕ → Option (Content E V)) → Type 0
IsSolid {E} {V} m =
    (i j k : ℕ) (a b : Content E V) → i ≤ j → j ≤ k → m i ≡ Some a → m k ≡ Some b
    → (c : Content E V) × (m j ≡ Some c)
