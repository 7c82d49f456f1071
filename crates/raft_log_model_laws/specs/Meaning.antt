-- What a list of items of one raft group leaves in each slot, which is an index or a key. The last item that touches a
-- slot decides what is in it.
use Rattle.std.specs.Prelude.{ℕ, ◌-◌, List, [], ◌∷◌, Option, Some, None, option_map, unwrap_or, if◌then◌else◌, nat_le, nat_lt, slice_get, bytes_eq}
use Rattle.std.specs.Option.{option_or}
use Rattle.raft_log_model_laws.specs.Item.{Item}
use Rattle.raft_log_model_laws.specs.Item.Item.{Run, Clean, Compact, Put, Del}

-- a slot of a raft group: an index, or a key
pub data Slot : Type 0 where
  Index : ℕ → Slot
  Key : List ℕ → Slot

-- what is in a slot: an entry at an index, or a value under a key
pub data Content (E V : Type 0) : Type 0 where
  Entry : E → Content E V
  Value : V → Content E V

-- What one item does to a slot. `None`: it doesn't touch the slot. `Some None`: it empties the slot. `Some (Some x)`:
-- it puts `x` there. A run with entries touches each index from its first on, so it empties those past its last entry.
-- A run without entries touches nothing.
abbrev pub write : {E V : Type 0} → Slot → Item E V → Option (Option (Content E V))
write (Index i) (Run f []) = None
write (Index i) (Run f (e ∷ es)) =
    if nat_le f i then Some (option_map Entry (slice_get (e ∷ es) (i - f))) else None
write (Index i) Clean = Some None
write (Index i) (Compact c) = if nat_lt i c then Some None else None
write (Index i) (Put l v) = None
write (Index i) (Del l) = None
write (Key k) (Run f es) = None
write (Key k) Clean = Some None
write (Key k) (Compact c) = None
write (Key k) (Put l v) = if bytes_eq l k then Some (Some (Value v)) else None
write (Key k) (Del l) = if bytes_eq l k then Some None else None

-- what `w` returns for the last element for which it isn't `None`; `None` if there is no such element
abbrev pub last_word : {A B : Type 0} → (A → Option B) → List A → Option B
last_word w [] = None
last_word w (x ∷ xs) = option_or (last_word w xs) (w x)

-- what the last of these items that touches the slot does to it; `None` if none touches it
abbrev pub says : {E V : Type 0} → Slot → List (Item E V) → Option (Option (Content E V))
says s xs = last_word (write s) xs

-- what is in the slot after these items, if it was empty before them
abbrev pub holds : {E V : Type 0} → Slot → List (Item E V) → Option (Content E V)
holds s xs = unwrap_or (says s xs) None

-- what is in the slot of a directory: if Append's items touch it, what they leave there; otherwise what Rewrite's leave
abbrev pub directory : {E V : Type 0} → Slot → List (Item E V) → List (Item E V) → Option (Content E V)
directory s rewrite append = unwrap_or (says s append) (holds s rewrite)

-- what is in slot `s` after more items, if `m` has what was in each slot before
abbrev pub after : {E V : Type 0} → (Slot → Option (Content E V)) → List (Item E V) → Slot
    → Option (Content E V)
after m xs s = unwrap_or (says s xs) (m s)
