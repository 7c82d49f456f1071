-- What is in a slot, as a relation instead of a function: the last item that touches the slot puts it there.
use Rattle.std.specs.Prelude.{◌-◌, ◌≡◌, ◌<◌, ◌≤◌, List, [], ◌∷◌, ◌++◌, Some, slice_get, ⊤}
use Rattle.raft_log_model_laws.specs.Item.{Item}
use Rattle.raft_log_model_laws.specs.Item.Item.{Run, Clean, Compact, Put, Del}
use Rattle.raft_log_model_laws.specs.Meaning.{Slot, Content}
use Rattle.raft_log_model_laws.specs.Meaning.Slot.{Index, Key}
use Rattle.raft_log_model_laws.specs.Meaning.Content.{Entry, Value}

-- The item touches the slot. A run with entries touches each index from its first on. A Compact touches each index
-- below its own, and a Clean all slots of the group. A Put and a Del touch their key.
abbrev pub Speaks : {E V : Type 0} → Slot → Item E V → Type 0
Speaks (Index i) (Run f []) = ⊥
Speaks (Index i) (Run f (e ∷ es)) = f ≤ i
Speaks (Index i) Clean = ⊤
Speaks (Index i) (Compact c) = i < c
Speaks (Index i) (Put l v) = ⊥
Speaks (Index i) (Del l) = ⊥
Speaks (Key k) (Run f es) = ⊥
Speaks (Key k) Clean = ⊤
Speaks (Key k) (Compact c) = ⊥
Speaks (Key k) (Put l v) = l ≡ k
Speaks (Key k) (Del l) = l ≡ k

-- the item puts this content into the slot: it is a run that has the entry at this index, or a Put of the value under
-- this key
abbrev pub Gives : {E V : Type 0} → Slot → Content E V → Item E V → Type 0
Gives (Index i) (Entry e) (Run f es) = (f ≤ i) × (slice_get es (i - f) ≡ Some e)
Gives (Index i) (Entry e) x = ⊥
Gives (Index i) (Value v) x = ⊥
Gives (Key k) (Value v) (Put l w) = (l ≡ k) × (w ≡ v)
Gives (Key k) (Value v) x = ⊥
Gives (Key k) (Entry e) x = ⊥

-- none of these items touches the slot
abbrev pub NoneSpeaks : {E V : Type 0} → Slot → List (Item E V) → Type 0
NoneSpeaks s [] = ⊤
NoneSpeaks s (x ∷ xs) = (Speaks s x → ⊥) × NoneSpeaks s xs

-- the last of these items that touches slot `s` puts content `c` there
pub record StandsIn {E V : Type 0} (s : Slot) (c : Content E V) (xs : List (Item E V)) : Type 0 where
  pub before : List (Item E V)
  pub last : Item E V
  pub later : List (Item E V)
  pub is_all : xs ≡ before ++ last ∷ later
  pub gives : Gives s c last
  pub silent : NoneSpeaks s later
