-- What a table reserves for a batch before the batch is written, and when it is ready to apply the batch.
use Rattle.std.specs.Prelude.{◌≡◌, ℕ, ◌+◌, ◌-◌, ◌≤◌, Bool, true, false, List, [], ◌∷◌, length, is_some}
use Rattle.raft_log_model_laws.specs.Item.{Item}
use Rattle.raft_log_model_laws.specs.Item.Item.{Run, Clean, Compact, Put, Del}
use Rattle.raft_log_model_laws.specs.Holes.{Window}
use Rattle.raft_log_machine_laws.specs.Whereabouts.{with_key}
use Rattle.raft_log_memtable_index.specs.Shown.{Shown, nothing_shown, span, next_span, MayFollow, MayAllFollow}

-- What a table reserved. `wanted` is how many more places it can take, and `moves` how many entries can move into
-- Rewrite. `ends` is the range of its indexes after the items that it is prepared for. `has` is true for the keys with
-- a slot: these can be put or deleted without more memory.
pub record Promise : Type 0 where
  pub wanted : ℕ
  pub moves : ℕ
  pub ends : Window
  pub has : List ℕ → Bool

-- the reservation after key `k` got a slot
abbrev pub with_room_for : Promise → List ℕ → Promise
with_room_for q k = record q { has = with_key q.has k true }

-- the reservation for `n` more moves of entries into Rewrite
abbrev pub with_moves : Promise → ℕ → Promise
with_moves q n = record q { moves = q.moves + n }

-- the reservation after `n` of the moves were made
abbrev pub without_moves : Promise → ℕ → Promise
without_moves q n = record q { moves = q.moves - n }

-- the reservation in which exactly the keys with a value have a slot
abbrev pub with_room_of : Promise → Shown → Promise
with_room_of q v = record q { has = λ k. is_some (v.held k) }

-- the reservation for no places and no moves, with the range `w`
abbrev pub taken_back : Promise → Window → Promise
taken_back q w = record q { wanted = 0; moves = 0; ends = w }

-- nothing is reserved for places or moves
abbrev pub IsForgotten : Promise → Type 0
IsForgotten q = (q.wanted ≡ 0) × (q.moves ≡ 0)

-- the reservation of a new table: nothing
abbrev pub no_promise : Promise
no_promise = record { wanted = 0; moves = 0; ends = record { first = 0; end = 0 }; has = λ k. false }

-- the table is as a new one: no entries, values, tombstones or recorded files, and nothing is reserved
abbrev pub IsVacant : Shown → Promise → Type 0
IsVacant v q = (v ≡ nothing_shown) × (q ≡ no_promise)

module _ {E V : Type 0} where
  -- how many places the item needs: one for each of its entries
  abbrev pub count_of : Item E V → ℕ
  count_of (Run f es) = length es
  count_of _ = 0

  -- the reservation, extended for one more item: for its places, its key's slot, and the range of indexes after it
  abbrev pub promised : Promise → Item E V → Promise
  promised q (Run f es) =
      record q { wanted = q.wanted + length es; ends = next_span {E = E} {V = V} q.ends (Run f es) }
  promised q Clean = record q { ends = next_span {E = E} {V = V} q.ends Clean }
  promised q (Compact c) = record q { ends = next_span {E = E} {V = V} q.ends (Compact c) }
  promised q (Put k v) = record q { has = with_key q.has k true }
  promised q (Del k) = record q { has = with_key q.has k true }

  -- the reservation that is left after the item was applied
  abbrev pub kept : Promise → Item E V → Promise
  kept q (Run f es) = record q { wanted = q.wanted - length es }
  kept q _ = q

  -- if the item puts or deletes a key, the key has a slot
  abbrev pub HasRoom : (List ℕ → Bool) → Item E V → Type 0
  HasRoom has (Put k v) = has k ≡ true
  HasRoom has (Del k) = has k ≡ true
  HasRoom has _ = Unit {0}

  -- Applying the item can't fail. Enough places are reserved, and its key has a slot. Its run leaves no hole, and the
  -- indexes of the run are below 2 ^ 64 - 1.
  abbrev pub CanTake : Shown → Promise → Item E V → Type 0
  CanTake v q x = (count_of x ≤ q.wanted) × HasRoom q.has x × MayFollow (span v) x

  -- how many places these items need in total
  abbrev pub needs : List (Item E V) → ℕ
  needs [] = 0
  needs (x ∷ xs) = count_of x + needs xs

  -- every key that these items put or delete has a slot
  abbrev pub AllHave : (List ℕ → Bool) → List (Item E V) → Type 0
  AllHave has [] = Unit {0}
  AllHave has (x ∷ xs) = HasRoom has x × AllHave has xs

  -- the range of the indexes after these items
  abbrev pub span_after : Window → List (Item E V) → Window
  span_after w [] = w
  span_after w (x ∷ xs) = span_after (next_span w x) xs

  -- The table can take all these items, one after another. Places and slots are reserved for them. No run leaves a
  -- hole, and indexes are below 2 ^ 64 - 1. The reservation has the range of indexes after the items.
  pub record IsReady (v : Shown) (q : Promise) (xs : List (Item E V)) : Type 0 where
    pub room : needs xs ≤ q.wanted
    pub keys : AllHave q.has xs
    pub follows : MayAllFollow (span v) xs
    pub ends : q.ends ≡ span_after (span v) xs
