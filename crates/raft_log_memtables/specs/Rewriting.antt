-- How the tables of all groups change from `old` to `new` when copies are written to Rewrite. The gate of a purge is
-- the last file of Append whose content it may copy. Without a gate, only content of Rewrite is copied.
use Rattle.std.specs.Prelude.{◌≡◌, ℕ, ◌+◌, ◌≤◌, ◌==◌, ◌⊎◌, Bool, true, false, if◌then◌else◌, List, [], ◌∷◌, drop, length, map, Option, Some}
use Rattle.raft_log_model_laws.specs.Item.{Item, Tagged}
use Rattle.raft_log_model_laws.specs.Item.Item.{Run, Clean, Compact, Put, Del}
use Rattle.raft_log_extents.specs.declared.place.Place.{Place}
use Rattle.raft_log_memtable_index.specs.Shown.{KeyValue, Shown, span}
use Rattle.raft_log_memtable_index.specs.Bridge.{Located, Move, in_queue, read}
use Rattle.raft_log_memtable_index.specs.Bridge.Move.{MoveKey, MoveRun}
use Rattle.raft_log_model_laws.specs.Groups.{of_group}
use Rattle.raft_log_model_laws.specs.Renamed.{renamed}
use Rattle.raft_log_memtable.specs.Moves.{gated, key_rewritten, may_move, rewritten_by}
use Rattle.raft_log_memtable.specs.Room.{Promise, count_of, needs, with_moves, without_moves}
use Rattle.raft_log_memtables.specs.declared.mem_tables.MemTables.{MemTables}
use Rattle.raft_log_memtables.specs.Tables.{counts, has_table, promise_of, shown_of}

-- The table after this item was written to file `n` of Rewrite. A run moves entries to the run's places, as far as the
-- table still has them and the gate allows it (`rewritten_by`). A put moves the key's value to file `n`, if the key has
-- a value and the gate allows it (`key_rewritten`). A Clean, Compact or Del is a tombstone that was owed, and changes
-- nothing.
abbrev pub rewritten_item : Option ℕ → ℕ → Shown → Item Place (List ℕ) → Shown
rewritten_item gate n v (Run f ps) = rewritten_by gate v (Run f ps)
rewritten_item gate n v (Put k w) = key_rewritten gate v k n
rewritten_item gate n v Clean = v
rewritten_item gate n v (Compact c) = v
rewritten_item gate n v (Del k) = v

-- the table after these items were written to file `n` of Rewrite
abbrev pub all_rewritten : Option ℕ → ℕ → Shown → List (Item Place (List ℕ)) → Shown
all_rewritten gate n v [] = v
all_rewritten gate n v (x ∷ xs) = all_rewritten gate n (rewritten_item gate n v x) xs

-- how many entries of group `g` the items have
abbrev pub entries_of : {E V : Type 0} → ℕ → List (Tagged E V) → ℕ
entries_of g xs = needs (of_group g xs)

-- Applying the items after a write to Rewrite can't fail: each group that has a table has reserved enough moves.
abbrev pub MayMove : {E V : Type 0} → MemTables → List (Tagged E V) → Type 0
MayMove m xs = (g : ℕ) → has_table m g ≡ true → entries_of g xs ≤ (promise_of m g).moves

-- the reservation for `n` more moves, if the group has a table, else unchanged
abbrev pub moving : Bool → Promise → ℕ → Promise
moving b q n = if b then with_moves q n else q

-- the same groups have a table as before, and the same groups count
pub record GroupsStay (old new : MemTables) : Type 0 where
  pub tables : (g : ℕ) → has_table new g ≡ has_table old g
  pub counts : (g : ℕ) → counts new g ≡ counts old g

-- each group that has a table has now also reserved a move for each of its entries in the items
pub record PromisesMoves {E V : Type 0} (old new : MemTables) (xs : List (Tagged E V)) : Type 0 where
  pub stay : GroupsStay old new
  pub moves : (g : ℕ) → promise_of new g ≡ moving (has_table old g) (promise_of old g) (entries_of g xs)

-- The item's group, if it has a table, has now also reserved a move for each entry of the item. The reservations of
-- other groups are unchanged. The same groups have a table as before, and the same ones count.
pub record PromisesMove {E V : Type 0} (old new : MemTables) (x : Tagged E V) : Type 0 where
  pub stay : GroupsStay old new
  pub move : promise_of new x.group
      ≡ moving (has_table old x.group) (promise_of old x.group) (count_of x.item)
  pub others : (g : ℕ) → (x.group == g) ≡ false → promise_of new g ≡ promise_of old g

-- The item `x` was written to file `n` of Rewrite. Its group's table changed as `rewritten_item` says, and used up the
-- moves that were reserved for `x`. No other group changed. Each group's entries keep their range of indexes.
pub record RewritesOne (gate : Option ℕ) (n : ℕ) (old new : MemTables) (x : Tagged Place (List ℕ))
    : Type 0 where
  pub stay : GroupsStay old new
  pub shows : shown_of new x.group ≡ rewritten_item gate n (shown_of old x.group) x.item
  pub ends : (g : ℕ) → span (shown_of new g) ≡ span (shown_of old g)
  pub promise : promise_of new x.group ≡ without_moves (promise_of old x.group) (count_of x.item)
  pub others : (g : ℕ) → (x.group == g) ≡ false
      → (shown_of new g ≡ shown_of old g) × (promise_of new g ≡ promise_of old g)

-- The items `xs` were written to file `n` of Rewrite. Their groups' tables changed as `all_rewritten` says, and used
-- up the moves that were reserved for `xs`. Each group's entries keep their range of indexes.
pub record TakesRewritten (gate : Option ℕ) (n : ℕ) (old new : MemTables) (xs : List (Tagged Place (List ℕ)))
    : Type 0 where
  pub stay : GroupsStay old new
  pub shows : (g : ℕ) → shown_of new g ≡ all_rewritten gate n (shown_of old g) (of_group g xs)
  pub ends : (g : ℕ) → span (shown_of new g) ≡ span (shown_of old g)
  pub promise : (g : ℕ) → promise_of new g ≡ without_moves (promise_of old g) (entries_of g xs)

-- The item is an allowed copy of what the table `v` has; `at` gives the bytes at each place.
-- - A run has the bytes of the table's entries. It starts at an entry in Rewrite or right after the last of these, and
--   has all later entries in Rewrite. It has only those entries in Append that the gate allows, and none if a Clean or
--   Compact is owed.
-- - A put has the key's value, which the gate allows. If the value is in Append, neither a Clean nor the key's Del is
--   owed.
abbrev pub IsCopy : {E : Type 0} → (Located → E) → Option ℕ → Shown → Item Place (List ℕ) → Type 0
IsCopy at gate v (Run f ps) =
    (v.first ≤ f) × (f ≤ v.first + v.rewritten) × (v.first + v.rewritten ≤ f + length ps)
    × (f + length ps ≤ v.first + v.rewritten + gated gate (drop v.rewritten v.places))
    × ((v.first + v.rewritten ≡ f + length ps) ⊎ ((v.cleaned ≡ false) × (v.compacted ≡ false)))
    × (map (λ p. at (in_queue false p)) ps ≡ read at v f (length ps))
IsCopy at gate v (Put k w) =
    (h : KeyValue) × (v.held k ≡ Some h) × (w ≡ h.bytes) × (may_move gate h ≡ true)
    × (h.appended ≡ true → (v.cleaned ≡ false) × (v.deleted k ≡ false))
IsCopy at gate v x = ⊥

-- each item is an allowed copy after the items before it were written to file `n` of Rewrite
abbrev pub AreCopies : {E : Type 0} → (Located → E) → Option ℕ → ℕ → Shown → List (Item Place (List ℕ))
    → Type 0
AreCopies at gate n v [] = Unit {0}
AreCopies at gate n v (x ∷ xs) = IsCopy at gate v x × AreCopies at gate n (rewritten_item gate n v x) xs

-- the copies into file `n` of Rewrite that these items make
abbrev pub moves_of : ℕ → List (Item Place (List ℕ)) → List Move
moves_of n [] = []
moves_of n (Run f ps ∷ xs) = MoveRun f ps ∷ moves_of n xs
moves_of n (Put k w ∷ xs) = MoveKey k n ∷ moves_of n xs
moves_of n (x ∷ xs) = moves_of n xs

-- the items as they are written to Rewrite: with the bytes of their entries, which `at` gives for each place
abbrev pub copied_items : {E : Type 0} → (Located → E) → List (Item Place (List ℕ)) → List (Item E (List ℕ))
copied_items at xs = map (renamed (λ p. at (in_queue false p))) xs
