-- A batch and the tables of all its groups: when it can be applied, what is reserved for it, and how it changes the
-- tables. An index is too high if it isn't below 2^64 - 1.
use Rattle.std.specs.Prelude.{◌≡◌, ℕ, ◌==◌, ◌||◌, ◌⊎◌, Bool, true, false, List, [], ◌∷◌, map}
use Rattle.raft_log_record_base.specs.declared.errors.Error.{Error}
use Rattle.raft_log_record_base.specs.declared.errors.Error.TheVariants as errors
use Rattle.raft_log_record_items.specs.declared.item.LogItem.{LogItem}
use Rattle.raft_log_model_laws.specs.Item.{Item, Tagged}
use Rattle.raft_log_model_laws.specs.Item.Item.{Clean}
use Rattle.raft_log_model_laws.specs.Holes.{Window}
use Rattle.raft_log_model_laws.specs.Groups.{of_group}
use Rattle.raft_log_model_laws.specs.Renamed.{renamed_tagged}
use Rattle.raft_log_extents.specs.declared.place.Place.{Place}
use Rattle.raft_log_memtable_index.specs.Bridge.{in_queue, Located}
use Rattle.raft_log_memtable_index.specs.Shown.{Shown, stepped, all_stepped, span, MayFollow, MayAllFollow}
use Rattle.raft_log_memtable.specs.Room.{Promise, kept, promised, IsForgotten, IsReady}
use Rattle.raft_log_memtables.specs.declared.mem_tables.MemTables.{MemTables}
use Rattle.raft_log_memtables.specs.Tables.{counts, shown_of, promise_of, has_table}

-- In each group `g`, the group's items of `xs` can be applied to the table `v g`, one after another. They leave no hole
-- and no index too high.
abbrev pub MayFollowAll : {E V : Type 0} → (ℕ → Shown) → List (Tagged E V) → Type 0
MayFollowAll v xs = (g : ℕ) → MayAllFollow (span (v g)) (of_group g xs)

-- `test` is true for the group of each item
abbrev pub GroupsPass : {E V : Type 0} → (ℕ → Bool) → List (Tagged E V) → Type 0
GroupsPass test [] = Unit {0}
GroupsPass test (x ∷ xs) = (test x.group ≡ true) × GroupsPass test xs

-- Applying the items can't fail: each item's group has a table, and the table is prepared for the group's items.
pub record IsReadyFor {E V : Type 0} (m : MemTables) (xs : List (Tagged E V)) : Type 0 where
  pub tables : GroupsPass (has_table m) xs
  pub groups : (g : ℕ) → IsReady (shown_of m g) (promise_of m g) (of_group g xs)

-- The item was prepared. Its group has a table, where places and slots are now reserved for the item too. It leaves
-- no hole and no index too high after what was prepared before. No other group got a table or another reservation.
pub record IsPrepared {E V : Type 0} (old new : MemTables) (x : Tagged E V) : Type 0 where
  pub tables : (g : ℕ) → has_table new g ≡ (x.group == g) || has_table old g
  pub follows : MayFollow (promise_of old x.group).ends x.item
  pub promised : promise_of new x.group ≡ promised (promise_of old x.group) x.item
  pub others : (g : ℕ) → (x.group == g) ≡ false → promise_of new g ≡ promise_of old g

-- the reservation, extended for these items, one after another
abbrev pub all_promised : {E V : Type 0} → Promise → List (Item E V) → Promise
all_promised q [] = q
all_promised q (x ∷ xs) = all_promised (promised q x) xs

-- whether one of these items is of group `g`
abbrev pub speaks_of : {E V : Type 0} → ℕ → List (Tagged E V) → Bool
speaks_of g [] = false
speaks_of g (x ∷ xs) = (x.group == g) || speaks_of g xs

-- The items were prepared: each group reserved for its own items, in addition to what it had reserved before. If a
-- group of an item had no table, it got one. No other group got a table.
pub record PromisesAll {E V : Type 0} (old new : MemTables) (xs : List (Tagged E V)) : Type 0 where
  pub tables : (g : ℕ) → has_table new g ≡ speaks_of g xs || has_table old g
  pub promises : (g : ℕ) → promise_of new g ≡ all_promised (promise_of old g) (of_group g xs)

-- the reservation that is left after these items were applied
abbrev pub all_kept : {E V : Type 0} → Promise → List (Item E V) → Promise
all_kept q [] = q
all_kept q (x ∷ xs) = all_kept (kept q x) xs

-- for each group, its table after the items were written to file `n` of Append
abbrev pub all_shown : ℕ → (ℕ → Shown) → List (Tagged Place (List ℕ)) → ℕ → Shown
all_shown n v xs g = all_stepped n (v g) (of_group g xs)

-- whether a group counts after one item: it does, unless the item is a Clean
abbrev pub counts_after : {E V : Type 0} → Bool → Item E V → Bool
counts_after b Clean = false
counts_after b x = true

-- The item was written to file `n` of Append, and applied to its group's table. The places that were reserved for it
-- are used up. No other group changed.
pub record IsApplied (n : ℕ) (old new : MemTables) (x : Tagged Place (List ℕ)) : Type 0 where
  pub tables : (g : ℕ) → has_table new g ≡ has_table old g
  pub shows : shown_of new x.group ≡ stepped n (shown_of old x.group) x.item
  pub promise : promise_of new x.group ≡ kept (promise_of old x.group) x.item
  pub counting : counts new x.group ≡ counts_after (counts old x.group) x.item
  pub others : (g : ℕ) → (x.group == g) ≡ false
      → (shown_of new g ≡ shown_of old g) × (promise_of new g ≡ promise_of old g) × (counts new g ≡ counts old g)

-- whether a group counts after these items, if `b` says whether it did before
abbrev pub counts_at_end : {E V : Type 0} → Bool → List (Item E V) → Bool
counts_at_end b [] = b
counts_at_end b (x ∷ xs) = counts_at_end (counts_after b x) xs

-- whether one of these items is of group `g`
abbrev pub mentions : ℕ → List LogItem → Bool
mentions g [] = false
mentions g (x ∷ xs) = (x.raft_group_id == g) || mentions g xs

-- For the groups of the items, no places or moves are reserved any more. Other groups have the same reservations as
-- before, and have a table if and only if they had one.
pub record IsTakenBack (old new : MemTables) (items : List LogItem) : Type 0 where
  pub forgotten : (g : ℕ) → mentions g items ≡ true → IsForgotten (promise_of new g)
  pub others : (g : ℕ) → mentions g items ≡ false → promise_of new g ≡ promise_of old g
  pub tables : (g : ℕ) → mentions g items ≡ false → has_table new g ≡ has_table old g

-- Why an item isn't applied to entries with the range `w`. The error is `Hole` or `Memory`, and `Hole` only if the
-- item's run leaves a hole or an index too high.
abbrev pub ItemRefused : {E V : Type 0} → Window → Item E V → Error → Type 0
ItemRefused w x error = ((error ≡ errors.Hole) × (MayFollow w x → ⊥)) ⊎ (error ≡ errors.Memory)

-- Why the batch `xs` isn't applied to the tables `v`. The error is `Hole` or `Memory`, and `Hole` only if a run leaves
-- a hole or an index too high.
abbrev pub BatchRefused : {E V : Type 0} → (ℕ → Shown) → List (Tagged E V) → Error → Type 0
BatchRefused v xs error = ((error ≡ errors.Hole) × (MayFollowAll v xs → ⊥)) ⊎ (error ≡ errors.Memory)

-- the items as they are written to Append: with the bytes of their entries, which `at` gives for each place
abbrev pub all_written : {E : Type 0} → (Located → E) → List (Tagged Place (List ℕ)) → List (Tagged E (List ℕ))
all_written at xs = map (renamed_tagged (λ p. at (in_queue true p))) xs
