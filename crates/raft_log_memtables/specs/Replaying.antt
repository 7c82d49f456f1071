-- How records are replayed into the tables of all groups, which are `old` before and `new` after. The flag `q` is
-- true for records of Append, and false for those of Rewrite.
use Rattle.std.specs.Prelude.{◌≡◌, ℕ, ◌==◌, ◌⊎◌, Bool, true, false, List, [], ◌∷◌, ◌++◌}
use Rattle.raft_log_record_base.specs.declared.errors.Error.{Error}
use Rattle.raft_log_record_base.specs.declared.errors.Error.TheVariants as errors
use Rattle.raft_log_model_laws.specs.Item.{Item, Tagged}
use Rattle.raft_log_model_laws.specs.Holes.{Window}
use Rattle.raft_log_model_laws.specs.Groups.{of_group}
use Rattle.raft_log_extents.specs.declared.place.Place.{Place}
use Rattle.raft_log_memtable_index.specs.Shown.{span, MayFollow}
use Rattle.raft_log_memtable_index.specs.Replayed.{Replayed, replayed}
use Rattle.raft_log_memtables.specs.declared.mem_tables.MemTables.{MemTables}
use Rattle.raft_log_memtables.specs.Tables.{counts, promise_of, replayed_of, shown_of}
use Rattle.raft_log_memtables.specs.Batch.{counts_after, counts_at_end, MayFollowAll}

-- the result of a replay after these items were read in file `n`; before them it was `z`
abbrev pub all_replayed : Bool → ℕ → Replayed → List (Item Place (List ℕ)) → Replayed
all_replayed q n z [] = z
all_replayed q n z (x ∷ xs) = all_replayed q n (replayed q n z x) xs

-- if the item is from Append, it leaves no hole and no index too high after entries with the range `w`
abbrev pub MayBeRead : {E V : Type 0} → Bool → Window → Item E V → Type 0
MayBeRead q w x = q ≡ true → MayFollow w x

-- Why an item isn't replayed onto entries with the range `w`. The error is `Hole` or `Memory`. It is `Hole` only if the
-- item is from Append, and leaves a hole or an index too high.
abbrev pub ReadRefused : {E V : Type 0} → Bool → Window → Item E V → Error → Type 0
ReadRefused q w x error =
    ((error ≡ errors.Hole) × (q ≡ true) × (MayFollow w x → ⊥)) ⊎ (error ≡ errors.Memory)

-- in group `g`, the result of the replay is unchanged, and so is whether the group counts
abbrev pub StaysAt : MemTables → MemTables → ℕ → Type 0
StaysAt old new g = (replayed_of new g ≡ replayed_of old g) × (counts new g ≡ counts old g)

-- in group `g`, the reserved range of indexes is that of its entries
abbrev pub RestsAt : MemTables → ℕ → Type 0
RestsAt m g = (promise_of m g).ends ≡ span (shown_of m g)

-- the item `x` was read in file `n` and applied to its group's table, and no other group changed
pub record ReadsOne (q : Bool) (n : ℕ) (old new : MemTables) (x : Tagged Place (List ℕ)) : Type 0 where
  pub fits : MayBeRead q (span (shown_of old x.group)) x.item
  pub read : replayed_of new x.group ≡ replayed q n (replayed_of old x.group) x.item
  pub counting : counts new x.group ≡ counts_after (counts old x.group) x.item
  pub others : (g : ℕ) → (x.group == g) ≡ false → StaysAt old new g

-- The items `xs` were read in file `n` and applied to their groups' tables. If they are from Append, none of their runs
-- leaves a hole or an index too high.
pub record ReadsAll (q : Bool) (n : ℕ) (old new : MemTables) (xs : List (Tagged Place (List ℕ)))
    : Type 0 where
  pub fits : q ≡ true → MayFollowAll (shown_of old) xs
  pub read : (g : ℕ) → replayed_of new g ≡ all_replayed q n (replayed_of old g) (of_group g xs)
  pub counting : (g : ℕ) → counts new g ≡ counts_at_end (counts old g) (of_group g xs)

-- Of the items `xs`, which were read in file `n`, those in `front` were applied. The next one, `stop`, failed with
-- `error`.
pub record ReadsUpTo (q : Bool) (n : ℕ) (old new : MemTables) (xs : List (Tagged Place (List ℕ)))
    (error : Error) : Type 0 where
  pub front : List (Tagged Place (List ℕ))
  pub stop : Tagged Place (List ℕ)
  pub back : List (Tagged Place (List ℕ))
  pub items : xs ≡ front ++ (stop ∷ back)
  pub read : ReadsAll q n old new front
  pub refused : ReadRefused q (span (shown_of new stop.group)) stop.item error
