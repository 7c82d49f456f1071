-- The tables of all groups: what callers see of each, what each has reserved, and which groups count. A group counts
-- if it has had items and the last one wasn't a Clean.
use Rattle.std.specs.Prelude.{◌≡◌, ◌⊎◌, ℕ, Bool, true, false, Option, Some, None, is_some, option_map, if◌then◌else◌}
use Rattle.std.specs.BTreeMap.{get}
use Rattle.std.specs.Ordering.{nat_cmp}
use Rattle.raft_log_memtable_index.specs.Shown.{Shown, nothing_shown, span}
use Rattle.raft_log_memtable.specs.Room.{Promise, no_promise, IsVacant}
use Rattle.raft_log_memtable_index.specs.Replayed.{Replayed, nothing_replayed}
use Rattle.raft_log_memtable.specs.Table.{Raw, promise, replay_of, shown}
use Rattle.raft_log_memtables.specs.declared.group_table.GroupTable.{GroupTable}
use Rattle.raft_log_memtables.specs.declared.mem_tables.MemTables.{MemTables}

-- what callers see of a group with this table, or with none
abbrev pub shown_in : Option GroupTable → Shown
shown_in None = nothing_shown
shown_in (Some t) = shown t.table

-- what a group with this table, or with none, has reserved
abbrev pub promise_in : Option GroupTable → Promise
promise_in None = no_promise
promise_in (Some t) = promise t.table

-- the result of the replay for a group with this table, or with none
abbrev pub replayed_in : Option GroupTable → Replayed
replayed_in None = nothing_replayed
replayed_in (Some t) = replay_of t.table

-- whether a group with this table, or with none, counts
abbrev pub counts_in : Option GroupTable → Bool
counts_in None = false
counts_in (Some t) = t.counts

-- the table, if its group counts
abbrev pub counting : Option GroupTable → Option Raw
counting None = None
counting (Some t) = if t.counts then Some t.table else None

-- what callers see of each group's table; without a table, it is empty
abbrev pub shown_of : MemTables → ℕ → Shown
shown_of m g = shown_in (get nat_cmp m.groups g)

-- what each group has reserved; nothing without a table
abbrev pub promise_of : MemTables → ℕ → Promise
promise_of m g = promise_in (get nat_cmp m.groups g)

-- the result of the replay for each group; nothing without a table
abbrev pub replayed_of : MemTables → ℕ → Replayed
replayed_of m g = replayed_in (get nat_cmp m.groups g)

-- whether group `g` counts: it has had items, and the last one wasn't a Clean
abbrev pub counts : MemTables → ℕ → Bool
counts m g = counts_in (get nat_cmp m.groups g)

-- whether group `g` has a table, which may be empty
abbrev pub has_table : MemTables → ℕ → Bool
has_table m g = is_some (get nat_cmp m.groups g)

-- the table of group `g`, if the group counts
abbrev pub table_of : MemTables → ℕ → Option Raw
table_of m g = counting (get nat_cmp m.groups g)

-- the table of group `g`, if it has one, whether the group counts or not
abbrev pub raw_of : MemTables → ℕ → Option Raw
raw_of m g = option_map (λ t. t.table) (get nat_cmp m.groups g)

-- what callers see of every group is unchanged, and the same groups count
pub record ShowsSame (old new : MemTables) : Type 0 where
  pub shown : (g : ℕ) → shown_of new g ≡ shown_of old g
  pub counts : (g : ℕ) → counts new g ≡ counts old g

-- in every group, the reserved range of indexes is that of the entries
abbrev pub IsAtRest : MemTables → Type 0
IsAtRest m = (g : ℕ) → (promise_of m g).ends ≡ span (shown_of m g)

-- every group has the same reservations as before
abbrev pub PromisesSame : MemTables → MemTables → Type 0
PromisesSame old new = (g : ℕ) → promise_of new g ≡ promise_of old g

-- the same groups have a table as before
abbrev pub TablesSame : MemTables → MemTables → Type 0
TablesSame old new = (g : ℕ) → has_table new g ≡ has_table old g

-- the table is needed: its group counts, or the table differs from a new one
abbrev pub IsNeededTable : GroupTable → Type 0
IsNeededTable t = (t.counts ≡ true) ⊎ (IsVacant (shown t.table) (promise t.table) → ⊥)

-- group `g` needs a table: it counts, or its table differs from a new one
abbrev pub IsNeeded : MemTables → ℕ → Type 0
IsNeeded m g = (counts m g ≡ true) ⊎ (IsVacant (shown_of m g) (promise_of m g) → ⊥)
