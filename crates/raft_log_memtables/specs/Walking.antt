-- Lists of groups, a sum over all groups, and the lowest file that any group needs.
use Rattle.std.specs.Prelude.{◌≡◌, ◌⊎◌, ◌≤◌, ◌-◌, ◌^◌, ℕ, ◌==◌, min, Bool, false, ◌||◌, List, [], ◌∷◌, Option, Some, None, sum_by}
use Rattle.std.specs.BTreeMap.{get}
use Rattle.std.specs.List.{list_any}
use Rattle.std.specs.List.Sorted.{IsStrictlySortedBy}
use Rattle.std.specs.Ordering.{nat_cmp}
use Rattle.raft_log_record_base.specs.declared.pipe_log.LogQueue.{LogQueue}
use Rattle.raft_log_memtable_index.specs.Shown.{Shown}
use Rattle.raft_log_memtable.specs.Files.{IsMinFile, min_file}
use Rattle.raft_log_memtable.specs.Reads.{StandIn}
use Rattle.raft_log_memtable.specs.Table.{Raw, shown}
use Rattle.raft_log_memtables.specs.declared.group_table.GroupTable.{GroupTable}
use Rattle.raft_log_memtables.specs.declared.mem_tables.MemTables.{MemTables}
use Rattle.raft_log_memtables.specs.Tables.{has_table, raw_of, shown_of}

-- `gs` lists each group for which `test` is true, once, in ascending order
pub record ListsGroups (test : ℕ → Bool) (gs : List ℕ) : Type 0 where
  pub rising : IsStrictlySortedBy nat_cmp gs
  pub exact : (g : ℕ) → list_any (λ k. k == g) gs ≡ test g

-- whether a group with this table, or with none, is listed: if `all` is true, each group with a table is, otherwise
-- only those that count
abbrev pub listed_in : Bool → Option GroupTable → Bool
listed_in all None = false
listed_in all (Some t) = all || t.counts

-- whether group `g` is listed: if `all` is true, each group with a table is, otherwise only those that count
abbrev pub is_listed : Bool → MemTables → ℕ → Bool
is_listed all m g = listed_in all (get nat_cmp m.groups g)

-- `ns` has for each of the groups `gs` the number of its entries and values in Rewrite
abbrev pub StandInEach : (ℕ → Shown) → List ℕ → List ℕ → Type 0
StandInEach v [] [] = Unit {0}
StandInEach v (g ∷ gs) (n ∷ ns) = StandIn (v g) n × StandInEach v gs ns
StandInEach v gs ns = ⊥

-- `n` is the number of entries and values of all groups in Rewrite, or 2 ^ 64 - 1 if there are more
abbrev pub Stand : MemTables → ℕ → Type 0
Stand m n = (gs : List ℕ) × ListsGroups (has_table m) gs
    × ((ns : List ℕ) × StandInEach (shown_of m) gs ns × (n ≡ min (sum_by (λ k. k) ns) (2 ^ 64 - 1)))

-- the lowest file of `queue` that the table needs, if there is a table and such a file
abbrev pub least_in : LogQueue → Option Raw → Option ℕ
least_in queue None = None
least_in queue (Some t) = min_file queue t

-- `n` is the lowest file of `queue` that the table needs, as `min_file` computes it and as `IsMinFile` says
abbrev pub IsLeastInTable : LogQueue → Raw → ℕ → Type 0
IsLeastInTable queue t n = (min_file queue t ≡ Some n) × IsMinFile queue (shown t) (Some n)

-- `n` is the lowest file of `queue` that group `g` needs, as `min_file` computes it and as `IsMinFile` says
abbrev pub IsLeastIn : LogQueue → MemTables → ℕ → ℕ → Type 0
IsLeastIn queue m g n = (least_in queue (raw_of m g) ≡ Some n) × IsMinFile queue (shown_of m g) (Some n)

-- `least` is the lowest file of `queue` that any group needs, or `limit` if `limit` is lower or no group needs a file
pub record IsLeastOf (queue : LogQueue) (limit : ℕ) (m : MemTables) (least : ℕ) : Type 0 where
  pub limited : least ≤ limit
  pub below : (g n : ℕ) → least_in queue (raw_of m g) ≡ Some n → least ≤ n
  pub exact : (least ≡ limit) ⊎ ((g : ℕ) × IsLeastIn queue m g least)
