-- Which groups a purge of Append picks: those that the caller is asked to compact, and those that the purge rewrites
-- itself. `marks` are the purge's watermarks, and `m` the tables of all groups.
use Rattle.std.specs.Prelude.{◌≡◌, ℕ, Bool, false, ◌&&◌, ◌||◌, nat_lt, List, Option, Some, None, unwrap_or}
use Rattle.std.specs.BTreeMap.{get}
use Rattle.std.specs.List.{filter}
use Rattle.std.specs.Ordering.{nat_cmp}
use Rattle.raft_log_memtables.specs.declared.mem_tables.MemTables.{MemTables}
use Rattle.raft_log_memtables.specs.Tables.{raw_of}
use Rattle.raft_log_memtable.specs.Table.{Raw, shown}
use Rattle.raft_log_memtables.specs.Walking.{ListsGroups}
use Rattle.raft_log_purge_policy.specs.declared.picking.GroupLists.{GroupLists}
use Rattle.raft_log_purge_policy.specs.declared.watermarks.Watermarks.{Watermarks}
use Rattle.raft_log_purge_policy.specs.declared.rounds.Rounds.{Rounds}
use Rattle.raft_log_purge_policy.specs.Rules.{asks, rewrites}

-- in how many purges in a row the caller was asked to compact group `g`
abbrev pub count_of : Rounds → ℕ → ℕ
count_of rounds g = unwrap_or (get nat_cmp rounds.counts g) 0

-- whether the caller is asked to compact the group with this table; never if there is no table
abbrev pub asks_in : Watermarks → Option Raw → Bool
asks_in marks None = false
asks_in marks (Some t) = asks marks t

-- whether the group with this table is rewritten, if `rounds` purges in a row asked to compact it before; never if
-- there is no table
abbrev pub rewrites_in : Watermarks → ℕ → Option Raw → Bool
rewrites_in marks rounds None = false
rewrites_in marks rounds (Some t) = rewrites marks rounds t

-- whether the caller is asked to compact group `g`
abbrev pub asks_at : Watermarks → MemTables → ℕ → Bool
asks_at marks m g = asks_in marks (raw_of m g)

-- whether group `g` is rewritten; `counts` gives for each group how many purges in a row asked to compact it before
abbrev pub rewrites_at : Watermarks → (ℕ → ℕ) → MemTables → ℕ → Bool
rewrites_at marks counts m g = rewrites_in marks (counts g) (raw_of m g)

-- whether the caller is asked to compact the group with this table; never if there are no watermarks, since then Append
-- isn't purged
abbrev pub asks_by : Option Watermarks → Raw → Bool
asks_by None t = false
asks_by (Some marks) t = asks marks t

-- Whether the group with this table is returned to the purge's caller. It is if the caller is asked to compact it. It
-- also is if this purge has compacted Rewrite (`restated`), and the group has more than 32 entries in Rewrite.
abbrev pub answers_in : Option Watermarks → Bool → Option Raw → Bool
answers_in marks restated None = false
answers_in marks restated (Some t) = asks_by marks t || (restated && nat_lt 32 (shown t).rewritten)

-- whether group `g` is returned to the purge's caller
abbrev pub answers_at : Option Watermarks → Bool → MemTables → ℕ → Bool
answers_at marks restated m g = answers_in marks restated (raw_of m g)

-- `picked` lists the groups that a purge of Append up to these watermarks picks. `counts` gives for each group how many
-- purges in a row asked to compact it before. `restated` says whether this purge has compacted Rewrite.
pub record ListsPicked (marks : Watermarks) (counts : ℕ → ℕ) (restated : Bool) (m : MemTables) (picked : GroupLists)
    : Type 0 where
  pub asked : ListsGroups (asks_at marks m) picked.asked.items
  pub rewritten : ListsGroups (rewrites_at marks counts m) picked.rewritten.items
  pub answered : ListsGroups (answers_at (Some marks) restated m) picked.answered.items

-- `picked` lists those of `groups` that the purge picks, in the order of `groups`
pub record PicksOf (marks : Watermarks) (counts : ℕ → ℕ) (restated : Bool) (m : MemTables) (groups : List ℕ)
    (picked : GroupLists) : Type 0 where
  pub asked : picked.asked.items ≡ filter (asks_at marks m) groups
  pub rewritten : picked.rewritten.items ≡ filter (rewrites_at marks counts m) groups
  pub answered : picked.answered.items ≡ filter (answers_at (Some marks) restated m) groups
