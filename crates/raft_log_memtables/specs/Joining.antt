-- How the tables of two consecutive segments (the files that one worker reads) are joined, and how the tables read from
-- Append are applied over those read from Rewrite. `old` and `new` are the tables before and after. `newer` are the
-- tables read from the later segment. `append` are the tables read from Append.
use Rattle.std.specs.Prelude.{◌≡◌, ℕ, ◌==◌, ◌⊎◌, Bool, false, ◌&&◌, ◌||◌, not, Option, Some, None}
use Rattle.raft_log_record_base.specs.declared.errors.Error.{Error}
use Rattle.raft_log_record_base.specs.declared.errors.Error.TheVariants as errors
use Rattle.raft_log_memtable_index.specs.declared.group_files.GroupFiles.{GroupFiles}
use Rattle.raft_log_memtable_index.specs.Bridge.{unmarked}
use Rattle.raft_log_memtable_index.specs.Shown.{Shown}
use Rattle.raft_log_memtable_index.specs.Replayed.{Replayed, joined, merged, nothing_replayed, LeavesHole}
use Rattle.raft_log_memtable.specs.Files.{with_group, with_read_group}
use Rattle.raft_log_memtable.specs.Table.{Raw, replay_of, shown}
use Rattle.raft_log_memtables.specs.declared.group_table.GroupTable.{GroupTable}
use Rattle.raft_log_memtables.specs.declared.mem_tables.MemTables.{MemTables}
use Rattle.raft_log_memtables.specs.Tables.{counts, replayed_of, shown_of}
use Rattle.raft_log_memtables.specs.Replaying.{StaysAt}

-- Whether a group counts after two segments. It does if it counts in the later one, or if it counted in the earlier one
-- and has no Clean in the later one.
abbrev pub counts_with : MemTables → MemTables → ℕ → Bool
counts_with old newer g = counts newer g || (counts old g && not (shown_of newer g).cleaned)

-- In group `g`, `new` has the result of both segments: `old` has that of the earlier segment, `newer` that of the later
-- one. The later segment's entries leave no hole after those of the earlier segment.
pub record JoinsAt (old newer new : MemTables) (g : ℕ) : Type 0 where
  pub read : replayed_of new g ≡ joined (replayed_of old g) (replayed_of newer g)
  pub counting : counts new g ≡ counts_with old newer g
  pub fits : LeavesHole (shown_of old g) (replayed_of newer g) → ⊥

-- the table `newer` of group `group` was joined to the group's table, without a hole, and no other group changed
pub record JoinsOne (old new : MemTables) (group : ℕ) (newer : GroupTable) : Type 0 where
  pub read : replayed_of new group ≡ joined (replayed_of old group) (replay_of newer.table)
  pub counting : counts new group ≡ newer.counts || (counts old group && not (shown newer.table).cleaned)
  pub fits : LeavesHole (shown_of old group) (replay_of newer.table) → ⊥
  pub others : (g : ℕ) → (group == g) ≡ false → StaysAt old new g

-- Why the later segment's table of a group, with the replay's result `z`, isn't joined to the earlier table `v`. The
-- error is `Hole` or `Memory`, and `Hole` only if the later entries leave a hole.
abbrev pub TableRefused : Shown → Replayed → Error → Type 0
TableRefused v z error = ((error ≡ errors.Hole) × LeavesHole v z) ⊎ (error ≡ errors.Memory)

-- in every group, both segments were joined
abbrev pub JoinsAll : MemTables → MemTables → MemTables → Type 0
JoinsAll old newer new = (g : ℕ) → JoinsAt old newer new g

-- in some groups both segments were joined, and the other groups are unchanged
abbrev pub JoinsSome : MemTables → MemTables → MemTables → Type 0
JoinsSome old newer new = (g : ℕ) → StaysAt old new g ⊎ JoinsAt old newer new g

-- Why the later segment isn't joined. The error is `Hole` or `Memory`, and `Hole` only if the segment's entries leave a
-- hole in some group.
abbrev pub JoinRefused : MemTables → MemTables → Error → Type 0
JoinRefused old newer error =
    ((error ≡ errors.Hole) × ((g : ℕ) × LeavesHole (shown_of old g) (replayed_of newer g)))
    ⊎ (error ≡ errors.Memory)

-- in group `g`, the table read from Append was applied over the table read from Rewrite
pub record MergesAt (old append new : MemTables) (g : ℕ) : Type 0 where
  pub shows : shown_of new g ≡ merged (shown_of old g) (replayed_of append g)
  pub counting : counts new g ≡ counts_with old append g

-- in group `g`, the table that callers see is unchanged, and so is whether the group counts
abbrev pub SameAt : MemTables → MemTables → ℕ → Type 0
SameAt old new g = (shown_of new g ≡ shown_of old g) × (counts new g ≡ counts old g)

-- the table `append` of group `group` was applied over the group's table, and no other group changed
pub record MergesOne (old new : MemTables) (group : ℕ) (append : GroupTable) : Type 0 where
  pub shows : shown_of new group ≡ merged (shown_of old group) (replay_of append.table)
  pub counting : counts new group ≡ append.counts || (counts old group && not (shown append.table).cleaned)
  pub others : (g : ℕ) → (group == g) ≡ false → SameAt old new g

-- in every group, the table read from Append was applied over the table read from Rewrite
abbrev pub MergesAll : MemTables → MemTables → MemTables → Type 0
MergesAll old append new = (g : ℕ) → MergesAt old append new g

-- group `g` is unchanged, but owes no tombstones any more
abbrev pub UnmarkedAt : MemTables → MemTables → ℕ → Type 0
UnmarkedAt old new g = (shown_of new g ≡ unmarked (shown_of old g)) × (counts new g ≡ counts old g)

-- In some groups, the table read from Append was applied over the table read from Rewrite. The other groups only lost
-- their owed tombstones.
abbrev pub MergesSome : MemTables → MemTables → MemTables → Type 0
MergesSome old append new = (g : ℕ) → UnmarkedAt old new g ⊎ MergesAt old append new g

-- The result of a raft group's replay after an atomic group in these files was read. Files that were noted before stay
-- noted. If the raft group has no table, the result is that of a replay without items.
abbrev pub read_noted_in : GroupFiles → Option Raw → Replayed
read_noted_in files None = nothing_replayed
read_noted_in files (Some t) = with_read_group (replay_of t) files

-- The result of a raft group's replay after an atomic group in these files ended. Files that were noted before are
-- dropped if all of them are below the raft group's lowest file of Rewrite, or if it has no such file. If the raft
-- group has no table, the result is that of a replay without items.
abbrev pub noted_in : GroupFiles → Option Raw → Replayed
noted_in files None = nothing_replayed
noted_in files (Some t) = record (replay_of t) { table = with_group t files }
