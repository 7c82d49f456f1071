-- Room that the tables reserved for entries that are to move to Rewrite, so that applying a written record can't fail.
use Rattle.std.specs.Prelude.{◌≡◌, ◌⊎◌, ◌++◌, ℕ, true, false, List, [], ◌∷◌, OnErr, Result}
use Rattle.raft_log_record_items.specs.declared.entry.EntryIndex.{EntryIndex}
use Rattle.raft_log_record_items.specs.declared.item.LogItem.{LogItem}
use Rattle.raft_log_record_frames.specs.Meaning.{tagged_items}
use Rattle.raft_log_dual_pipes.specs.Pipes.{LogPipes, is_failed}
use Rattle.raft_log_memtables.specs.declared.mem_tables.MemTables.{MemTables}
use Rattle.raft_log_memtables.specs.Tables.{promise_of}
use Rattle.raft_log_memtables.specs.Batch.{mentions}
use Rattle.raft_log_memtables.specs.Rewriting.{entries_of}
use Rattle.raft_log_purge_copy.specs.declared.parts.RestatedPart.{RestatedPart}
use Rattle.raft_log_purge_copy.specs.GroupParts.{items_of_all}

-- no table has room reserved for entries that are to move to Rewrite
abbrev pub PromisesNoMoves : MemTables → Type 0
PromisesNoMoves m = (g : ℕ) → (promise_of m g).moves ≡ 0

-- If the tables had no room reserved for moves before a call (`old`), they have none after it (`new`). This is claimed
-- only if the call succeeded, or if the pipes `w` haven't failed.
abbrev pub LeavesNoMoves : {A E : Type 0} → Result A E → LogPipes → MemTables → MemTables → Type 0
LeavesNoMoves result w old new = OnErr result (is_failed w ≡ false) → PromisesNoMoves old → PromisesNoMoves new

-- each of the parts has an item of group `g`
abbrev pub AllMention : ℕ → List RestatedPart → Type 0
AllMention g [] = Unit {0}
AllMention g (x ∷ xs) = (mentions g x.items.items ≡ true) × AllMention g xs

-- group `g` has an item in each of the parts and among `items`; or it has no entries in the parts, nor among `items`
abbrev pub IsInAllOrNone : ℕ → List RestatedPart → List LogItem → Type 0
IsInAllOrNone g parts items = (AllMention g parts × (mentions g items ≡ true))
    ⊎ (entries_of g (tagged_items {E = EntryIndex} (λ e. e) (items_of_all parts ++ items)) ≡ 0)

-- Each group has items in all the parts and in `items`, or has no entries in any of them. This is so if the parts and
-- `items` restate one group.
abbrev pub AreOfOne : List RestatedPart → List LogItem → Type 0
AreOfOne parts items = (g : ℕ) → IsInAllOrNone g parts items
