-- The tables apply a whole atomic group of copies that has items of one raft group only.
use Rattle.std.specs.Prelude.{◌≡◌, ◌==◌, ℕ, true, false, List, [], ◌∷◌, ◌++◌, Option}
use Rattle.raft_log_record_base.specs.declared.pipe_log.FileBlockHandle.{FileBlockHandle}
use Rattle.raft_log_record_frames.specs.declared.status.AtomicGroupStatus.TheVariants.{End}
use Rattle.raft_log_record_batches.specs.Batch.{Batch}
use Rattle.raft_log_block_cache.specs.Signing.{signed_for}
use Rattle.raft_log_machine_laws.specs.Calls.Which.{InRewrite}
use Rattle.raft_log_memtable_index.specs.declared.group_files.GroupFiles.{GroupFiles}
use Rattle.raft_log_memtable_index.specs.Shown.{IsOrderly}
use Rattle.raft_log_memtable_index.specs.Bridge.{Located}
use Rattle.raft_log_memtable_index.specs.Noted.{FilesRise}
use Rattle.raft_log_block_cache.specs.raft_log_memtables.specs.declared.mem_tables.MemTables.{MemTables}
use Rattle.raft_log_block_cache.specs.raft_log_memtables.specs.Joining.{noted_in}
use Rattle.raft_log_block_cache.specs.raft_log_memtables.specs.Rewriting.{TakesRewritten}
use Rattle.raft_log_block_cache.specs.raft_log_memtables.specs.Tables.{has_table, raw_of, replayed_of, shown_of}
use Rattle.raft_log_block_cache.specs.raft_log_dual_pipes.specs.Calls.{AppendsTo}
use Rattle.raft_log_block_cache.specs.raft_log_dual_pipes.specs.Pipes.{LogPipes}
use Rattle.raft_log_block_cache.specs.declared.block_cache.BlockCache.{BlockCache}
use Rattle.raft_log_engine_laws.specs.EngineState.{LogDirectories, KeepsOrForgets, LogMap, shows}
use Rattle.raft_log_engine_laws.specs.Holding.{Represents}
use Rattle.raft_log_engine_laws.specs.Writing.{items_at}
use Rattle.raft_log_engine_laws.specs.Parts.{FilesGoUp, HoldsInGroup, IsGroupPart, UnendedGroup, WrittenPart, parts_of}
use Rattle.raft_log_engine_laws.specs.Whole.{IsWholeCopy, batches_of, filed_items, parts_moved}
use Rattle.raft_log_engine_laws.specs.Restating.{RestatesGroup, said_of_group}
use Rattle.raft_log_engine_laws.specs.Ending.{ShowsWhole, files_of_group}

-- from `old` to `new`, what the tables show changed only by the moves of these parts' items to Rewrite
abbrev pub MovedParts : Option ℕ → List WrittenPart → MemTables → MemTables → Type 0
MovedParts gate ps old new = (g : ℕ) → shown_of new g ≡ parts_moved gate g ps (shown_of old g)

-- if the items of the parts `ps` moved, and then the tables applied one more part, the items of all these parts moved
abbrev pub MovesOnePart : Type 0
MovesOnePart = (gate : Option ℕ) (ps : List WrittenPart) (block : FileBlockHandle) (b : Batch)
    (old m new : MemTables) → MovedParts gate ps old m
    → TakesRewritten gate block.id.seq m new (items_at block b)
    → MovedParts gate (ps ++ record { block = block; batch = b } ∷ []) old new

-- an atomic group's files were noted in the table of raft group `group`, and no other table changed
pub record NotesFiles (group : ℕ) (files : GroupFiles) (old new : MemTables) : Type 0 where
  pub noted : replayed_of new group ≡ noted_in files (raw_of old group)
  pub others : (g : ℕ) → (group == g) ≡ false → replayed_of new g ≡ replayed_of old g

-- The tables `old` moved the items of the parts `ps`, and became `m`. Then they noted the atomic group's files, and
-- became `new`. The law says that `new` shows the whole atomic group (`ShowsWhole`). Premises:
-- - The parts are whole copies (`IsWholeCopy`), with items of raft group `group` only, which has a table.
-- - File numbers never fall from one part to the next.
-- - In each queue, the file numbers of a group's entries never fall as the index rises.
abbrev pub TablesTakeWholeGroups : Type 0 → Type 0
TablesTakeWholeGroups E = (at : Located → E) (gate : Option ℕ) (a : ℕ) (ps : List WrittenPart)
    (files : GroupFiles) (group : ℕ) (old m new : MemTables) → ((g : ℕ) → IsOrderly (shown_of old g))
    → ((g : ℕ) → FilesRise a files.from (shown_of old g)) → FilesGoUp files.from files.to ps
    → ((g : ℕ) → IsWholeCopy at gate (shown_of old g) (filed_items g ps))
    → ((g : ℕ) → (group == g) ≡ false → filed_items g ps ≡ []) → has_table m group ≡ true
    → MovedParts gate ps old m → NotesFiles group files m new
    → ShowsWhole gate ps files (shown_of old) (shown_of new)

-- The batches of the atomic group `o`, with the last batch `b`, restate raft group `group` and have no items of
-- others. The pipes `v` wrote the record of `b` and became `w`. The tables `old` moved the items of all parts and
-- became `m`, then noted the files and became `new`. Then the log has the same contents.
abbrev pub EndsOverTables : Type 0
EndsOverTables = (home : LogDirectories) (v w : LogPipes) (old m new : MemTables) (cache after : BlockCache)
    (gate : Option ℕ) (o : UnendedGroup) (b : Batch) (block : FileBlockHandle) (map : LogMap) (group : ℕ)
    → HoldsInGroup home (shows v old cache) map o → IsGroupPart o.number End b
    → ((g : ℕ) → RestatesGroup g (batches_of (parts_of o) ++ b ∷ []) (shown_of old g) (map g))
    → ((g : ℕ) → (group == g) ≡ false → said_of_group g (batches_of (parts_of o) ++ b ∷ []) ≡ [])
    → AppendsTo InRewrite (signed_for b) block v w → has_table m group ≡ true
    → MovedParts gate (parts_of o ++ record { block = block; batch = b } ∷ []) old m
    → NotesFiles group (files_of_group o block) m new
    → KeepsOrForgets (shows v old cache) (shows w new after) → Represents home (shows w new after) map []
