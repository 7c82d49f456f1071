-- Log compaction: deletes a group's entries below an index. `s` is the engine's state before the call, `t` the one
-- after.
use Rattle.std.specs.Prelude.{◌≡◌, ◌⊎◌, ◌-◌, ℕ, false, min, [], ◌∷◌, length, Option, None, Some, if◌then◌else◌, nat_lt}
use Rattle.raft_log_record_base.specs.declared.errors.Error.{Error}
use Rattle.raft_log_record_base.specs.declared.errors.Error.TheVariants as errors
use Rattle.raft_log_record_items.specs.declared.command.Command.TheVariants as commands
use Rattle.raft_log_memtable_index.specs.Shown.{Shown}
use Rattle.raft_log_record_batches.specs.Batch.{Batch}
use Rattle.raft_log_record_batches.specs.declared.log_batch.BatchState.TheVariants.{Filling}
use Rattle.raft_log_record_frames.specs.ItemBatch.{command_item}
use Rattle.raft_log_purge.specs.raft_log_engine_laws.specs.Fetching.{HadFailed}
use Rattle.raft_log_purge.specs.raft_log_engine_laws.specs.EngineState.{EngineState, has_failed}
use Rattle.raft_log_purge.specs.raft_log_engine_laws.specs.Writing.{NotWritten, Writes}
use Rattle.raft_log_engine_core.specs.Touching.{LeavesRecord, WritesRecord}

-- how many entries the group with table `v` has below `index`; `None` if it has no entries at all
abbrev pub entries_below : Shown → ℕ → Option ℕ
entries_below v index =
    if nat_lt 0 (length v.places) then Some (min (index - v.first) (length v.places)) else None

-- batch `b` has a single item, which deletes the entries of group `g` below `index`; its record isn't encoded yet
pub record SaysCompact (g index : ℕ) (b : Batch) : Type 0 where
  pub items : b.items ≡ command_item g (commands.Compact index) ∷ []
  pub entries : b.entries ≡ []
  pub fills : b.state ≡ Filling

-- A batch that deletes the entries of group `g` below `index` was written, without a sync. `WritesRecord` says what was
-- done to the files: Append may have rotated before the record.
abbrev pub WritesCompact : ℕ → ℕ → EngineState → EngineState → Type 0
WritesCompact g index s t = (b : Batch) × SaysCompact g index b × Writes b false s t
    × WritesRecord b s.pipes t.pipes

-- A call deleted the `count` entries that group `g` had below `index`. If the group has no entries, `count` is 0 and
-- nothing was written.
abbrev pub CompactsTo : ℕ → ℕ → ℕ → EngineState → EngineState → Type 0
CompactsTo g index count s t =
    ((entries_below (s.tables g) index ≡ None) × (count ≡ 0) × (has_failed s ≡ false) × (t ≡ s))
    ⊎ ((entries_below (s.tables g) index ≡ Some count) × WritesCompact g index s t)

-- Writing the batch that deletes the entries of group `g` below `index` failed. Either memory ran out before the write,
-- and nothing was done; or the write failed, and left the files as `LeavesRecord` says.
abbrev pub FailsToWriteCompact : ℕ → ℕ → Error → EngineState → EngineState → Type 0
FailsToWriteCompact g index error s t =
    ((error ≡ errors.Memory) × (has_failed s ≡ false) × (t ≡ s))
    ⊎ ((b : Batch) × SaysCompact g index b × NotWritten b error s t × LeavesRecord b error s.pipes t.pipes)

-- Why deleting entries of group `g` fails: the engine had failed before; or the group has entries, and writing the
-- batch failed.
abbrev pub FailsToCompact : ℕ → ℕ → Error → EngineState → EngineState → Type 0
FailsToCompact g index error s t = HadFailed s t error
    ⊎ ((entries_below (s.tables g) index ≡ None → ⊥) × FailsToWriteCompact g index error s t)
