-- What an engine's reads return from its tables. A failed engine fails every read.
use Rattle.std.specs.Prelude.{◌≡◌, ◌⊎◌, ◌+◌, ◌-◌, ◌<◌, ◌≤◌, ℕ, Bool, false, true, List, None, Option, Some, drop, length, take}
use Rattle.std.specs.declared.io.ErrorKind.TheVariants.{Other}
use Rattle.raft_log_record_base.specs.declared.errors.Error.{Error}
use Rattle.raft_log_record_base.specs.declared.errors.Error.TheVariants as errors
use Rattle.raft_log_record_base.specs.declared.pipe_log.FileBlockHandle.{FileBlockHandle}
use Rattle.raft_log_record_items.specs.declared.entry.EntryIndex.{EntryIndex}
use Rattle.raft_log_extents.specs.Bounds.{AreShort, bounds_of}
use Rattle.raft_log_extents.specs.Entries.{entries_between}
use Rattle.raft_log_extents.specs.declared.bounds.Bounds.{Bounds}
use Rattle.raft_log_memtable_index.specs.Listing.{Visits, in_direction}
use Rattle.raft_log_memtable_index.specs.Shown.{Shown}
use Rattle.raft_log_memtable.specs.Reads.{entries_from}
use Rattle.raft_log_dual_pipes.specs.Pipes.{LogPipes}
use Rattle.raft_log_purge.specs.raft_log_engine_laws.specs.Reading.{ReadsKeys}
use Rattle.raft_log_purge.specs.raft_log_engine_laws.specs.EngineState.{EngineState, has_failed, shows}
use Rattle.raft_log_engine_core.specs.declared.engine.LogEngine.{LogEngine}

-- the state of engine `e`, if `shown` gives the state of its pipes
abbrev pub shows_of : {P : Type 0} → (P → LogPipes) → LogEngine P → EngineState
shows_of shown e = shows (shown e.pipes) e.tables e.cache

-- the engine hasn't failed
abbrev pub Lives : EngineState → Type 0
Lives s = has_failed s ≡ false

-- the engine has failed, and the error is `Failed`
abbrev pub IsFailed : EngineState → Error → Type 0
IsFailed s error = (error ≡ errors.Failed) × (has_failed s ≡ true)

-- why a read fails, if it copies what it returns: `Failed` if the engine has failed; else `Memory`, as memory ran out
abbrev pub IsUncopied : EngineState → Error → Type 0
IsUncopied s error = IsFailed s error ⊎ ((error ≡ errors.Memory) × Lives s)

-- the engine's file system hasn't stopped
abbrev pub Runs : EngineState → Type 0
Runs s = s.pipes.disk.stopped ≡ false

-- The engine reports `told` if a step of a read fails with `error`; `stopped` says whether the file system has stopped.
-- `told` equals `error`, with one exception: if memory runs out after a stop, `told` is `Io(Other)`.
abbrev pub IsToldAs : Bool → Error → Error → Type 0
IsToldAs stopped error told = ((told ≡ error) × (error ≡ errors.Memory → stopped ≡ false))
    ⊎ ((error ≡ errors.Memory) × (stopped ≡ true) × (told ≡ errors.Io Other))

-- `begin` is below `end`, and the table has an entry at index `begin`
pub record HasFirst (v : Shown) (begin end : ℕ) : Type 0 where
  pub some : begin < end
  pub low : v.first ≤ begin
  pub high : begin < v.first + length v.places

-- the locations of at most `count` entries of the table `v`, from `index` on
abbrev pub entries_on : Shown → ℕ → ℕ → List EntryIndex
entries_on v index count =
    entries_from v (index - v.first) (take count (drop (index - v.first) v.places))

-- `block` and `bounds` locate consecutive entries of the table `v`, from `index` on. These are at least one and at most
-- `left` entries, all in that block.
pub record LieNext (v : Shown) (index left : ℕ) (block : FileBlockHandle) (bounds : Bounds) : Type 0 where
  pub count : ℕ
  pub len : length (bounds_of bounds) ≡ count + 1
  pub some : 0 < count
  pub few : count ≤ left
  pub are : entries_between block index (bounds_of bounds) ≡ entries_on v index count
  pub short : AreShort bounds

-- `None`: no entry is left to read. `Some`: the locations of the next entries, at least one and at most `left`, all in
-- one block.
abbrev pub AreNext : Shown → ℕ → ℕ → Option (FileBlockHandle × Bounds) → Type 0
AreNext v index left None = left ≡ 0
AreNext v index left (Some (block, bounds)) = LieNext v index left block bounds

-- `counts` is false for every group: no item of any group came after the group's last `Clean`
abbrev pub NoneCounts : (ℕ → Bool) → Type 0
NoneCounts counts = (g : ℕ) → counts g ≡ false

-- The callback is called with each key of group `g` in the requested range, and its value. The calls are in ascending
-- order of the keys' bytes, or in descending order if `backwards`. They end when the callback returns false.
abbrev pub ScansKeys : {F : Type 0} → (F → List ℕ → List ℕ → Bool → F → Type 0) → F → EngineState → ℕ
    → Option (List ℕ) → Option (List ℕ) → Bool → Type 0
ScansKeys called callback s g start end backwards = (es : List (List ℕ × List ℕ))
    × ReadsKeys s g start end es × Visits called callback (in_direction backwards es)
