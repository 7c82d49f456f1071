-- How serving one request of a round ends, and what it does to the engine's log and to the outlines. A group's outline
-- is its voter without the data of its entries.
use Rattle.std.specs.Prelude.{◌≡◌, ◌⊎◌, ◌≤◌, ◌<◌, ℕ, Bool, true, false, ◌==◌, List, [], ◌++◌, length, Some}
use Rattle.raft_log_fs.specs.Causes.{Fails, IsLater}
use Rattle.raft_log_model_laws.specs.Groups.{taken}
use Rattle.raft_log_record_base.specs.declared.errors.Error.{Error}
use Rattle.raft_log_record_base.specs.declared.errors.Error.TheVariants as errors
use Rattle.raft_log_record_base.specs.declared.pipe_log.FileBlockHandle.{FileBlockHandle}
use Rattle.raft_log_record_items.specs.declared.entry.EntryIndex.{EntryIndex}
use Rattle.raft_log_record_frames.specs.Meaning.{record_of}
use Rattle.raft_log_record_batches.specs.Batch.{Batch}
use Rattle.raft_log_record_batches.specs.Places.{entry_bytes}
use Rattle.raft_log_engine_laws.specs.EngineState.{LogDirectories, IsWritable, LogMap, EngineState, has_failed}
use Rattle.raft_log_engine_laws.specs.Holding.{EndsAt, Represents, IsRecoverableAs}
use Rattle.raft_log_machine_laws.specs.Calls.Which.{InAppend}
use Rattle.raft_log_engine_laws.specs.raft_log_memtable.specs.Reads.{entry_at}
use Rattle.raft_log_engine_laws.specs.raft_log_dual_pipes.specs.Numbers.{HasLastNumber}
use Rattle.raft_log_engine_laws.specs.raft_log_dual_pipes.specs.Pipes.{LogRecordValue}
use Rattle.raft_log_engine_laws.specs.raft_log_block_cache.specs.Blocks.{IsFileUnread}
use Rattle.raft_voter_messages.specs.declared.reply.Reply.{Reply}
use Rattle.raft_voter_messages.specs.declared.request.Request.{Request}
use Rattle.raft_voter_messages.specs.declared.request.Request.TheVariants.{Read}
use Rattle.raft_voter_messages.specs.Ranges.{in_range}
use Rattle.raft_voter_outline.specs.declared.outline.decision.Change.{Change}
use Rattle.raft_voter_outline.specs.Decisions.{OutlineBecomes}
use Rattle.raft_voter_outline.specs.Rules.{reply}
use Rattle.raft_voter_outline.specs.State.{State}
use Rattle.raft_voter.specs.Rounds.{World, after_one}
use Rattle.raft_voter.specs.Service.{is_refused}
use Rattle.raft_voter_records.specs.Voters.{Means}
use Rattle.raft_voter_records.specs.MeaningChanges.{decided_items, record_in}
use Rattle.raft_voter_durability_laws.specs.Standing.{AreOutlines}

-- batch `b` may be written, and has the items of the change `c`, which was decided for request `q` of group `g`
pub record SaysChange (g : ℕ) (q : Request) (c : Change) (b : Batch) : Type 0 where
  pub says : record_of (entry_bytes b.entries) b.items ≡ Some (record_in g (decided_items c q))
  pub writable : IsWritable b.state

-- From `os` to `us`, the outline of the request's group has become that of its voter after the request. The other
-- outlines are unchanged.
pub record StepsOutlines (q : ℕ × Request) (os us : ℕ → State) : Type 0 where
  pub own : OutlineBecomes (os q.0) q.1 (us q.0)
  pub others : (g : ℕ) → (g == q.0) ≡ false → us g ≡ os g

-- Engine `s` served request `q` with the reply `a`, and is `t` after it. At most one record was written, and none if
-- `wrote` is false. The log of `t` stores the voters after the request. Their outlines were `os` and are now `us`. The
-- reply is the voter's own. It is `Refused` only if the request is out of range.
pub record Served (q : ℕ × Request) (a : Reply) (wrote : Bool) (s t : EngineState) (os us : ℕ → State) : Type 0 where
  pub said : List LogRecordValue
  pub short : length said ≤ 1
  pub silent : wrote ≡ false → said ≡ []
  pub alive : has_failed t ≡ false
  pub later : IsLater s.pipes.disk t.pipes.disk
  pub holds : (home : LogDirectories) (m : LogMap) (pending : List LogRecordValue) → Represents home s m pending
      → EndsAt home t m (pending ++ said)
  pub leads : (m : LogMap) (W : World) → Means m W → AreOutlines os W → Means (taken m said) (after_one W q)
  pub outlines : (W : World) → AreOutlines os W → AreOutlines us (after_one W q)
  pub answers : (home : LogDirectories) (m : LogMap) (pending : List LogRecordValue) (W : World) → Represents home s m pending
      → Means (taken m pending) W → AreOutlines os W → a ≡ reply (W q.0) q.1
  pub refuses : is_refused a ≡ true → in_range q.1 ≡ false

-- Why a request's record wasn't written, though the engine hasn't failed:
-- - `Io`, `TryAgain`: a file system call failed
-- - `NumberRange`: Append's active file has the last number that a file name can have
-- - `Memory`: memory ran out
-- No other error occurs.
abbrev pub IsUnwrittenFor : Error → EngineState → EngineState → Type 0
IsUnwrittenFor (errors.Io kind) s t = Fails s.pipes.disk t.pipes.disk
IsUnwrittenFor (errors.TryAgain text) s t = Fails s.pipes.disk t.pipes.disk
IsUnwrittenFor errors.NumberRange s t = HasLastNumber InAppend t.pipes
IsUnwrittenFor errors.Memory s t = Unit {0}
IsUnwrittenFor _ s t = ⊥

-- Why a read of entries of group `g`, from index `from` on and below `to`, failed with `error`. The tables of engine
-- `s` show one of these entries, but its file can't be read, or memory ran out. No entry is reported as damaged.
pub record WereUnread (g from to : ℕ) (s : EngineState) (error : Error) : Type 0 where
  pub index : ℕ
  pub entry : EntryIndex
  pub block : FileBlockHandle
  pub asked : (from ≤ index) × (index < to)
  pub stands : entry_at (s.tables g) index ≡ Some entry
  pub placed : entry.entries ≡ Some block
  pub why : IsFileUnread s.pipes block error

-- Why a request was turned down: its record wasn't written, the entries that it asks for weren't read, or memory ran
-- out.
pub data WasTurnedDown (q : ℕ × Request) (error : Error) (s t : EngineState) : Type 0 where
  unwritten : IsUnwrittenFor error s t → WasTurnedDown q error s t
  unread : (from to : ℕ) → q.1 ≡ Read from to → WereUnread q.0 from to s error → WasTurnedDown q error s t
  no_memory : error ≡ errors.Memory → WasTurnedDown q error s t

-- Engine `s` turned request `q` down with `error`, and is `t` after it. The log's contents stay, but a prefix of the
-- pending batches may be durable now. The voters and their outlines are unchanged. `why` gives the reason if the log
-- stores voters with the outlines `os`.
pub record TurnedDown (q : ℕ × Request) (error : Error) (s t : EngineState) (os : ℕ → State) : Type 0 where
  pub alive : has_failed t ≡ false
  pub later : IsLater s.pipes.disk t.pipes.disk
  pub holds : (home : LogDirectories) (m : LogMap) (pending : List LogRecordValue) → Represents home s m pending → EndsAt home t m pending
  pub why : (home : LogDirectories) (m : LogMap) (pending : List LogRecordValue) (W : World) → Represents home s m pending
      → Means (taken m pending) W → AreOutlines os W → WasTurnedDown q error s t

-- Engine `s` failed at request `q`, because a file system call failed, and is `t` after it. The log's files can be
-- opened, with the request's record or without it. `os` are the outlines of the voters before the request.
pub record Broke (q : ℕ × Request) (s t : EngineState) (os : ℕ → State) : Type 0 where
  pub said : List LogRecordValue
  pub short : length said ≤ 1
  pub failed : has_failed t ≡ true
  pub later : IsLater s.pipes.disk t.pipes.disk
  pub leads : (m : LogMap) (W : World) → Means m W → AreOutlines os W → Means (taken m said) (after_one W q)
  pub leaves : (home : LogDirectories) (m : LogMap) (pending : List LogRecordValue) → Represents home s m pending
      → Fails s.pipes.disk t.pipes.disk
      × (IsRecoverableAs home t.pipes.disk m pending ⊎ IsRecoverableAs home t.pipes.disk m (pending ++ said))
