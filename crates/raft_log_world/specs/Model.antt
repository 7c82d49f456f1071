-- The model log: a log as its callers see it. It says which answers an event may have, and what the log is afterwards.
-- A crash loses at most a suffix of the batches that aren't synced yet. `m` are the durable contents before an event,
-- `pending` the batches pending then, and `next` is the log after the event.
use Rattle.std.specs.Prelude.{◌≡◌, ◌⊎◌, ◌≤◌, ℕ, Bool, true, false, List, [], ◌∷◌, ◌++◌, length, take, option_map}
use Rattle.raft_log_model_laws.specs.Item.{Record, items_of}
use Rattle.raft_log_model_laws.specs.Item.Item.{Compact as CompactItem}
use Rattle.raft_log_model_laws.specs.Item.Record.{Plain}
use Rattle.raft_log_model_laws.specs.Meaning.Slot.{Index, Key}
use Rattle.raft_log_model_laws.specs.Meaning.Content.{Entry, Value}
use Rattle.raft_log_model_laws.specs.Groups.{taken}
use Rattle.raft_log_world.specs.declared.event.Answer.{Answer}
use Rattle.raft_log_world.specs.declared.event.Answer.TheVariants.{Done, Found, At, Entries, Keys, Refused, Failed, Idle}
use Rattle.raft_log_world.specs.declared.event.Call.{Call}
use Rattle.raft_log_world.specs.declared.event.Call.TheVariants.{Write, Sync, Get, GetEntry, FirstIndex, LastIndex, Fetch, Scan, Compact, Purge}
use Rattle.raft_log_world.specs.declared.event.Event.{Event}
use Rattle.raft_log_world.specs.declared.event.Event.TheVariants.{Open, Serve, Close, Fork, Crash, Arm}
use Rattle.raft_log_world.specs.Reads.{Contents, Fetches, HasNone, IsFirstIndex, IsLastIndex, Scans, all_bytes, bytes_of, pairs_of}

-- the record that a batch is written as: what it changes, in which groups
abbrev pub BatchRecord : Type 0
BatchRecord = Record (List ℕ) (List ℕ)

-- A log: its durable contents, and the batches that were written after them and aren't synced yet, in order.
-- - `resting`: no engine has it open, and all of it is durable. A crash leaves it so.
-- - `left`: no engine has it open. A close, or a failed open, left it so.
-- - `running`: an engine has it open.
-- - `failed`: an engine has it open, and has failed.
pub data ModelLog : Type 0 where
  resting : Contents → ModelLog
  left : Contents → List BatchRecord → ModelLog
  running : Contents → List BatchRecord → ModelLog
  failed : Contents → List BatchRecord → ModelLog

-- whether an engine has the log open
abbrev pub is_open : ModelLog → Bool
is_open (resting m) = false
is_open (left m pending) = false
is_open (running m pending) = true
is_open (failed m pending) = true

-- The engine runs, and none of these batches is lost. The durable contents were `m`. Now they are `m` and then the
-- first few of the batches, and the others are pending.
pub record RunsOn (m : Contents) (batches : List BatchRecord) (next : ModelLog) : Type 0 where
  pub done : List BatchRecord
  pub rest : List BatchRecord
  pub splits : done ++ rest ≡ batches
  pub is : next ≡ running (taken m done) rest

-- the contents `now` are `m` and then the first few of the pending batches; the others are lost
abbrev pub LosesSome : Contents → List BatchRecord → Contents → Type 0
LosesSome m pending now = (count : ℕ) × (count ≤ length pending) × (now ≡ taken m (take count pending))

-- the engine runs, and these batches are written; if a sync was asked for, all of them are durable
abbrev pub HasWritten : Bool → Contents → List BatchRecord → ModelLog → Type 0
HasWritten true m batches next = next ≡ running (taken m batches) []
HasWritten false m batches next = RunsOn m batches next

-- the batch is written after the pending ones; a batch without items need not be written
abbrev pub Adds : Bool → Contents → List BatchRecord → BatchRecord → ModelLog → Type 0
Adds sync m pending batch next = HasWritten sync m (pending ++ batch ∷ []) next
    ⊎ ((items_of batch ≡ []) × HasWritten sync m pending next)

-- the record that deletes the entries of a group below an index
abbrev pub compacts : ℕ → ℕ → BatchRecord
compacts group index = Plain (record { group = group; item = CompactItem index } ∷ [])

-- A group is compacted: the record is written after the pending batches. A record that would delete nothing need not be
-- written.
abbrev pub Compacts : Contents → List BatchRecord → ℕ → ℕ → ModelLog → Type 0
Compacts m pending group index next = RunsOn m (pending ++ compacts group index ∷ []) next
    ⊎ (HasNone (taken m pending) group 0 index × (next ≡ running m pending))

-- the engine failed while it wrote this batch, which may be written or not
abbrev pub FailsAt : Contents → List BatchRecord → BatchRecord → ModelLog → Type 0
FailsAt m pending batch next = (next ≡ failed m pending) ⊎ (next ≡ failed m (pending ++ batch ∷ []))

-- How an engine that runs answers a call, and what the log is afterwards. Before the call, the log has the durable
-- contents `m` and the pending batches `pending`. `says` gives the record of a batch.
-- - A write that succeeds adds its batch, and a compaction its record. A sync that succeeds makes all batches durable,
--   and so does a purge after which the engine runs on.
-- - A read returns what the contents have once all batches are applied. A read of the first or last index doesn't fail.
-- - If a call fails and the engine runs on, the call leaves no trace of its batch, and loses no other batch.
-- - If the engine fails in a write or a compaction, that batch or that record may be written or not.
abbrev pub Serves : {B : Type 0} → (B → BatchRecord) → Contents → List BatchRecord → Call B → Answer → ModelLog → Type 0
Serves says m pending (Write batch sync) Done next = Adds sync m pending (says batch) next
Serves says m pending (Write batch sync) Refused next = RunsOn m pending next
Serves says m pending (Write batch sync) Failed next = FailsAt m pending (says batch) next
Serves says m pending Sync Done next = next ≡ running (taken m pending) []
Serves says m pending Sync Failed next = next ≡ failed m pending
Serves says m pending (Get group key) (Found value) next =
    (taken m pending group (Key key.items) ≡ option_map Value (bytes_of value)) × (next ≡ running m pending)
Serves says m pending (Get group key) Refused next = next ≡ running m pending
Serves says m pending (GetEntry group index) (Found entry) next =
    (taken m pending group (Index index) ≡ option_map Entry (bytes_of entry)) × (next ≡ running m pending)
Serves says m pending (GetEntry group index) Refused next = next ≡ running m pending
Serves says m pending (FirstIndex group) (At index) next =
    IsFirstIndex (taken m pending) group index × (next ≡ running m pending)
Serves says m pending (LastIndex group) (At index) next =
    IsLastIndex (taken m pending) group index × (next ≡ running m pending)
Serves says m pending (Fetch group begin end max) (Entries entries) next =
    Fetches (taken m pending) group begin end max (all_bytes entries.items) × (next ≡ running m pending)
Serves says m pending (Fetch group begin end max) Refused next = next ≡ running m pending
Serves says m pending (Scan group start end) (Keys pairs) next =
    Scans (taken m pending) group (bytes_of start) (bytes_of end) (pairs_of pairs.items) × (next ≡ running m pending)
Serves says m pending (Scan group start end) Refused next = next ≡ running m pending
Serves says m pending (Compact group index) Done next = Compacts m pending group index next
Serves says m pending (Compact group index) Refused next = RunsOn m pending next
Serves says m pending (Compact group index) Failed next = FailsAt m pending (compacts group index) next
Serves says m pending (Purge kind) Done next = next ≡ running (taken m pending) []
Serves says m pending (Purge kind) Refused next = next ≡ running (taken m pending) []
Serves says m pending (Purge kind) Failed next = (next ≡ failed m pending) ⊎ (next ≡ failed (taken m pending) [])
Serves says m pending call answer next = ⊥

-- The event does nothing. `opened` says whether an engine has the log open. If none has, the event is a call or a
-- close. If one has, it is an open or a copy.
abbrev pub IsIdle : {B C : Type 0} → Bool → Event B C → Type 0
IsIdle opened (Open workers) = opened ≡ true
IsIdle opened (Serve call) = opened ≡ false
IsIdle opened Close = opened ≡ false
IsIdle opened (Fork target) = opened ≡ true
IsIdle opened (Crash what) = ⊥
IsIdle opened (Arm fault) = ⊥

-- How the log answers an event, and what it is then:
-- - After an open that succeeds, the engine runs. The last few pending batches may be lost, and the others are durable.
--   If the open fails, the log is as before, or has what a successful open would have found.
-- - A close that succeeds makes all batches durable. A close that fails leaves them pending.
-- - A copy that succeeds is the log from then on. All of the copy is durable, but the last few pending batches may be
--   missing. A copy that fails leaves the log as before.
-- - A crash may lose the last few pending batches, and nothing else.
-- - An engine that has failed fails each call, and a close, and changes nothing.
-- - A fault that is armed changes nothing. Later events may fail.
abbrev pub Answers : {B C : Type 0} → (B → BatchRecord) → ModelLog → Event B C → Answer → ModelLog → Type 0
Answers says (resting m) (Open workers) Done next = next ≡ running m []
Answers says (resting m) (Open workers) Refused next = (next ≡ resting m) ⊎ (next ≡ left m [])
Answers says (left m pending) (Open workers) Done next =
    (now : Contents) × LosesSome m pending now × (next ≡ running now [])
Answers says (left m pending) (Open workers) Refused next =
    (next ≡ left m pending) ⊎ ((now : Contents) × LosesSome m pending now × (next ≡ left now []))
Answers says (running m pending) (Serve call) answer next = Serves says m pending call answer next
Answers says (failed m pending) (Serve call) Failed next = next ≡ failed m pending
Answers says (running m pending) Close Done next = next ≡ left (taken m pending) []
Answers says (running m pending) Close Refused next = next ≡ left m pending
Answers says (failed m pending) Close Failed next = next ≡ left m pending
Answers says (resting m) (Fork target) Done next = next ≡ resting m
Answers says (resting m) (Fork target) Refused next = next ≡ resting m
Answers says (left m pending) (Fork target) Done next =
    (now : Contents) × LosesSome m pending now × (next ≡ resting now)
Answers says (left m pending) (Fork target) Refused next = next ≡ left m pending
Answers says (resting m) (Crash what) Done next = next ≡ resting m
Answers says (left m pending) (Crash what) Done next =
    (now : Contents) × LosesSome m pending now × (next ≡ resting now)
Answers says (running m pending) (Crash what) Done next =
    (now : Contents) × LosesSome m pending now × (next ≡ resting now)
Answers says (failed m pending) (Crash what) Done next =
    (now : Contents) × LosesSome m pending now × (next ≡ resting now)
Answers says log (Arm fault) Done next = next ≡ log
Answers says log (Arm fault) Refused next = next ≡ log
Answers says log event Idle next = IsIdle (is_open log) event × (next ≡ log)
Answers says log event answer next = ⊥
