-- Views of a log: what its readers see, and what a crash may leave. They decide which answers are possible. Where a
-- definition has the parameter `says`, that maps a batch to its record.
use Rattle.std.specs.Prelude.{◌≡◌, ◌⊎◌, ◌↔◌, true, false, List, [], ◌∷◌, ◌++◌, option_map}
use Rattle.raft_log_model_laws.specs.Item.Record.{Plain}
use Rattle.raft_log_model_laws.specs.Groups.{taken}
use Rattle.raft_log_model_laws.specs.Meaning.Slot.{Index, Key}
use Rattle.raft_log_model_laws.specs.Meaning.Content.{Entry, Value}
use Rattle.raft_log_world.specs.declared.event.Answer.{Answer}
use Rattle.raft_log_world.specs.declared.event.Answer.TheVariants.{Done, Found, At, Entries, Keys, Refused, Failed, Idle}
use Rattle.raft_log_world.specs.declared.event.Call.{Call}
use Rattle.raft_log_world.specs.declared.event.Call.TheVariants.{Write, Sync, Get, GetEntry, FirstIndex, LastIndex, Fetch, Scan, Compact, Purge}
use Rattle.raft_log_world.specs.declared.event.Event.{Event}
use Rattle.raft_log_world.specs.declared.event.Event.TheVariants.{Open, Serve, Close, Fork, Crash, Arm}
use Rattle.raft_log_world.specs.Model.{BatchRecord, ModelLog, compacts}
use Rattle.raft_log_world.specs.Model.ModelLog.{resting, left, running, failed}
use Rattle.raft_log_world.specs.Reads.{Contents, Fetches, IsFirstIndex, IsLastIndex, Scans, all_bytes, bytes_of, pairs_of}
use Rattle.raft_log_judge.specs.declared.outcome.Outcome.{Outcome}
use Rattle.raft_log_judge.specs.declared.outcome.Outcome.TheVariants.{Adds, Never, Opens, Reads, Turns}
use Rattle.raft_log_judge.specs.declared.outcome.Standing.{Standing}
use Rattle.raft_log_judge.specs.declared.outcome.Standing.TheVariants.{Broken, Closed, Running}

-- A view of a log: whether an engine has it open, the contents `now` that readers see, and `kept`, one of the contents
-- that a crash may leave. A log has one view for each possible `kept`.
pub record View : Type 0 where
  pub standing : Standing
  pub now : Contents
  pub kept : Contents

-- the view of a log over which no engine runs: nobody reads it, so `now` is what a crash leaves
abbrev pub unseen : Standing → Contents → View
unseen standing kept = record { standing = standing; now = kept; kept = kept }

-- The view of a log from which a crash leaves `kept`. If an engine runs over it, readers see `now`.
abbrev pub seen : Standing → Contents → Contents → View
seen Running now kept = record { standing = Running; now = now; kept = kept }
seen standing now kept = unseen standing kept

-- `kept` are the contents `m` after a prefix of the batches `pending`, maybe none or all
pub record Reaches (m : Contents) (pending : List BatchRecord) (kept : Contents) : Type 0 where
  pub front : List BatchRecord
  pub rest : List BatchRecord
  pub splits : front ++ rest ≡ pending
  pub is : kept ≡ taken m front

-- `view` is a view of a log with the durable contents `m` and the pending batches `pending`
pub record Sees (standing : Standing) (m : Contents) (pending : List BatchRecord) (view : View) : Type 0 where
  pub kept : Contents
  pub reaches : Reaches m pending kept
  pub is : view ≡ seen standing (taken m pending) kept

-- `view` is a view of the log
abbrev pub Fits : ModelLog → View → Type 0
Fits (resting m) view = Sees Closed m [] view
Fits (left m pending) view = Sees Closed m pending view
Fits (running m pending) view = Sees Running m pending view
Fits (failed m pending) view = Sees Broken m pending view

-- `view` is a view of one of the logs
abbrev pub AnyFits : List ModelLog → View → Type 0
AnyFits [] view = ⊥
AnyFits (log ∷ logs) view = Fits log view ⊎ AnyFits logs view

-- What a call with this answer does to the log of a running engine. `Adds` adds the call's batch, and `Turns` adds
-- none. Both give the log's standing afterwards, and a flag: whether all batches are durable then. `Reads` changes
-- nothing. An impossible answer gives `Never`.
abbrev pub call_outcome : {B : Type 0} → Call B → Answer → Outcome
call_outcome (Write batch sync) Done = Adds Running sync
call_outcome (Write batch sync) Refused = Turns Running false
call_outcome (Write batch sync) Failed = Adds Broken false
call_outcome Sync Done = Turns Running true
call_outcome Sync Failed = Turns Broken false
call_outcome (Get group key) (Found value) = Reads
call_outcome (Get group key) Refused = Turns Running false
call_outcome (GetEntry group index) (Found entry) = Reads
call_outcome (GetEntry group index) Refused = Turns Running false
call_outcome (FirstIndex group) (At index) = Reads
call_outcome (LastIndex group) (At index) = Reads
call_outcome (Fetch group begin end max) (Entries entries) = Reads
call_outcome (Fetch group begin end max) Refused = Turns Running false
call_outcome (Scan group start end) (Keys pairs) = Reads
call_outcome (Scan group start end) Refused = Turns Running false
call_outcome (Compact group index) Done = Adds Running false
call_outcome (Compact group index) Refused = Turns Running false
call_outcome (Compact group index) Failed = Adds Broken false
call_outcome (Purge kind) Done = Turns Running true
call_outcome (Purge kind) Refused = Turns Running true
call_outcome (Purge kind) Failed = Turns Broken false
call_outcome call answer = Never

-- what an event with this answer does to a log; `Never` if the answer is impossible
abbrev pub outcome : {B C : Type 0} → Standing → Event B C → Answer → Outcome
outcome standing (Arm fault) Done = Turns standing false
outcome standing (Arm fault) Refused = Turns standing false
outcome Closed (Open workers) Done = Opens
outcome Closed (Open workers) Refused = Turns Closed false
outcome Closed (Serve call) Idle = Turns Closed false
outcome Closed Close Idle = Turns Closed false
outcome Closed (Fork target) Done = Turns Closed false
outcome Closed (Fork target) Refused = Turns Closed false
outcome Closed (Crash what) Done = Turns Closed false
outcome Running (Open workers) Idle = Turns Running false
outcome Running (Serve call) answer = call_outcome call answer
outcome Running Close Done = Turns Closed true
outcome Running Close Refused = Turns Closed false
outcome Running (Fork target) Idle = Turns Running false
outcome Running (Crash what) Done = Turns Closed false
outcome Broken (Open workers) Idle = Turns Broken false
outcome Broken (Serve call) Failed = Turns Broken false
outcome Broken Close Failed = Turns Closed false
outcome Broken (Fork target) Idle = Turns Broken false
outcome Broken (Crash what) Done = Turns Closed false
outcome standing event answer = Never

-- the batch that an event writes; the empty one if it writes none
abbrev pub batch_of : {B C : Type 0} → (B → BatchRecord) → Event B C → BatchRecord
batch_of says (Serve (Write batch sync)) = says batch
batch_of says (Serve (Compact group index)) = compacts group index
batch_of says event = Plain []

-- the event is a read, and this answer is what the read returns if the contents are `m`
abbrev pub IsRead : {B C : Type 0} → Contents → Event B C → Answer → Type 0
IsRead m (Serve (Get group key)) (Found value) = m group (Key key.items) ≡ option_map Value (bytes_of value)
IsRead m (Serve (GetEntry group index)) (Found entry) = m group (Index index) ≡ option_map Entry (bytes_of entry)
IsRead m (Serve (FirstIndex group)) (At index) = IsFirstIndex m group index
IsRead m (Serve (LastIndex group)) (At index) = IsLastIndex m group index
IsRead m (Serve (Fetch group begin end max)) (Entries entries) =
    Fetches m group begin end max (all_bytes entries.items)
IsRead m (Serve (Scan group start end)) (Keys pairs) =
    Scans m group (bytes_of start) (bytes_of end) (pairs_of pairs.items)
IsRead m event answer = ⊥

-- How `view` becomes `next` by an outcome. `read` says that a read's answer is right for the view. If a batch is added
-- without a sync, a crash afterwards leaves either all batches, including this one, or what a crash before this batch
-- could have left.
abbrev pub Turned : Outcome → BatchRecord → Type 0 → View → View → Type 0
Turned Never batch read view next = ⊥
Turned Reads batch read view next = read × (next ≡ view)
Turned (Turns standing false) batch read view next = next ≡ seen standing view.now view.kept
Turned (Turns standing true) batch read view next = next ≡ seen standing view.now view.now
Turned (Adds standing false) batch read view next =
    (next ≡ seen standing (taken view.now (batch ∷ [])) view.kept)
    ⊎ (next ≡ seen standing (taken view.now (batch ∷ [])) (taken view.now (batch ∷ [])))
Turned (Adds standing true) batch read view next =
    next ≡ seen standing (taken view.now (batch ∷ [])) (taken view.now (batch ∷ []))
Turned Opens batch read view next = next ≡ seen Running view.kept view.kept

-- how `view` becomes `next` by an event with this answer
abbrev pub Moves : {B C : Type 0} → (B → BatchRecord) → View → Event B C → Answer → View → Type 0
Moves says view event answer next =
    Turned (outcome view.standing event answer) (batch_of says event) (IsRead view.now event answer) view next

-- starting at `view`, `answers` are possible as the answers to `events`, one for each
abbrev pub Goes : {B C : Type 0} → (B → BatchRecord) → View → List (Event B C) → List Answer → Type 0
Goes says view [] [] = Unit {0}
Goes says view (event ∷ events) (answer ∷ answers) =
    (next : View) × Moves says view event answer next × Goes says next events answers
Goes says view events answers = ⊥

-- starting at a view of one of the logs, `answers` are possible as the answers to `events`
abbrev pub AnyGoes : {B C : Type 0} → (B → BatchRecord) → List ModelLog → List (Event B C) → List Answer → Type 0
AnyGoes says logs events answers = (view : View) × AnyFits logs view × Goes says view events answers

-- the views of `nexts` are exactly those that the views of `logs` may become by this event with this answer
abbrev pub LeadTo : {B C : Type 0} → (B → BatchRecord) → List ModelLog → Event B C → Answer → List ModelLog → Type 0
LeadTo says logs event answer nexts =
    (next : View) → AnyFits nexts next ↔ ((view : View) × AnyFits logs view × Moves says view event answer next)
