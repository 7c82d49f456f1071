-- What a part that was written, or wasn't, leaves of an engine's log, and in which file it lies.
use Rattle.std.proofs.Common.{◌≡◌, ◌⊎◌, ℕ, ◌≤◌, List, [], inl, inr, refl, sym, subst, arith}
use Rattle.raft_log_model_laws.specs.Item.Record.{Part}
use Rattle.raft_log_record_base.specs.declared.errors.Error.{Error}
use Rattle.raft_log_record_base.specs.declared.errors.Error.TheVariants as errors
use Rattle.raft_log_record_base.specs.declared.pipe_log.FileBlockHandle.{FileBlockHandle}
use Rattle.raft_log_record_base.specs.declared.pipe_log.LogFileContext.{LogFileContext}
use Rattle.raft_log_record_base.specs.declared.pipe_log.LogQueue.TheVariants.{Rewrite}
use Rattle.raft_log_engine_laws.specs.raft_log_active_file.specs.declared.record.LogRecord.{LogRecord}
use Rattle.raft_log_record_frames.specs.Meaning.{part_of}
use Rattle.raft_log_record_frames.specs.declared.status.AtomicGroupStatus.{AtomicGroupStatus}
use Rattle.raft_log_record_frames.specs.declared.status.AtomicGroupStatus.TheVariants as statuses
use Rattle.raft_log_active_file.specs.Queue.{synced}
use Rattle.raft_log_record_batches.specs.Batch.{Batch}
use Rattle.raft_log_block_cache.specs.Signing.{signed_for}
use Rattle.raft_log_machine_laws.specs.Calls.Which.{InRewrite}
use Rattle.raft_log_dual_pipes.specs.Own.{log_layout}
use Rattle.raft_log_dual_pipes.specs.Queues.{SaysRecord}
use Rattle.raft_log_dual_pipes.specs.Steps.{next_log}
use Rattle.raft_log_block_cache.proofs.Public.{calls_keep_bytes}
use Rattle.raft_log_dual_pipes.specs.Pipes.{LogPipes, RunsOn, LogRecordValue, State}
use Rattle.raft_log_dual_pipes.specs.Calls.{AppendsTo, FailsToSyncQueue, SyncsQueue}
use Rattle.raft_log_engine_laws.specs.EngineState.{LogDirectories, LogMap, EngineState, said_by, sense}
use Rattle.raft_log_engine_laws.specs.Holding.{Represents, IsRecoverableAs}
use Rattle.raft_log_engine_laws.proofs.Public.{begin_refused, failed_sync, holds_runs, middle_refused, part_begins, part_goes_on, record_taken, says_part, settled_held, sync_keeps, sync_leaves_open, IsTaken}
use Rattle.raft_log_engine_laws.specs.Rewriting.{RewriteLeaves}
use Rattle.raft_log_engine_laws.specs.Parts.{HoldsInGroup, IsGroupPart, UnendedGroup, begun_by, gone_on_by, said_items}
use Rattle.raft_log_purge_copy.specs.Reasons.{HasReason}
use Rattle.raft_log_purge_copy.specs.Refusals.{IsOverlong}
use Rattle.raft_log_purge_copy.specs.Stale.{written_file}
use Rattle.raft_log_purge_copy.specs.Syncing.{MaySync}
use Rattle.raft_log_purge_copy.proofs.Reasons.{memory_reason, reason_after, record_reason, sync_reason}
use Rattle.raft_log_purge_copy.specs.Records.{FailsToWriteRecord, IsUnwritten, RefusesRecord}
use Rattle.raft_log_purge_copy.specs.Restated.{last_file}

-- The last file.

pub last_told : (home : LogDirectories) (v : LogPipes) (s : State) → RunsOn (sense home) v s → written_file Rewrite v ≡ s.rewrite.files.last
last_told home v s runs = runs.run.rewrite.pipe.number

pub last_is : (home : LogDirectories) (e : EngineState) (m : LogMap) (h : Represents home e m []) → last_file e ≡ h.state.rewrite.files.last
last_is home e m h = last_told home e.pipes h.state h.runs

-- with the same tables and block
abbrev pub over : EngineState → LogPipes → EngineState
over e w = record e { pipes = w }

-- a sync leaves it
pub synced_last : (home : LogDirectories) (e : EngineState) (m : LogMap) (w : LogPipes) → Represents home e m [] → SyncsQueue InRewrite e.pipes w → last_file e ≤ written_file Rewrite w
synced_last home e m w h call =
    let s = h.state in
    let (runs, step) = call (sense home) s h.runs in
    let keeps = (calls_keep_bytes {R = LogRecord}).synced s.rewrite.files in
    let up = keeps.last in
    let before = last_is home e m h in
    let after = last_told home w (next_log InRewrite s (synced s.rewrite.files) w.disk) runs in omega (arith, up, before, after)

pub may_sync_last : (home : LogDirectories) (e : EngineState) (m : LogMap) (w : LogPipes) → Represents home e m [] → MaySync e.pipes w → last_file e ≤ written_file Rewrite w
may_sync_last home e m w h (inl same) = subst (λ x. last_file e ≤ written_file Rewrite x) (sym same) (let low : last_file e ≤ last_file e = omega arith in low)
may_sync_last home e m w h (inr call) = synced_last home e m w h call

-- a record lies in the last file, no earlier
pub taken_last : (home : LogDirectories) (e t : EngineState) (m : LogMap) (h : Represents home e m []) (signed : LogFileContext → List ℕ) (y : LogRecordValue) (block : FileBlockHandle) → IsTaken home e t m h signed y block
    → (last_file e ≤ block.id.seq) × (block.id.seq ≡ last_file t)
taken_last home e t m h signed y block k =
    let up = k.keeps.rewrite.last in
    let is = k.last.number in
    let before = last_is home e m h in
    let after = last_told home t.pipes (next_log InRewrite h.state k.files t.pipes.disk) k.runs in (omega (arith, up, is, before), omega (arith, is, after))

-- Behind what may have been a sync.

pub may_sync_held : (home : LogDirectories) (e : EngineState) (m : LogMap) (w : LogPipes) → Represents home e m [] → MaySync e.pipes w → Represents home (over e w) m []
may_sync_held home e m w h (inl same) = subst (λ x. Represents home (over e x) m []) (sym same) h
may_sync_held home e m w h (inr call) = sync_keeps home e (over e w) m [] h (record { tables = refl; cache = inl refl }) call

pub may_sync_open : (home : LogDirectories) (e : EngineState) (o : UnendedGroup) (m : LogMap) (w : LogPipes) → HoldsInGroup home e m o → MaySync e.pipes w → HoldsInGroup home (over e w) m o
may_sync_open home e o m w h (inl same) = subst (λ x. HoldsInGroup home (over e x) m o) (sym same) h
may_sync_open home e o m w h (inr call) = sync_leaves_open home e (over e w) o m h (record { tables = refl; cache = inl refl }) call

-- What wasn't written.

abbrev pub IsLeft : LogDirectories → LogMap → Error → EngineState → Type 0
IsLeft home m error t = Represents home t m [] ⊎ ((error ≡ errors.Failed) × IsRecoverableAs home t.pipes.disk m [])

refused_left : (home : LogDirectories) (m : LogMap) (t : EngineState) (error : Error) → RewriteLeaves home m t error → IsLeft home m error t
refused_left home m t (errors.Io kind) h = inl (settled_held home t m h)
refused_left home m t (errors.TryAgain text) h = inl (settled_held home t m h)
refused_left home m t errors.NumberRange h = inl h
refused_left home m t errors.Memory h = inl h
refused_left home m t errors.Failed h = inr (refl, h)
refused_left home m t _ h = absurd h

unsynced_left : (home : LogDirectories) (e : EngineState) (m : LogMap) (error : Error) (w : LogPipes) → Represents home e m [] → error ≡ errors.Failed → FailsToSyncQueue InRewrite e.pipes w → IsLeft home m error (over e w)
unsynced_left home e m error w h is call = inr (is, (failed_sync InRewrite home e.pipes w m [] (holds_runs home e m [] h) call).1)

-- whatever is refused of a record, where a refusal by Rewrite leaves the log so
pub unwritten_left : (home : LogDirectories) (e : EngineState) (m : LogMap) (b : Batch) (error : Error) (w : LogPipes) → Represents home e m []
    → ((r : RefusesRecord b error e.pipes w) → RewriteLeaves home m (over e w) error) → IsUnwritten b error e.pipes w → IsLeft home m error (over e w)
unwritten_left home e m b error w h leaves (inl (why, same)) = inl (subst (λ x. Represents home (over e x) m []) (sym same) h)
unwritten_left home e m b error w h leaves (inr (inl (is, call))) = unsynced_left home e m error w h is call
unwritten_left home e m b error w h leaves (inr (inr r)) = refused_left home m (over e w) error (leaves r)

-- what the record of a batch says
abbrev pub Speaks : LogDirectories → Batch → Type 0
Speaks home b = (y : LogRecordValue) × SaysRecord said_by (log_layout Rewrite home.rewrite) Rewrite (signed_for b) y

-- why it wasn't written, where a record that Rewrite refused says something, and one that is too long is a reason
pub unwritten_reason : (home : LogDirectories) (e : EngineState) (m : LogMap) (b : Batch) (error : Error) (w : LogPipes) → Represents home e m [] → ((r : RefusesRecord b error e.pipes w) → Speaks home b)
    → (IsOverlong b error → HasReason home m error e (over e w)) → IsUnwritten b error e.pipes w → HasReason home m error e (over e w)
unwritten_reason home e m b error w h says long (inl (inl memory, same)) = memory_reason home m error e (over e w) memory
unwritten_reason home e m b error w h says long (inl (inr over_long, same)) = long over_long
unwritten_reason home e m b error w h says long (inr (inl (is, call))) = sync_reason InRewrite home m error e (over e w) h.state h.runs is call
unwritten_reason home e m b error w h says long (inr (inr r)) =
    let behind = may_sync_held home e m r.synced h r.syncs in
    let (y, speaks) = says r in
    reason_after home m error e (over e r.synced) (over e w) r.before (record_reason home m error (over e r.synced) (over e w) behind.state y b behind.runs speaks r.call r.range r.told)

-- a part of a group says that it is one
pub part_speaks : (home : LogDirectories) (number : ℕ) (status : AtomicGroupStatus) (b : Batch) → IsGroupPart number status b → Speaks home b
part_speaks home number status b part = (Part (part_of number status) (said_items b), says_part home number status b part)

-- Records of a group.

pub begin_left : (home : LogDirectories) (e : EngineState) (m : LogMap) (number : ℕ) (b : Batch) (error : Error) (w : LogPipes) → Represents home e m []
    → ((r : RefusesRecord b error e.pipes w) → IsGroupPart number statuses.Begin b) → FailsToWriteRecord b error e.pipes w → IsLeft home m error (over e w)
begin_left home e m number b error w h part fails =
    unwritten_left home e m b error w h
    (λ r. begin_refused home (over e r.synced) (over e w) number b m error (may_sync_held home e m r.synced h r.syncs) (part r) (record { tables = refl; cache = inl refl }) r.call) fails.why

pub middle_left : (home : LogDirectories) (e : EngineState) (m : LogMap) (o : UnendedGroup) (b : Batch) (error : Error) (w : LogPipes) → HoldsInGroup home e m o
    → ((r : RefusesRecord b error e.pipes w) → IsGroupPart o.number statuses.Middle b) → FailsToWriteRecord b error e.pipes w → IsLeft home m error (over e w)
middle_left home e m o b error w h part fails =
    unwritten_left home e m b error w h.holds
    (λ r. middle_refused home (over e r.synced) (over e w) o b m error (may_sync_open home e o m r.synced h r.syncs) (part r) (record { tables = refl; cache = inl refl }) r.call) fails.why

-- the group begins
pub begun : (home : LogDirectories) (e : EngineState) (m : LogMap) (number : ℕ) (b : Batch) (block : FileBlockHandle) (mid w : LogPipes) → Represents home e m [] → MaySync e.pipes mid → IsGroupPart number statuses.Begin b
    → AppendsTo InRewrite (signed_for b) block mid w → HoldsInGroup home (over e w) m (begun_by number (record { block = block; batch = b })) × (last_file e ≤ block.id.seq)
begun home e m number b block mid w h syncs part call =
    let there = may_sync_held home e m mid h syncs in
    let up = may_sync_last home e m mid h syncs in
    let k = record_taken home (over e mid) (over e w) m there (signed_for b) (Part (part_of number statuses.Begin) (said_items b)) block (says_part home number statuses.Begin b part) call in
    let low = (taken_last home (over e mid) (over e w) m there (signed_for b) (Part (part_of number statuses.Begin) (said_items b)) block k).0 in
    (part_begins home (over e mid) (over e w) number b block m there part call (record { tables = refl; cache = inl refl }), omega (arith, up, low))

-- it goes on
pub gone_on : (home : LogDirectories) (e : EngineState) (m : LogMap) (o : UnendedGroup) (b : Batch) (block : FileBlockHandle) (mid w : LogPipes) → HoldsInGroup home e m o → MaySync e.pipes mid → IsGroupPart o.number statuses.Middle b
    → AppendsTo InRewrite (signed_for b) block mid w → HoldsInGroup home (over e w) m (gone_on_by o (record { block = block; batch = b }))
gone_on home e m o b block mid w h syncs part call =
    part_goes_on home (over e mid) (over e w) o b block m (may_sync_open home e o m mid h syncs) part call (record { tables = refl; cache = inl refl })
