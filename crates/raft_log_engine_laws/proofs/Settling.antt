-- Syncs and rotations go on with an engine's log.
use Rattle.std.proofs.Common.{◌≡◌, ℕ, ◌≤◌, None, List, [], ◌∷◌, ◌++◌, inl, inr, refl, sym, ap, subst, ◌∙◌, arith}
use Rattle.raft_log_model_laws.specs.Groups.{taken}
use Rattle.raft_log_fs.specs.Causes.{Fails}
use Rattle.raft_log_fs.specs.Disk.{Disk}
use Rattle.raft_log_file_writer.specs.LogQueue.{LogFiles}
use Rattle.raft_log_record_base.specs.declared.errors.Error.{Error}
use Rattle.raft_log_record_base.specs.declared.errors.Error.TheVariants as errors
use Rattle.raft_log_active_file.specs.declared.record.LogRecord.{LogRecord}
use Rattle.raft_log_active_file.specs.Queue.{synced}
use Rattle.raft_log_machine_laws.specs.Calls.{Which}
use Rattle.raft_log_machine_laws.specs.Calls.Which.{InAppend, InRewrite}
use Rattle.raft_log_machine_laws.specs.Log.{Follows, IsAt, IsLog, IsSettled, LogEnds, View}
use Rattle.raft_log_machine_laws.specs.Model.{with_append, with_rewrite}
use Rattle.raft_log_machine_laws.proofs.Public.{append_follows, append_settles, failed_whole, rewrite_follows, rewrite_settles, rewrite_synced, settled_stays, stands_log, sync_settles}
use Rattle.raft_log_block_cache.specs.raft_log_dual_pipes.specs.Crash.{AllowsIn}
use Rattle.raft_log_block_cache.specs.raft_log_dual_pipes.specs.Failing.{failed_pipe}
use Rattle.raft_log_block_cache.specs.raft_log_dual_pipes.specs.OpenOrClosed.{OpenPipes, IsOpenOrClosed, both_open, with_open}
use Rattle.raft_log_block_cache.specs.raft_log_dual_pipes.specs.Syncing.{FailsMoved}
use Rattle.raft_log_block_cache.specs.raft_log_dual_pipes.specs.State.{Ties, spanned_at}
use Rattle.raft_log_block_cache.specs.raft_log_dual_pipes.specs.Steps.{next_log}
use Rattle.raft_log_block_cache.specs.Stored.{AreStored, KeepsBytes, KeepsLog, entries_at}
use Rattle.raft_log_block_cache.proofs.Public.{calls_keep_bytes, calls_keep_log, stored_entries_stay}
use Rattle.raft_log_block_cache.specs.raft_log_memtables.specs.Views.{AreMeant, view_of}
use Rattle.raft_log_block_cache.specs.raft_log_dual_pipes.specs.Pipes.{LogPipes, RunsOn, LogRecordValue, State, files_of}
use Rattle.raft_log_block_cache.specs.raft_log_dual_pipes.specs.Calls.{FailsToRotateQueue, FailsToSyncQueue, RotatesQueue, SyncsQueue}
use Rattle.raft_log_engine_laws.specs.EngineState.{LogDirectories, LogMap, EngineState, log_in, sense}
use Rattle.raft_log_engine_laws.specs.Holding.{FilesRiseIn, Represents, IsRecoverableAs, NotesEndIn, RunsAs}
use Rattle.raft_log_engine_laws.proofs.Keeping.{notes_on, rise_on, stays_cached}
use Rattle.raft_log_block_cache.specs.Blocks.{IsOfLog}
use Rattle.raft_log_engine_laws.specs.Quiet.{TurnLeavesHeld}
use Rattle.raft_log_engine_laws.specs.Settled.{HoldsSettled, SameTables}

-- what is settled is held
pub settled_held : (home : LogDirectories) (e : EngineState) (m : LogMap) → HoldsSettled home e m → Represents home e m []
settled_held home e m h = record { state = h.state; map = h.map; runs = h.runs; stored = h.stored; rises = h.rises; noted = h.noted; meant = h.meant; cached = h.cached; at = h.at.at }

-- the same tables go on with a log that keeps its bytes
module _ (home : LogDirectories) (e t : EngineState) (which : Which) (s : State) (map : LogMap) (stored : AreStored s e.tables) (rises : FilesRiseIn s e.tables) (noted : NotesEndIn s e.tables) (meant : AreMeant (entries_at s) e.tables map) (cached : IsOfLog s e.cache) (same : SameTables e t) (files : LogFiles LogRecord)
    (keeps : KeepsBytes (spanned_at which s).files files) (runs : RunsOn (sense home) t.pipes (next_log which s files t.pipes.disk)) where
  abbrev next : State
  next = next_log which s files t.pipes.disk

  pub held_on : (k : LogMap) (rest : List LogRecordValue) → IsAt (Ties (log_in home) next) (view_of e.tables map) k rest → Represents home t k rest
  held_on k rest at =
      let stays = stored_entries_stay s next (calls_keep_log which s files t.pipes.disk keeps) e.tables stored in record {
        state = next;
        map = map;
        runs = runs;
        stored = subst (λ v. AreStored next v) (sym same.tables) stays.0;
        rises = subst (λ v. FilesRiseIn next v) (sym same.tables) (rise_on s next (calls_keep_log which s files t.pipes.disk keeps) e.tables rises);
        noted = subst (λ v. NotesEndIn next v) (sym same.tables) (notes_on s next (calls_keep_log which s files t.pipes.disk keeps) e.tables noted);
        meant = subst (λ v. AreMeant (entries_at next) v map) (sym same.tables) (stays.1 map meant);
        cached = stays_cached s next (calls_keep_log which s files t.pipes.disk keeps) e.cache t.cache same.cache cached;
        at = subst (λ v. IsAt (Ties (log_in home) next) (view_of v map) k rest) (sym same.tables) at;
      }

  pub settled_on : (k : LogMap) → IsSettled (Ties (log_in home) next) (view_of e.tables map) k → HoldsSettled home t k
  settled_on k at =
      let stays = stored_entries_stay s next (calls_keep_log which s files t.pipes.disk keeps) e.tables stored in record {
        state = next;
        map = map;
        runs = runs;
        stored = subst (λ v. AreStored next v) (sym same.tables) stays.0;
        rises = subst (λ v. FilesRiseIn next v) (sym same.tables) (rise_on s next (calls_keep_log which s files t.pipes.disk keeps) e.tables rises);
        noted = subst (λ v. NotesEndIn next v) (sym same.tables) (notes_on s next (calls_keep_log which s files t.pipes.disk keeps) e.tables noted);
        meant = subst (λ v. AreMeant (entries_at next) v map) (sym same.tables) (stays.1 map meant);
        cached = stays_cached s next (calls_keep_log which s files t.pipes.disk keeps) e.cache t.cache same.cache cached;
        at = subst (λ v. IsSettled (Ties (log_in home) next) (view_of v map) k) (sym same.tables) at;
      }

-- Syncs.

pub sync_keeps : (home : LogDirectories) (e t : EngineState) (m : LogMap) (pending : List LogRecordValue) → Represents home e m pending → SameTables e t → SyncsQueue InRewrite e.pipes t.pipes → Represents home t m pending
sync_keeps home e t m pending h same call =
    let s = h.state in
    let files : LogFiles LogRecord = synced s.rewrite.files in
    let (runs, step) = call (sense home) s h.runs in
    held_on home e t InRewrite s h.map h.stored h.rises h.noted h.meant h.cached same files ((calls_keep_bytes {R = LogRecord}).synced s.rewrite.files) runs m pending
    (rewrite_synced (Ties (log_in home)) (AllowsIn (log_in home)) s (next_log InRewrite s files t.pipes.disk) (view_of e.tables h.map) m pending h.at step)

pub sync_settles_log : (home : LogDirectories) (e t : EngineState) (m : LogMap) → Represents home e m [] → SameTables e t → SyncsQueue InRewrite e.pipes t.pipes → HoldsSettled home t m
sync_settles_log home e t m h same call =
    let s = h.state in
    let files : LogFiles LogRecord = synced s.rewrite.files in
    let (runs, step) = call (sense home) s h.runs in
    let next : State = next_log InRewrite s files t.pipes.disk in
    settled_on home e t InRewrite s h.map h.stored h.rises h.noted h.meant h.cached same files ((calls_keep_bytes {R = LogRecord}).synced s.rewrite.files) runs m
    (rewrite_settles (Ties (log_in home)) s next (view_of e.tables h.map) m (sync_settles (Ties (log_in home)) s next InRewrite step) h.at)

-- a log that is so lies on its disk
pub left_whole : (home : LogDirectories) (o : OpenPipes) (t : State) (m : LogMap) (pending : List LogRecordValue) → IsOpenOrClosed (log_in home) o t → IsLog (Ties (log_in home) t) m pending → IsRecoverableAs home t.disk m pending
left_whole home o t m pending stands log = (
  o,
  record { done = []; rest = pending; splits = refl; lies = record { state = t; disk = refl; stands = stands; holds = log } },
)

-- either queue's sync failed
sync_failed : (which : Which) (home : LogDirectories) (v w : LogPipes) (m : LogMap) (pending : List LogRecordValue) (h : RunsAs home v m pending) → Fails v.disk w.disk
    → (next : State) → next.disk ≡ w.disk → IsOpenOrClosed (log_in home) (failed_pipe which (files_of v)) next → IsLog (Ties (log_in home) next) m pending
    → Fails v.disk w.disk × IsRecoverableAs home w.disk m pending
sync_failed which home v w m pending h fails next disk stands log =
    (fails, subst (λ d. IsRecoverableAs home d m pending) disk (left_whole home (failed_pipe which (files_of v)) next m pending stands log))

pub failed_sync : (which : Which) (home : LogDirectories) (v w : LogPipes) (m : LogMap) (pending : List LogRecordValue) → RunsAs home v m pending → FailsToSyncQueue which v w
    → Fails v.disk w.disk × IsRecoverableAs home w.disk m pending
failed_sync InAppend home v w m pending h call =
    let s = h.state in
    let (fails, stands, step) = call (sense home) s h.runs in
    let next : State = next_log InAppend s s.append.files w.disk in
    sync_failed InAppend home v w m pending h fails next refl stands (failed_whole (Ties (log_in home)) (Ties (log_in home)) s next h.view m pending h.at step)
failed_sync InRewrite home v w m pending h call =
    let s = h.state in
    let (fails, stands, step) = call (sense home) s h.runs in
    let next : State = next_log InRewrite s s.rewrite.files w.disk in
    sync_failed InRewrite home v w m pending h fails next refl stands (failed_whole (Ties (log_in home)) (Ties (log_in home)) s next h.view m pending h.at step)

-- Rotations.

pub append_rotates : (home : LogDirectories) (e t : EngineState) (m : LogMap) (pending : List LogRecordValue) → Represents home e m pending → SameTables e t → RotatesQueue InAppend e.pipes t.pipes → Represents home t (taken m pending) []
append_rotates home e t m pending h same call =
    let s = h.state in
    let (files, goes, runs, step) = call (sense home) s h.runs in
    let next : State = next_log InAppend s files t.pipes.disk in
    held_on home e t InAppend s h.map h.stored h.rises h.noted h.meant h.cached same files ((calls_keep_bytes {R = LogRecord}).turned _ _ _ s.append.files files (inr goes)) runs (taken m pending) []
    (append_settles (Ties (log_in home)) s next (view_of e.tables h.map) m pending step h.at)

pub settled_rotates : (home : LogDirectories) (e t : EngineState) (m : LogMap) → HoldsSettled home e m → SameTables e t → RotatesQueue InAppend e.pipes t.pipes → HoldsSettled home t m
settled_rotates home e t m h same call =
    let s = h.state in
    let (files, goes, runs, step) = call (sense home) s h.runs in
    let next : State = next_log InAppend s files t.pipes.disk in
    settled_on home e t InAppend s h.map h.stored h.rises h.noted h.meant h.cached same files ((calls_keep_bytes {R = LogRecord}).turned _ _ _ s.append.files files (inr goes)) runs m
    (settled_stays (Ties (log_in home)) s next (view_of e.tables h.map) m step h.at)

pub rewrite_rotates : (home : LogDirectories) (e t : EngineState) (m : LogMap) → Represents home e m [] → SameTables e t → RotatesQueue InRewrite e.pipes t.pipes → HoldsSettled home t m
rewrite_rotates home e t m h same call =
    let s = h.state in
    let (files, goes, runs, step) = call (sense home) s h.runs in
    let next : State = next_log InRewrite s files t.pipes.disk in
    settled_on home e t InRewrite s h.map h.stored h.rises h.noted h.meant h.cached same files ((calls_keep_bytes {R = LogRecord}).turned _ _ _ s.rewrite.files files (inr goes)) runs m
    (rewrite_settles (Ties (log_in home)) s next (view_of e.tables h.map) m step h.at)

-- Refused rotations.

-- a log keeps what it has
pub same_log : (s : State) → KeepsLog s s
same_log s = record {
  append = (calls_keep_bytes {R = LogRecord}).same s.append.files;
  rewrite = (calls_keep_bytes {R = LogRecord}).same s.rewrite.files;
  append_first = omega arith;
  rewrite_first = omega arith;
}

-- the same log, on pipes that run over it
pub held_same : (home : LogDirectories) (e t : EngineState) (m : LogMap) (pending : List LogRecordValue) (h : Represents home e m pending) → SameTables e t → RunsOn (sense home) t.pipes h.state → Represents home t m pending
held_same home e t m pending h same runs = record {
  state = h.state;
  map = h.map;
  runs = runs;
  stored = subst (λ v. AreStored h.state v) (sym same.tables) h.stored;
  rises = subst (λ v. FilesRiseIn h.state v) (sym same.tables) h.rises;
  noted = subst (λ v. NotesEndIn h.state v) (sym same.tables) h.noted;
  meant = subst (λ v. AreMeant (entries_at h.state) v h.map) (sym same.tables) h.meant;
  cached = stays_cached h.state h.state (same_log h.state) e.cache t.cache same.cache h.cached;
  at = subst (λ v. IsAt (Ties (log_in home) h.state) (view_of v h.map) m pending) (sym same.tables) h.at;
}

-- a log of which some first batches are synced lies on its disk
pub left_ending : (home : LogDirectories) (o : OpenPipes) (t : State) (m : LogMap) (pending : List LogRecordValue) → IsOpenOrClosed (log_in home) o t → LogEnds (Ties (log_in home) t) m pending → IsRecoverableAs home t.disk m pending
left_ending home o t m pending stands ends = (
  o,
  record { done = ends.done; rest = ends.rest; splits = ends.splits; lies = record { state = t; disk = refl; stands = stands; holds = ends.log } },
)

-- the files moved on, and the pipe failed
moved_log : (which : Which) (home : LogDirectories) (s t : State) (v : View (List ℕ) (List ℕ)) (m : LogMap) (pending : List LogRecordValue) → IsAt (Ties (log_in home) s) v m pending
    → FailsMoved (Ties (log_in home)) (Ties (log_in home)) which s t → LogEnds (Ties (log_in home) t) m pending
moved_log InAppend home s t v m pending h call =
    let (a, there) = call h.files h.there in
    let w : Follows v h.files m pending a = append_follows v h.files m pending a h.stands in record {
      done = w.done;
      rest = w.rest;
      splits = w.splits;
      log = stands_log (Ties (log_in home) t) v (with_append h.files a.from a.queue) (taken m w.done) w.rest w.stands there;
    }
moved_log InRewrite home s t v m pending h call =
    let (a, there) = call h.files h.there in record {
      done = [];
      rest = pending;
      splits = refl;
      log = stands_log (Ties (log_in home) t) v (with_rewrite h.files a.from a.queue) m pending (rewrite_follows v h.files m pending a h.stands) there;
    }

turn_failed : (which : Which) (home : LogDirectories) (o : OpenPipes) (s t : State) (d : Disk) (v : View (List ℕ) (List ℕ)) (m : LogMap) (pending : List LogRecordValue) → t.disk ≡ d → IsAt (Ties (log_in home) s) v m pending
    → IsOpenOrClosed (log_in home) o t → FailsMoved (Ties (log_in home)) (Ties (log_in home)) which s t → IsRecoverableAs home d m pending
turn_failed which home o s t d v m pending disk h stands moved =
    subst (λ x. IsRecoverableAs home x m pending) disk (left_ending home o t m pending stands (moved_log which home s t v m pending h moved))

pub turn_refused : (which : Which) (home : LogDirectories) (e t : EngineState) (m : LogMap) (pending : List LogRecordValue) (error : Error) → Represents home e m pending → SameTables e t
    → FailsToRotateQueue which error e.pipes t.pipes → TurnLeavesHeld home m pending t error
turn_refused which home e t m pending errors.Memory h same call = held_same home e t m pending h same (call (sense home) h.state h.runs).0
turn_refused which home e t m pending errors.NumberRange h same call = held_same home e t m pending h same (call (sense home) h.state h.runs).0
turn_refused InAppend home e t m pending errors.Failed h same call =
    let (cause, (files, goes, stands, moved)) = call (sense home) h.state h.runs in
    turn_failed InAppend home (with_open InAppend (both_open (files_of e.pipes)) None) h.state (next_log InAppend h.state files t.pipes.disk) t.pipes.disk (view_of e.tables h.map) m pending refl h.at stands moved
turn_refused InRewrite home e t m pending errors.Failed h same call =
    let (cause, (files, goes, stands, moved)) = call (sense home) h.state h.runs in
    turn_failed InRewrite home (with_open InRewrite (both_open (files_of e.pipes)) None) h.state (next_log InRewrite h.state files t.pipes.disk) t.pipes.disk (view_of e.tables h.map) m pending refl h.at stands moved
turn_refused which home e t m pending _ h same call = call (sense home) h.state h.runs
