-- A batch that was refused, and a sync, told of an engine's log.
use Rattle.std.proofs.Common.{◌≡◌, ◌⊎◌, ℕ, ◌≤◌, None, List, [], ◌∷◌, ◌++◌, inl, inr, refl, sym, ap, subst, ◌∙◌, arith, append_assoc}
use Rattle.raft_log_model_laws.specs.Groups.{taken}
use Rattle.raft_log_fs.specs.Causes.{Fails}
use Rattle.raft_log_fs.specs.Disk.{Disk}
use Rattle.raft_log_file_writer.specs.LogQueue.{LogFiles}
use Rattle.raft_log_record_base.specs.declared.errors.Error.{Error}
use Rattle.raft_log_record_base.specs.declared.errors.Error.TheVariants as errors
use Rattle.raft_log_active_file.specs.declared.record.LogRecord.{LogRecord}
use Rattle.raft_log_record_batches.specs.Batch.{Batch}
use Rattle.raft_log_block_cache.specs.Signing.{signed_for}
use Rattle.raft_log_machine_laws.specs.Calls.Which.{InAppend}
use Rattle.raft_log_machine_laws.specs.Log.{View, LogEnds}
use Rattle.raft_log_machine_laws.proofs.Public.{append_cut_back, append_left_out, append_may_be_there, failed_whole, taken_twice}
use Rattle.raft_log_block_cache.specs.raft_log_memtables.specs.Batch.{all_shown}
use Rattle.raft_log_block_cache.specs.raft_log_dual_pipes.specs.Crash.{AllowsIn}
use Rattle.raft_log_block_cache.specs.raft_log_dual_pipes.specs.Failing.{failed_pipe}
use Rattle.raft_log_block_cache.specs.raft_log_dual_pipes.specs.OpenOrClosed.{OpenPipes, IsOpenOrClosed, both_open, with_open}
use Rattle.raft_log_block_cache.specs.raft_log_dual_pipes.specs.OnDisk.{LogLiesOn}
use Rattle.raft_log_block_cache.specs.raft_log_dual_pipes.specs.State.{Ties}
use Rattle.raft_log_block_cache.specs.raft_log_dual_pipes.specs.Steps.{next_log}
use Rattle.raft_log_block_cache.specs.Stored.{KeepsBytes}
use Rattle.raft_log_block_cache.proofs.Public.{calls_keep_bytes}
use Rattle.raft_log_block_cache.specs.raft_log_memtables.specs.Views.{view_of}
use Rattle.raft_log_block_cache.specs.raft_log_dual_pipes.specs.Pipes.{LogPipes, RunsOn, LogRecordValue, State, files_of}
use Rattle.raft_log_block_cache.specs.raft_log_dual_pipes.specs.Calls.{CutsBackOn, FailsToAppendTo, FailsToSyncQueue, LeavesOutOn}
use Rattle.raft_log_engine_laws.specs.EngineState.{LogDirectories, KeepsOrForgets, LogMap, EngineState, log_in, said_of, sense}
use Rattle.raft_log_engine_laws.specs.Holding.{EndsAt, Represents, IsRecoverableAs, RunsAs, RunsEnding}
use Rattle.raft_log_engine_laws.specs.Writing.{Leaves, items_at}
use Rattle.raft_log_engine_laws.proofs.Growing.{batch_grows, in_file}
use Rattle.raft_log_engine_laws.specs.Laws.{MayBeWritten}
use Rattle.raft_log_engine_laws.proofs.Keeping.{goes_on}
use Rattle.raft_log_engine_laws.proofs.Calling.{says_batch}

module _ (home : LogDirectories) (e t : EngineState) (b : Batch) (m : LogMap) (pending : List LogRecordValue) (h : Represents home e m pending) (same : t.tables ≡ e.tables) (kept : KeepsOrForgets e t) where
  -- cut back, all batches before are in the map
  cut_back : CutsBackOn (sense home) InAppend h.state e.pipes t.pipes → Represents home t (taken m pending) []
  cut_back call =
      let s = h.state in
      let (files, cut, runs, step) = call in
      goes_on home e t m pending h same kept files ((calls_keep_bytes {R = LogRecord}).cut_back _ _ _ s.append.files files cut) runs (taken m pending) []
      (append_cut_back (Ties (log_in home)) (AllowsIn (log_in home)) s (next_log InAppend s files t.pipes.disk) (view_of e.tables h.map) m pending h.at step)

  -- left out, some first ones are
  left_out : LeavesOutOn (sense home) InAppend h.state e.pipes t.pipes → EndsAt home t m pending
  left_out call =
      let s = h.state in
      let (files, left, runs, step) = call in
      let keeps : KeepsBytes s.append.files files = elim left [
        | inl is ↦ subst (λ (q : LogFiles LogRecord). KeepsBytes s.append.files q) (sym is) ((calls_keep_bytes {R = LogRecord}).same s.append.files)
        | inr cut ↦ (calls_keep_bytes {R = LogRecord}).cut_back _ _ _ s.append.files files cut
      ] in
      let ends = append_left_out (Ties (log_in home)) (AllowsIn (log_in home)) s (next_log InAppend s files t.pipes.disk) (view_of e.tables h.map) m pending h.at step in record {
        done = ends.done;
        rest = ends.rest;
        splits = ends.splits;
        holds = goes_on home e t m pending h same kept files keeps runs (taken m ends.done) ends.rest ends.at;
      }

-- a log that ends so lies on its disk
left_at : (home : LogDirectories) (o : OpenPipes) (t : State) (m : LogMap) (pending : List LogRecordValue) → IsOpenOrClosed (log_in home) o t → LogEnds (Ties (log_in home) t) m pending → IsRecoverableAs home t.disk m pending
left_at home o t m pending stands ends = (
  o,
  record { done = ends.done; rest = ends.rest; splits = ends.splits; lies = record { state = t; disk = refl; stands = stands; holds = ends.log } },
)

-- what the pipes leave of a batch that they refused
pub refused_leaves : (home : LogDirectories) (e t : EngineState) (b : Batch) (m : LogMap) (pending : List LogRecordValue) (error : Error) → Represents home e m pending → MayBeWritten e b → t.tables ≡ e.tables → KeepsOrForgets e t
    → FailsToAppendTo InAppend (signed_for b) error e.pipes t.pipes → Leaves home b m pending e t error
refused_leaves home e t b m pending (errors.Io kind) h ready same kept call =
    let (cause, cut) = call (sense home) h.state (said_of b) h.runs (says_batch home e b ready) in
    (cause, cut_back home e t b m pending h same kept cut)
refused_leaves home e t b m pending (errors.TryAgain text) h ready same kept call =
    let (cause, cut) = call (sense home) h.state (said_of b) h.runs (says_batch home e b ready) in
    (cause, cut_back home e t b m pending h same kept cut)
refused_leaves home e t b m pending errors.NumberRange h ready same kept call =
    left_out home e t b m pending h same kept (call (sense home) h.state (said_of b) h.runs (says_batch home e b ready))
refused_leaves home e t b m pending errors.Memory h ready same kept call =
    left_out home e t b m pending h same kept (call (sense home) h.state (said_of b) h.runs (says_batch home e b ready))
refused_leaves home e t b m pending errors.Failed h ready same kept call =
    let s = h.state in
    let (cause, (files, goes, stands, may)) = call (sense home) s (said_of b) h.runs (says_batch home e b ready) in
    let next : State = next_log InAppend s files t.pipes.disk in
    let u : ℕ → View (List ℕ) (List ℕ) = λ n. view_of (all_shown n e.tables (items_at (in_file n) b)) (taken h.map (said_of b ∷ [])) in (
      cause,
      elim (append_may_be_there (Ties (log_in home)) (Ties (log_in home)) s next (view_of e.tables h.map) m pending h.at u (said_of b) may
          (λ n. batch_grows b (in_file n) e.tables h.map h.meant.orderly ready.marked ready.follows)) [
            | inl without ↦ inl (left_at home (with_open InAppend (both_open (files_of e.pipes)) None) next m pending stands without)
            | inr with_it ↦ inr (left_at home (with_open InAppend (both_open (files_of e.pipes)) None) next m (pending ++ said_of b ∷ []) stands with_it)
          ],
    )
refused_leaves home e t b m pending _ h ready same kept call =
    call (sense home) h.state (said_of b) h.runs (says_batch home e b ready)

-- a sync that failed leaves the log as it was
pub unsynced_left : (home : LogDirectories) (v w : LogPipes) (m : LogMap) (pending : List LogRecordValue) → RunsAs home v m pending → FailsToSyncQueue InAppend v w
    → Fails v.disk w.disk × IsRecoverableAs home w.disk m pending
unsynced_left home v w m pending h call =
    let s = h.state in
    let (fails, stands, step) = call (sense home) s h.runs in
    let next : State = next_log InAppend s s.append.files w.disk in
    let log = failed_whole (Ties (log_in home)) (Ties (log_in home)) s next h.view m pending h.at step in
    (fails, left_at home (failed_pipe InAppend (files_of v)) next m pending stands (record { done = []; rest = pending; splits = refl; log = log }))

-- what is left behind some synced batches is left behind all
pub left_behind : (home : LogDirectories) (d : Disk) (m : LogMap) (done rest pending : List LogRecordValue) → done ++ rest ≡ pending → IsRecoverableAs home d (taken m done) rest → IsRecoverableAs home d m pending
left_behind home d m done rest pending splits (o, left) = (
  o,
  record {
    done = done ++ left.done;
    rest = left.rest;
    splits = append_assoc done left.done left.rest ∙ ap (λ l. done ++ l) left.splits ∙ splits;
    lies = subst (λ k. LogLiesOn (log_in home) o d k left.rest) (taken_twice m done left.done) left.lies;
  },
)
