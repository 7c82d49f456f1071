-- What a call of one pipe makes of the log that both run over.
use Rattle.std.proofs.Common.{◌≡◌, ◌↔◌, false, List, ℕ, Result, Err, refl, ap, subst}
use Rattle.std.specs.Prelude.{IsTrue, IfErr, IfOk, IsErr, OnErr, OnOk}
use Rattle.raft_log_fs.specs.Disk.{Disk}
use Rattle.raft_log_fs.specs.Causes.{Fails}
use Rattle.raft_log_fs.specs.Image.{IsSound}
use Rattle.raft_log_file_writer.specs.LogQueue.{LogFiles}
use Rattle.raft_log_record_base.specs.declared.errors.Error.{Error}
use Rattle.raft_log_record_base.specs.declared.errors.Error.TheVariants as errors
use Rattle.raft_log_record_base.specs.declared.pipe_log.LogQueue.{LogQueue}
use Rattle.raft_log_record_base.specs.declared.pipe_log.FileBlockHandle.{FileBlockHandle}
use Rattle.raft_log_record_base.specs.declared.pipe_log.LogFileContext.{LogFileContext}
use Rattle.raft_log_active_file.specs.Queue.{synced}
use Rattle.raft_log_active_file.specs.declared.record.LogRecord.{LogRecord}
use Rattle.raft_log_file_pipe.specs.Appending.{AppendsAt, AppendFails}
use Rattle.raft_log_file_pipe.specs.Exits.{SyncsPipe, FailsToSyncPipe}
use Rattle.raft_log_machine_laws.specs.Calls.{Which, FailsWhole}
use Rattle.raft_log_dual_pipes.specs.Queues.{QueueLayout}
use Rattle.raft_log_dual_pipes.specs.State.{spanned_at, pipe_at, with_pipe, Run, Ties}
use Rattle.raft_log_dual_pipes.specs.Turning.{in_span}
use Rattle.raft_log_dual_pipes.specs.Steps.{next_log, NotAppended, TellsOfCall}
use Rattle.raft_log_dual_pipes.specs.OpenOrClosed.{both_open, IsOpenOrClosed}
use Rattle.raft_log_dual_pipes.specs.PerQueue.{LeavesRefused}
use Rattle.raft_log_dual_pipes.specs.Failing.{failed_pipe}
use Rattle.raft_log_dual_pipes.proofs.Lifts.{run_at}
use Rattle.raft_log_dual_pipes.proofs.AppendStep.{append_is_a_step}
use Rattle.raft_log_dual_pipes.proofs.RefusedStep.{refused_append_is_a_step, refused_append_has_failed}
use Rattle.raft_log_dual_pipes.proofs.OtherSteps.{sync_is_a_step}
use Rattle.raft_log_dual_pipes.proofs.BesideSteps.{fails_to_append_beside, quiet_calls_beside}
use Rattle.raft_log_dual_pipes.specs.Pipes.{LogPipes, LogSense, OnePipe, RunsOn, LogRecordValue, State, files_of, header_at, layout_of, one_at, queue_of, queues}
use Rattle.raft_log_dual_pipes.specs.Calls.{AppendsTo, FailsToAppendTo, FailsToSyncQueue, RefusalLeaves, SyncsQueue}
use Rattle.raft_log_dual_pipes.specs.PipeCalls.{SameRules}
use Rattle.raft_log_dual_pipes.proofs.Pairing.{answered, at_log, both_run, err_through, is_failure, mended_at, next_disk, ok_through, runs_again, same_files, told, two_of, with_one}

-- The pipe that is called, and what it is and on which disk once it answers.
module _ (which : Which) (v : LogPipes) (o : OnePipe) (d : Disk) where
  again : (log : LogSense) (s : State) (files : LogFiles LogRecord) → RunsOn log v s → SameRules (one_at which v) o → o.failed ≡ false → Run (queues log) (with_pipe which (files_of v) o.files) (next_log which s files d)
      → RunsOn log (with_one which v o d) (next_log which s files d)
  again log s files run same alive next = runs_again which log v s (next_log which s files d) o d run same alive (next_disk which s (in_span (spanned_at which s) files) d) next

  pub syncs : SyncsPipe (layout_of (one_at which v)).format (layout_of (one_at which v)).own (layout_of (one_at which v)).paths (pipe_at which (files_of v)) v.disk d → SameRules (one_at which v) o → o.failed ≡ false → o.files ≡ pipe_at which (files_of v)
      → SyncsQueue which v (with_one which v o d)
  syncs call same alive files log s run =
      let there = at_log which log v s run (λ (l : QueueLayout LogRecord) (n : LogQueue) (x : Disk). SyncsPipe l.format l.own l.paths (pipe_at which (files_of v)) x d) call in
      let (next, step) = sync_is_a_step (queues log) (two_of log v s run) which (files_of v) s run.run d there in
      let all = synced (spanned_at which s).files in
      (again log s all run same alive (same_files which log v (next_log which s all d) o.files files next), step)

  pub syncs_not : FailsToSyncPipe (layout_of (one_at which v)).format (layout_of (one_at which v)).own (layout_of (one_at which v)).paths (pipe_at which (files_of v)) v.disk d → FailsToSyncQueue which v (with_one which v o d)
  syncs_not call log s run =
      let there = at_log which log v s run (λ (l : QueueLayout LogRecord) (n : LogQueue) (x : Disk). FailsToSyncPipe l.format l.own l.paths (pipe_at which (files_of v)) x d) call in
      let two = two_of log v s run in
      let (files, same, lies, whole) = (quiet_calls_beside (queues log) two which (both_open (files_of v)) (pipe_at which (files_of v)) s (both_run which log v s run)).0.refused d there in
      let runs = run_at (queues log) two which (files_of v) s run.run in (
        subst (λ (x : Disk). Fails x d) run.disk (there s.disk (spanned_at which s).files runs.pipe).0,
        subst (λ (p : LogFiles LogRecord). IsOpenOrClosed (queues log) (failed_pipe which (files_of v)) (next_log which s p d)) same lies,
        subst (λ (p : LogFiles LogRecord). FailsWhole (Ties (queues log)) (Ties (queues log)) s (next_log which s p d)) same whole,
      )

  pub appends : (signed : LogFileContext → List ℕ) (block : FileBlockHandle)
      → AppendsAt (layout_of (one_at which v)).format (layout_of (one_at which v)).own (layout_of (one_at which v)).paths (one_at which v).settings.new_files (one_at which v).settings.queue signed (pipe_at which (files_of v)) o.files block v.disk d
      → SameRules (one_at which v) o → o.failed ≡ false → o.files.first_seq ≡ (pipe_at which (files_of v)).first_seq → AppendsTo which signed block v (with_one which v o d)
  appends signed block call same alive first log s y run says =
      let begin = (one_at which v).settings.new_files in
      let there = at_log which log v s run (λ (l : QueueLayout LogRecord) (n : LogQueue) (x : Disk). AppendsAt l.format l.own l.paths begin n signed (pipe_at which (files_of v)) o.files block x d) call in
      let (files, taken, last, next, step) = append_is_a_step (queues log) (two_of log v s run) which (files_of v) s run.run begin (queue_of which) signed y says o.files block d there first in
      (ap (λ i. i.queue) there.id, (files, taken, last, again log s files run same alive next, step))

  left : (log : LogSense) (s : State) (y : LogRecordValue) (error : Error) → RunsOn log v s → SameRules (one_at which v) o → (is_failure error ≡ false → o.failed ≡ false) → NotAppended (queues log) which (files_of v) s (header_at which v) y o.files error d
      → LeavesRefused (queues log) which (both_open (files_of v)) (pipe_at which (files_of v)) s (header_at which v) y o.files error d → (TellsOfCall error → Fails v.disk d) → RefusalLeaves log which s y v (with_one which v o d) error
  left log s y (errors.Io kind) run same alive (files, cut, next, step) beside counted = (counted tt, (files, cut, again log s files run same (alive refl) next, step))
  left log s y (errors.TryAgain text) run same alive (files, cut, next, step) beside counted = (counted tt, (files, cut, again log s files run same (alive refl) next, step))
  left log s y errors.NumberRange run same alive (files, cut, next, step) beside counted = (files, cut, again log s files run same (alive refl) next, step)
  left log s y errors.Memory run same alive (files, cut, next, step) beside counted = (files, cut, again log s files run same (alive refl) next, step)
  left log s y errors.Failed run same alive h beside counted = (counted tt, beside)
  left log s y _ run same alive h beside counted = absurd h

  pub appends_not : (signed : LogFileContext → List ℕ) (error : Error)
      → AppendFails (layout_of (one_at which v)).format (layout_of (one_at which v)).own (layout_of (one_at which v)).paths (one_at which v).settings.new_files (one_at which v).settings.queue signed (pipe_at which (files_of v)) o.files error v.disk d
      → SameRules (one_at which v) o → (is_failure error ≡ false → o.failed ≡ false) → o.files.first_seq ≡ (pipe_at which (files_of v)).first_seq → IsSound d → FailsToAppendTo which signed error v (with_one which v o d)
  appends_not signed error call same alive first sound log s y run says =
      let begin = (one_at which v).settings.new_files in
      let there = at_log which log v s run (λ (l : QueueLayout LogRecord) (n : LogQueue) (x : Disk). AppendFails l.format l.own l.paths begin n signed (pipe_at which (files_of v)) o.files error x d) call in
      let two = two_of log v s run in
      left log s y error run same alive (refused_append_is_a_step (queues log) two which (files_of v) s run.run begin (queue_of which) signed y says o.files error d sound there first)
      (fails_to_append_beside (queues log) two which (both_open (files_of v)) (pipe_at which (files_of v)) s (both_run which log v s run) begin (queue_of which) signed y says o.files error d there first)
      (λ of_call. subst (λ (x : Disk). Fails x d) run.disk (refused_append_has_failed (queues log) two which (files_of v) s run.run begin (queue_of which) signed y says o.files error d there of_call))

  -- The same of what the call answered.

  pub syncs_when : {A : Type 0} (r : Result A Error) → OnOk r (SyncsPipe (layout_of (one_at which v)).format (layout_of (one_at which v)).own (layout_of (one_at which v)).paths (pipe_at which (files_of v)) v.disk d) → (IsTrue o.failed ↔ IsErr r) → SameRules (one_at which v) o
      → o.files ≡ pipe_at which (files_of v) → OnOk r (SyncsQueue which v (with_one which v o d))
  syncs_when r call fails same files =
      ok_through r (λ x. SyncsPipe (layout_of (one_at which v)).format (layout_of (one_at which v)).own (layout_of (one_at which v)).paths (pipe_at which (files_of v)) v.disk d) (λ x. SyncsQueue which v (with_one which v o d)) call
      (λ x is done. syncs done same (answered r x o.failed is fails) files)

  pub syncs_not_when : {A : Type 0} (r : Result A Error) → OnErr r (FailsToSyncPipe (layout_of (one_at which v)).format (layout_of (one_at which v)).own (layout_of (one_at which v)).paths (pipe_at which (files_of v)) v.disk d) → OnErr r (FailsToSyncQueue which v (with_one which v o d))
  syncs_not_when r call =
      err_through r (λ e. FailsToSyncPipe (layout_of (one_at which v)).format (layout_of (one_at which v)).own (layout_of (one_at which v)).paths (pipe_at which (files_of v)) v.disk d) (λ e. FailsToSyncQueue which v (with_one which v o d)) call (λ e is done. syncs_not done)

  pub appends_when : (signed : LogFileContext → List ℕ) (r : Result FileBlockHandle Error)
      → IfOk r (λ block. AppendsAt (layout_of (one_at which v)).format (layout_of (one_at which v)).own (layout_of (one_at which v)).paths (one_at which v).settings.new_files (one_at which v).settings.queue signed (pipe_at which (files_of v)) o.files block v.disk d)
      → (IsTrue o.failed ↔ (r ≡ Err errors.Failed)) → SameRules (one_at which v) o → o.files.first_seq ≡ (pipe_at which (files_of v)).first_seq → IfOk r (λ block. AppendsTo which signed block v (with_one which v o d))
  appends_when signed r call fails same first =
      ok_through r
      (λ block. AppendsAt (layout_of (one_at which v)).format (layout_of (one_at which v)).own (layout_of (one_at which v)).paths (one_at which v).settings.new_files (one_at which v).settings.queue signed (pipe_at which (files_of v)) o.files block v.disk d)
      (λ block. AppendsTo which signed block v (with_one which v o d)) call (λ block is done. appends signed block done same (told r block o.failed is fails) first)

  pub appends_not_when : (signed : LogFileContext → List ℕ) (r : Result FileBlockHandle Error)
      → IfErr r (λ error. AppendFails (layout_of (one_at which v)).format (layout_of (one_at which v)).own (layout_of (one_at which v)).paths (one_at which v).settings.new_files (one_at which v).settings.queue signed (pipe_at which (files_of v)) o.files error v.disk d)
      → (IsTrue o.failed ↔ (r ≡ Err errors.Failed)) → SameRules (one_at which v) o → o.files.first_seq ≡ (pipe_at which (files_of v)).first_seq → IsSound d → IfErr r (λ error. FailsToAppendTo which signed error v (with_one which v o d))
  appends_not_when signed r call fails same first sound =
      err_through r
      (λ error. AppendFails (layout_of (one_at which v)).format (layout_of (one_at which v)).own (layout_of (one_at which v)).paths (one_at which v).settings.new_files (one_at which v).settings.queue signed (pipe_at which (files_of v)) o.files error v.disk d)
      (λ error. FailsToAppendTo which signed error v (with_one which v o d)) call (λ error is done. appends_not signed error done same (mended_at r o.failed error is fails) first sound)

-- of a refused sync nothing is said of the pipe but that its files are held
pub sync_refused : {A : Type 0} (which : Which) (v : LogPipes) (d : Disk) (r : Result A Error) → OnErr r (FailsToSyncPipe (layout_of (one_at which v)).format (layout_of (one_at which v)).own (layout_of (one_at which v)).paths (pipe_at which (files_of v)) v.disk d)
    → OnErr r (FailsToSyncQueue which v (with_one which v (one_at which v) d))
sync_refused which v d r call = syncs_not_when which v (one_at which v) d r call
