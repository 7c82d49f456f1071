-- What a rotation and a purge of one pipe make of the log that both run over.
use Rattle.std.proofs.Common.{◌≡◌, ◌↔◌, false, ℕ, Result, Err, refl, sym, ◌∙◌, subst}
use Rattle.std.specs.Prelude.{IsTrue, IfErr, OnOk}
use Rattle.raft_log_fs.specs.Disk.{Disk}
use Rattle.raft_log_fs.specs.Causes.{Fails}
use Rattle.raft_log_fs.specs.Image.{IsSound}
use Rattle.raft_log_record_base.specs.declared.errors.Error.{Error}
use Rattle.raft_log_record_base.specs.declared.errors.Error.TheVariants as errors
use Rattle.raft_log_record_base.specs.declared.pipe_log.LogQueue.{LogQueue}
use Rattle.raft_log_active_file.specs.declared.record.LogRecord.{LogRecord}
use Rattle.raft_log_file_pipe.specs.Exits.{IsTurned, Rotates, RotationLeaves}
use Rattle.raft_log_file_pipe.specs.Purging.{IsRaised, Purges, PurgeLeaves}
use Rattle.raft_log_machine_laws.specs.Calls.{Which}
use Rattle.raft_log_dual_pipes.specs.Queues.{QueueLayout, layout_at}
use Rattle.raft_log_dual_pipes.specs.State.{spanned_at, pipe_at, with_pipe, Run}
use Rattle.raft_log_dual_pipes.specs.Turning.{in_span}
use Rattle.raft_log_dual_pipes.specs.Steps.{next_log, TellsOfCall}
use Rattle.raft_log_dual_pipes.specs.Syncing.{NotPurged, NotRotated, raised_log}
use Rattle.raft_log_dual_pipes.specs.OpenOrClosed.{both_open}
use Rattle.raft_log_dual_pipes.specs.PerQueue.{LeavesUnpurged, LeavesUnrotated}
use Rattle.raft_log_dual_pipes.proofs.Lifts.{run_at}
use Rattle.raft_log_dual_pipes.proofs.RefusedStep.{refused_rotation_has_failed}
use Rattle.raft_log_dual_pipes.proofs.BesideSteps.{quiet_calls_beside}
use Rattle.raft_log_dual_pipes.proofs.OtherSteps.{purge_is_a_step, refused_purge_is_a_step, refused_rotation_is_a_step, rotation_is_a_step}
use Rattle.raft_log_dual_pipes.specs.Pipes.{LogPipes, LogSense, OnePipe, RunsOn, State, files_of, header_at, layout_of, one_at, queues}
use Rattle.raft_log_dual_pipes.specs.Calls.{FailsToPurgeQueue, FailsToRotateQueue, IsSpanOf, LeavesSame, PurgeLeavesOn, PurgesQueue, RotatesQueue, TurnLeaves}
use Rattle.raft_log_dual_pipes.specs.PipeCalls.{SameRules}
use Rattle.raft_log_dual_pipes.proofs.Pairing.{at_log, both_run, err_through, is_failure, mended_at, next_disk, ok_through, runs_again, told, two_of, with_one}

module _ (which : Which) (v : LogPipes) (o : OnePipe) (d : Disk) where
  -- nothing was done
  stays : (log : LogSense) (s : State) → RunsOn log v s → SameRules (one_at which v) o → o.failed ≡ false → d ≡ s.disk → Run (queues log) (with_pipe which (files_of v) o.files) s → LeavesSame log s v (with_one which v o d)
  stays log s run same alive is next = (runs_again which log v s s o d run same alive (sym is) next, is ∙ run.disk)

  rotates : Rotates (layout_of (one_at which v)).format (layout_of (one_at which v)).own (layout_of (one_at which v)).paths (header_at which v) (pipe_at which (files_of v)) o.files v.disk d
      → IsTurned (one_at which v).settings.new_files.format (pipe_at which (files_of v)) o.files → SameRules (one_at which v) o → o.failed ≡ false → RotatesQueue which v (with_one which v o d)
  rotates call turned same alive log s run =
      let there = at_log which log v s run (λ (l : QueueLayout LogRecord) (n : LogQueue) (x : Disk). Rotates l.format l.own l.paths (header_at which v) (pipe_at which (files_of v)) o.files x d) call in
      let (files, goes, next, step) = rotation_is_a_step (queues log) (two_of log v s run) which (files_of v) s run.run (header_at which v) (one_at which v).settings.new_files.format o.files d there turned in
      (files, goes, runs_again which log v s (next_log which s files d) o d run same alive (next_disk which s (in_span (spanned_at which s) files) d) next, step)

  turned_not : (log : LogSense) (s : State) (error : Error) → RunsOn log v s → SameRules (one_at which v) o → (is_failure error ≡ false → o.failed ≡ false) → NotRotated (queues log) which (files_of v) s (header_at which v) o.files error d
      → LeavesUnrotated (queues log) which (both_open (files_of v)) (pipe_at which (files_of v)) s (header_at which v) o.files error d → (TellsOfCall error → Fails v.disk d) → TurnLeaves log which s v (with_one which v o d) error
  turned_not log s errors.Memory run same alive (is, next) beside counted = stays log s run same (alive refl) is next
  turned_not log s errors.NumberRange run same alive (is, next) beside counted = stays log s run same (alive refl) is next
  turned_not log s errors.Failed run same alive h beside counted = (counted tt, beside)
  turned_not log s _ run same alive h beside counted = absurd h

  rotates_not : (error : Error) → RotationLeaves (layout_of (one_at which v)).format (layout_of (one_at which v)).own (layout_of (one_at which v)).paths (header_at which v) (pipe_at which (files_of v)) o.files error v.disk d
      → SameRules (one_at which v) o → (is_failure error ≡ false → o.failed ≡ false) → IsSound d → FailsToRotateQueue which error v (with_one which v o d)
  rotates_not error call same alive sound log s run =
      let there = at_log which log v s run (λ (l : QueueLayout LogRecord) (n : LogQueue) (x : Disk). RotationLeaves l.format l.own l.paths (header_at which v) (pipe_at which (files_of v)) o.files error x d) call in
      let two = two_of log v s run in
      turned_not log s error run same alive (refused_rotation_is_a_step (queues log) two which (files_of v) s run.run (header_at which v) o.files error d sound there)
      ((quiet_calls_beside (queues log) two which (both_open (files_of v)) (pipe_at which (files_of v)) s (both_run which log v s run)).1.refused (header_at which v) o.files error d there)
      (λ of_call. subst (λ (x : Disk). Fails x d) run.disk (refused_rotation_has_failed (queues log) two which (files_of v) s run.run (header_at which v) o.files error d there of_call))

  purges : (seq : ℕ) → Purges (layout_of (one_at which v)).format (layout_of (one_at which v)).own (layout_of (one_at which v)).paths (one_at which v).settings.capacity seq (pipe_at which (files_of v)) o.files v.disk d
      → IsRaised (one_at which v).settings.capacity seq (pipe_at which (files_of v)) o.files → SameRules (one_at which v) o → o.failed ≡ false → PurgesQueue which seq v (with_one which v o d)
  purges seq call raised same alive log s run =
      let capacity = (one_at which v).settings.capacity in
      let there = at_log which log v s run (λ (l : QueueLayout LogRecord) (n : LogQueue) (x : Disk). Purges l.format l.own l.paths capacity seq (pipe_at which (files_of v)) o.files x d) call in
      let (next, step) = purge_is_a_step (queues log) (two_of log v s run) which (files_of v) s run.run capacity seq o.files d there raised in
      (runs_again which log v s (raised_log which s seq d) o d run same alive (next_disk which s (record { first = seq; files = (spanned_at which s).files }) d) next, step)

  -- why a purge was refused, at the pipe and at the log
  cause : (log : LogSense) (s : State) (seq : ℕ) (error : Error) → RunsOn log v s
      → PurgeLeaves (layout_at which (queues log)).format (layout_at which (queues log)).own (layout_at which (queues log)).paths (one_at which v).settings.capacity seq (pipe_at which (files_of v)) o.files error s.disk d
      → SameRules (one_at which v) o → (is_failure error ≡ false → o.failed ≡ false) → NotPurged (queues log) which (files_of v) s seq o.files error d
      → LeavesUnpurged (queues log) which (both_open (files_of v)) s seq o.files error d → PurgeLeavesOn log which seq s v (with_one which v o d) error
  cause log s seq errors.Memory run call same alive (is, next) beside = stays log s run same (alive refl) is next
  cause log s seq (errors.Other fault) run call same alive (is, next) beside = (call.0, stays log s run same (alive refl) is next)
  cause log s seq errors.NumberRange run call same alive (is, next) beside = stays log s run same (alive refl) is next
  cause log s seq errors.Failed run call same alive h beside =
      let runs = run_at (queues log) (two_of log v s run) which (files_of v) s run.run in
      (subst (λ (x : Disk). Fails x d) run.disk (call.1 s.disk (spanned_at which s).files runs.pipe).0, beside)
  cause log s seq _ run call same alive h beside = absurd h

  purges_not : (seq : ℕ) (error : Error) → PurgeLeaves (layout_of (one_at which v)).format (layout_of (one_at which v)).own (layout_of (one_at which v)).paths (one_at which v).settings.capacity seq (pipe_at which (files_of v)) o.files error v.disk d
      → SameRules (one_at which v) o → (is_failure error ≡ false → o.failed ≡ false) → IsSound d → FailsToPurgeQueue which seq error v (with_one which v o d)
  purges_not seq error call same alive sound log s run =
      let capacity = (one_at which v).settings.capacity in
      let there = at_log which log v s run (λ (l : QueueLayout LogRecord) (n : LogQueue) (x : Disk). PurgeLeaves l.format l.own l.paths capacity seq (pipe_at which (files_of v)) o.files error x d) call in
      let two = two_of log v s run in
      cause log s seq error run there same alive (refused_purge_is_a_step (queues log) two which (files_of v) s run.run capacity seq o.files error d sound there)
      ((quiet_calls_beside (queues log) two which (both_open (files_of v)) (pipe_at which (files_of v)) s (both_run which log v s run)).2.refused capacity seq o.files error d there)

  -- The same of what the call answered.

  pub rotates_when : {A : Type 0} (r : Result A Error) → OnOk r (Rotates (layout_of (one_at which v)).format (layout_of (one_at which v)).own (layout_of (one_at which v)).paths (header_at which v) (pipe_at which (files_of v)) o.files v.disk d)
      → OnOk r (IsTurned (one_at which v).settings.new_files.format (pipe_at which (files_of v)) o.files) → (IsTrue o.failed ↔ (r ≡ Err errors.Failed)) → SameRules (one_at which v) o → OnOk r (RotatesQueue which v (with_one which v o d))
  rotates_when {A} r call turned fails same =
      ok_through r (λ x. IsTurned (one_at which v).settings.new_files.format (pipe_at which (files_of v)) o.files) (λ x. RotatesQueue which v (with_one which v o d)) turned
      (λ x is done. rotates
      (subst (λ (y : Result A Error). OnOk y (Rotates (layout_of (one_at which v)).format (layout_of (one_at which v)).own (layout_of (one_at which v)).paths (header_at which v) (pipe_at which (files_of v)) o.files v.disk d)) is call)
      done same (told r x o.failed is fails))

  pub rotates_not_when : {A : Type 0} (r : Result A Error)
      → IfErr r (λ error. RotationLeaves (layout_of (one_at which v)).format (layout_of (one_at which v)).own (layout_of (one_at which v)).paths (header_at which v) (pipe_at which (files_of v)) o.files error v.disk d)
      → (IsTrue o.failed ↔ (r ≡ Err errors.Failed)) → SameRules (one_at which v) o → IsSound d → IfErr r (λ error. FailsToRotateQueue which error v (with_one which v o d))
  rotates_not_when r call fails same sound =
      err_through r
      (λ error. RotationLeaves (layout_of (one_at which v)).format (layout_of (one_at which v)).own (layout_of (one_at which v)).paths (header_at which v) (pipe_at which (files_of v)) o.files error v.disk d)
      (λ error. FailsToRotateQueue which error v (with_one which v o d)) call (λ error is done. rotates_not error done same (mended_at r o.failed error is fails) sound)

  pub purges_when : (seq : ℕ) {A : Type 0} (r : Result A Error)
      → OnOk r (Purges (layout_of (one_at which v)).format (layout_of (one_at which v)).own (layout_of (one_at which v)).paths (one_at which v).settings.capacity seq (pipe_at which (files_of v)) o.files v.disk d)
      → OnOk r (IsRaised (one_at which v).settings.capacity seq (pipe_at which (files_of v)) o.files) → (IsTrue o.failed ↔ (r ≡ Err errors.Failed)) → SameRules (one_at which v) o → OnOk r (PurgesQueue which seq v (with_one which v o d))
  purges_when seq {A} r call raised fails same =
      ok_through r (λ x. IsRaised (one_at which v).settings.capacity seq (pipe_at which (files_of v)) o.files) (λ x. PurgesQueue which seq v (with_one which v o d)) raised
      (λ x is done. purges seq
      (subst (λ (y : Result A Error). OnOk y (Purges (layout_of (one_at which v)).format (layout_of (one_at which v)).own (layout_of (one_at which v)).paths (one_at which v).settings.capacity seq (pipe_at which (files_of v)) o.files v.disk d)) is call)
      done same (told r x o.failed is fails))

  pub purges_not_when : (seq : ℕ) {A : Type 0} (r : Result A Error)
      → IfErr r (λ error. PurgeLeaves (layout_of (one_at which v)).format (layout_of (one_at which v)).own (layout_of (one_at which v)).paths (one_at which v).settings.capacity seq (pipe_at which (files_of v)) o.files error v.disk d)
      → (IsTrue o.failed ↔ (r ≡ Err errors.Failed)) → SameRules (one_at which v) o → IsSound d → IfErr r (λ error. FailsToPurgeQueue which seq error v (with_one which v o d))
  purges_not_when seq r call fails same sound =
      err_through r
      (λ error. PurgeLeaves (layout_of (one_at which v)).format (layout_of (one_at which v)).own (layout_of (one_at which v)).paths (one_at which v).settings.capacity seq (pipe_at which (files_of v)) o.files error v.disk d)
      (λ error. FailsToPurgeQueue which seq error v (with_one which v o d)) call (λ error is done. purges_not seq error done same (mended_at r o.failed error is fails) sound)

-- the span that a pipe tells is the queue's
pub span_told : (which : Which) (v : LogPipes) (first last : ℕ) → first ≡ (pipe_at which (files_of v)).first_seq → last ≡ (pipe_at which (files_of v)).active.seq → IsSpanOf which v first last
span_told which v first last is_first is_last log s run =
    let runs = run_at (queues log) (two_of log v s run) which (files_of v) s run.run in
    (is_first ∙ runs.first, is_last ∙ runs.pipe.number)
