-- Calls that are refused for want of a number.
use Rattle.std.proofs.Common.{◌≡◌, ◌⊎◌, ℕ, zero, suc, ◌^◌, ◌<◌, ◌≤◌, List, [], ◌∷◌, length, Result, refl, sym, ap, subst, inl, inr, arith}
use Rattle.std.specs.Prelude.{IfErr}
use Rattle.std.specs.List.{slice_index_or}
use Rattle.raft_log_model_laws.specs.Item.{Record}
use Rattle.raft_log_fs.specs.Disk.{Disk}
use Rattle.raft_log_fs.specs.Causes.{Fails}
use Rattle.raft_log_file_writer.specs.LawsChains.{Written}
use Rattle.raft_log_file_writer.specs.LogQueue.{LogFiles}
use Rattle.raft_log_fs.proofs.Public.{fails_after, fails_still}
use Rattle.raft_log_record_base.specs.declared.errors.Error.{Error}
use Rattle.raft_log_record_base.specs.declared.errors.Error.TheVariants as errors
use Rattle.raft_log_record_base.specs.declared.pipe_log.LogQueue.{LogQueue}
use Rattle.raft_log_record_base.specs.declared.pipe_log.FileBlockHandle.{FileBlockHandle}
use Rattle.raft_log_record_base.specs.declared.pipe_log.LogFileContext.{LogFileContext}
use Rattle.raft_log_file_format.specs.Header.{header_bytes}
use Rattle.raft_log_active_file.specs.Queue.{settled}
use Rattle.raft_log_active_file.specs.Standing.{Names}
use Rattle.raft_log_active_file.specs.Layout.{FilePaths}
use Rattle.raft_log_active_file.specs.declared.last_file.WriteFault.{WriteFault}
use Rattle.raft_log_active_file.specs.declared.last_file.WriteFault.TheVariants as faults
use Rattle.raft_log_active_file.specs.declared.record.LogRecord.{LogRecord}
use Rattle.raft_log_file_pipe.specs.Exits.{AddLeaves, RotationLeaves}
use Rattle.raft_log_file_pipe.specs.Appending.{context_of, AppendFails, Tells, TurnsElsewhere}
use Rattle.raft_log_file_pipe.specs.Appending.TurnsElsewhere.{elsewhere, nowhere}
use Rattle.raft_log_file_pipe.specs.Appending.AppendFails.{not_turned, not_written}
use Rattle.raft_log_file_pipe.specs.Files.{IsSpan, Listed}
use Rattle.raft_log_file_pipe.specs.Purging.{HasFarFile, PurgeLeaves}
use Rattle.raft_log_file_pipe.proofs.Public.{span_end}
use Rattle.raft_log_file_pipe.specs.declared.new_files.NewFiles.{NewFiles}
use Rattle.raft_log_file_pipe.specs.declared.pipe_files.PipeFiles.{PipeFiles}
use Rattle.raft_log_machine_laws.specs.Calls.{Which}
use Rattle.raft_log_machine_laws.specs.Calls.Which.{InAppend, InRewrite}
use Rattle.raft_log_dual_pipes.specs.Queues.{IsQueueLayout, QueueLayout, SaysRecord, layout_at}
use Rattle.raft_log_dual_pipes.specs.State.{pipe_at, spanned_at}
use Rattle.raft_log_dual_pipes.proofs.Lifts.{run_at, told_at}
use Rattle.raft_log_dual_pipes.proofs.OneQueue.{On, framed_one, turn_one}
use Rattle.raft_log_dual_pipes.specs.Numbers.{EndsNumbers, EndsNumbersAt, EndsNumbersBelow}
use Rattle.raft_log_dual_pipes.specs.Pipes.{LogPipes, LogSense, OnePipe, RunsOn, State, files_of, header_at, layout_of, one_at, queue_of, queues}
use Rattle.raft_log_dual_pipes.proofs.Pairing.{at_log, err_through, two_of, with_one}

-- One pipe.
module _ {R E V : Type 0} (says : R → Record E V) (layout : QueueLayout R) (told : IsQueueLayout layout) (base : Disk) where
  -- it doesn't go on
  turn_ends : (header : List ℕ) (before after : PipeFiles) (q : LogFiles R) (old new : Disk) → RotationLeaves layout.format layout.own layout.paths header before after errors.NumberRange old new → On layout base before q old → 10 ^ 16 ≤ suc after.active.seq
  turn_ends header before after q old new (out, same, is) on = subst (λ f. 10 ^ 16 ≤ suc f.seq) (sym same.active) (out base q on)

  elsewhere_ends : (begin : NewFiles) (cut after : PipeFiles) (q : LogFiles R) (short new : Disk) → TurnsElsewhere layout.format layout.own layout.paths begin cut after errors.NumberRange short new → On layout base cut q short → 10 ^ 16 ≤ suc after.active.seq
  elsewhere_ends begin cut after q short new (elsewhere rotates turned tells) on = absurd tells
  elsewhere_ends begin cut after q short new (nowhere leaves) on = turn_ends (header_bytes begin.format) cut after q short new leaves on

  write_ends : (begin : NewFiles) (fault : WriteFault) (cut after : PipeFiles) (q : LogFiles R) (w : Written R) (short new : Disk) → AddLeaves layout.format layout.own layout.paths fault base w q cut short
      → Tells layout.format layout.own layout.paths begin fault cut after errors.NumberRange short new → 10 ^ 16 ≤ suc after.active.seq
  write_ends begin (faults.CutBack kind) cut after q w short new pipe tells = elim tells [
    | inl full ↦ elsewhere_ends begin cut after (settled q) short new full.1 pipe
    | inr other ↦ (let not_io = other.0 in absurd (cc (not_io)))
  ]
  write_ends begin (faults.Failed kind) cut after q w short new left tells = (let not_failed = tells.0 in absurd (cc (not_failed)))

  -- a record isn't written
  record_ends : (first : ℕ) (begin : NewFiles) (queue : LogQueue) (signed : LogFileContext → List ℕ) (y : Record E V) (before after : PipeFiles) (q : LogFiles R) (old new : Disk) → SaysRecord says layout queue signed y
      → AppendFails layout.format layout.own layout.paths begin queue signed before after errors.NumberRange old new → On layout base before q old → (10 ^ 16 ≤ suc after.active.seq) × (begin.target_size ≤ before.writer.written ⊎ Fails old new)
  record_ends first begin queue signed y before after q old new record_is (not_turned long leaves) on = (turn_ends (header_bytes begin.format) before after q old new leaves on, inl long)
  record_ends first begin queue signed y before after q old new record_is (not_written middle cut between short fault turning earlier fails lists makes tells later) on =
      let (p, turned, mid, quiet) = turn_one says layout told first base begin before middle q old between turning on in
      let w : Written R = record { bytes = signed (context_of queue middle); value = record_is.value } in
      let (cause, left) = fails base p w (framed_one says layout told first base queue signed y middle p between record_is mid) refl mid in
      (write_ends begin fault cut after p w short new left tells, inr (fails_still old short new (fails_after old between short earlier cause) later))

-- the numbers of a span are below its end
span_below : (paths : FilePaths) (N : Names) (first last : ℕ) (fs : List Listed) (i : ℕ) (f : Listed) → IsSpan paths N first fs last → i < length fs → f ≡ slice_index_or fs i f → f.seq < last
span_below paths N first last [] i f is less at = absurd (omega (arith, less))
span_below paths N first last (x ∷ fs) zero f (number, listed, named, rest) less at =
    let more = span_end paths N (suc first) last fs rest in
    let same : f.seq ≡ x.seq = ap (λ (l : Listed). l.seq) at in
    omega (arith, more, same, number)
span_below paths N first last (x ∷ fs) (suc i) f (number, listed, named, rest) less at = span_below paths N (suc first) last fs i f rest (omega (arith, less)) at

-- the files of a log's queue are numbered as far as names go
limited : (which : Which) (log : LogSense) (last : ℕ) → last < (layout_at which (queues log)).format.limit → last < 10 ^ 16
limited InAppend log last is = is
limited InRewrite log last is = is

-- The pair.
module _ (which : Which) (v : LogPipes) (o : OnePipe) (d : Disk) where
  rotation_ends : RotationLeaves (layout_of (one_at which v)).format (layout_of (one_at which v)).own (layout_of (one_at which v)).paths (header_at which v) (pipe_at which (files_of v)) o.files errors.NumberRange v.disk d
      → (log : LogSense) (s : State) → RunsOn log v s → 10 ^ 16 ≤ suc (pipe_at which (files_of v)).active.seq
  rotation_ends call log s run =
      let there = at_log which log v s run (λ (l : QueueLayout LogRecord) (n : LogQueue) (x : Disk). RotationLeaves l.format l.own l.paths (header_at which v) (pipe_at which (files_of v)) o.files errors.NumberRange x d) call in
      let runs = run_at (queues log) (two_of log v s run) which (files_of v) s run.run in
      there.0 s.disk (spanned_at which s).files runs.pipe

  ends : (error : Error) → RotationLeaves (layout_of (one_at which v)).format (layout_of (one_at which v)).own (layout_of (one_at which v)).paths (header_at which v) (pipe_at which (files_of v)) o.files error v.disk d
      → EndsNumbers which error v
  ends error call is =
      rotation_ends (subst (λ (e : Error). RotationLeaves (layout_of (one_at which v)).format (layout_of (one_at which v)).own (layout_of (one_at which v)).paths (header_at which v) (pipe_at which (files_of v)) o.files e v.disk d) is call)

  -- the files of the pipe that was called
  of_called : (which_is : Which) (n : ℕ) → n ≤ suc o.files.active.seq → n ≤ suc (pipe_at which_is (files_of (with_one which_is v o d))).active.seq
  of_called InAppend n most = most
  of_called InRewrite n most = most

  append_ends : (signed : LogFileContext → List ℕ) (error : Error)
      → AppendFails (layout_of (one_at which v)).format (layout_of (one_at which v)).own (layout_of (one_at which v)).paths (one_at which v).settings.new_files (one_at which v).settings.queue signed (pipe_at which (files_of v)) o.files error v.disk d
      → EndsNumbersAt which signed error v (with_one which v o d)
  append_ends signed error call is log s y run says =
      let begin = (one_at which v).settings.new_files in
      let there = at_log which log v s run (λ (l : QueueLayout LogRecord) (n : LogQueue) (x : Disk). AppendFails l.format l.own l.paths begin n signed (pipe_at which (files_of v)) o.files error x d) call in
      let two = two_of log v s run in
      let runs = run_at (queues log) two which (files_of v) s run.run in
      let (last, why) = record_ends log.says (layout_at which (queues log)) (told_at (queues log) two which) s.disk (spanned_at which s).first begin (queue_of which) signed y (pipe_at which (files_of v)) o.files (spanned_at which s).files s.disk d says
      (subst (λ (e : Error). AppendFails (layout_at which (queues log)).format (layout_at which (queues log)).own (layout_at which (queues log)).paths begin (queue_of which) signed (pipe_at which (files_of v)) o.files e s.disk d) is there) runs.pipe in (
        of_called which (10 ^ 16) last,
        subst (λ (x : Disk). begin.target_size ≤ (pipe_at which (files_of v)).writer.written ⊎ Fails x d) run.disk why,
      )

  -- the files of a log's queue have numbers that names have
  none_is_far : HasFarFile (pipe_at which (files_of v)).earlier.items → (log : LogSense) (s : State) → RunsOn log v s → ⊥
  none_is_far (f, i, less, at, far) log s run =
      let runs = run_at (queues log) (two_of log v s run) which (files_of v) s run.run in
      let within = span_below (layout_at which (queues log)).paths s.disk.names (pipe_at which (files_of v)).first_seq (spanned_at which s).files.last (pipe_at which (files_of v)).earlier.items i f runs.pipe.span less at in
      let bound : (spanned_at which s).files.last < 10 ^ 16 = limited which log (spanned_at which s).files.last runs.pipe.active.stands.bound in
      omega (arith, far, within, bound)

  purge_ends : (seq : ℕ) (error : Error) → PurgeLeaves (layout_of (one_at which v)).format (layout_of (one_at which v)).own (layout_of (one_at which v)).paths (one_at which v).settings.capacity seq (pipe_at which (files_of v)) o.files error v.disk d
      → EndsNumbersBelow which error v
  purge_ends seq error call is =
      let far = subst (λ (e : Error). PurgeLeaves (layout_of (one_at which v)).format (layout_of (one_at which v)).own (layout_of (one_at which v)).paths (one_at which v).settings.capacity seq (pipe_at which (files_of v)) o.files e v.disk d) is call in
      (far.0, none_is_far far.0)

  -- The same of what the call answered.

  pub ends_when : {A : Type 0} (r : Result A Error)
      → IfErr r (λ error. RotationLeaves (layout_of (one_at which v)).format (layout_of (one_at which v)).own (layout_of (one_at which v)).paths (header_at which v) (pipe_at which (files_of v)) o.files error v.disk d)
      → IfErr r (λ error. EndsNumbers which error v)
  ends_when r call =
      err_through r
      (λ error. RotationLeaves (layout_of (one_at which v)).format (layout_of (one_at which v)).own (layout_of (one_at which v)).paths (header_at which v) (pipe_at which (files_of v)) o.files error v.disk d)
      (λ error. EndsNumbers which error v) call (λ error is done. ends error done)

  pub append_ends_when : (signed : LogFileContext → List ℕ) (r : Result FileBlockHandle Error)
      → IfErr r (λ error. AppendFails (layout_of (one_at which v)).format (layout_of (one_at which v)).own (layout_of (one_at which v)).paths (one_at which v).settings.new_files (one_at which v).settings.queue signed (pipe_at which (files_of v)) o.files error v.disk d)
      → IfErr r (λ error. EndsNumbersAt which signed error v (with_one which v o d))
  append_ends_when signed r call =
      err_through r
      (λ error. AppendFails (layout_of (one_at which v)).format (layout_of (one_at which v)).own (layout_of (one_at which v)).paths (one_at which v).settings.new_files (one_at which v).settings.queue signed (pipe_at which (files_of v)) o.files error v.disk d)
      (λ error. EndsNumbersAt which signed error v (with_one which v o d)) call (λ error is done. append_ends signed error done)

  pub purge_ends_when : (seq : ℕ) {A : Type 0} (r : Result A Error)
      → IfErr r (λ error. PurgeLeaves (layout_of (one_at which v)).format (layout_of (one_at which v)).own (layout_of (one_at which v)).paths (one_at which v).settings.capacity seq (pipe_at which (files_of v)) o.files error v.disk d)
      → IfErr r (λ error. EndsNumbersBelow which error v)
  purge_ends_when seq r call =
      err_through r
      (λ error. PurgeLeaves (layout_of (one_at which v)).format (layout_of (one_at which v)).own (layout_of (one_at which v)).paths (one_at which v).settings.capacity seq (pipe_at which (files_of v)) o.files error v.disk d)
      (λ error. EndsNumbersBelow which error v) call (λ error is done. purge_ends seq error done)
