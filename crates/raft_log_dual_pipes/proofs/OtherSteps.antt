-- A sync, a rotation and a purge of one queue, seen from both.
use Rattle.std.proofs.Common.{◌≡◌, ℕ, ◌+◌, ◌-◌, ◌≤◌, suc, zero, List, [], ◌++◌, length, refl, sym, ◌∙◌, ap, subst, arith, length-drop}
use Rattle.raft_log_model_laws.specs.Item.{Record}
use Rattle.raft_log_machine_laws.specs.Files.{LogFile, FileQueue}
use Rattle.raft_log_fs.specs.Disk.{Disk}
use Rattle.raft_log_fs.specs.Image.{IsSound}
use Rattle.raft_log_file_writer.specs.LogQueue.{Past, LogFiles, rotated}
use Rattle.raft_log_fs.specs.Touching.{TouchesOnlyNames}
use Rattle.raft_log_record_base.specs.declared.errors.Error.{Error}
use Rattle.raft_log_record_base.specs.declared.errors.Error.TheVariants as errors
use Rattle.raft_log_active_file.specs.Queue.{with_room, synced}
use Rattle.raft_log_active_file.specs.Bridge.{filed, IsFileQueue, GapsStay}
use Rattle.raft_log_active_file.proofs.Public.{takes_numbered_steps}
use Rattle.raft_log_active_file.specs.Standing.{Names}
use Rattle.raft_log_file_pipe.specs.Files.{IsSpan}
use Rattle.raft_log_file_pipe.specs.Exits.{SameFiles, RotationLeaves, SyncsPipe, FailsToSyncPipe}
use Rattle.raft_log_file_pipe.specs.Purging.{IsRaised, Purges, PurgeLeaves}
use Rattle.raft_log_file_pipe.specs.declared.pipe_files.PipeFiles.{PipeFiles}
use Rattle.raft_log_file_pipe.proofs.Public.{pipe_same, span_end}
use Rattle.raft_log_machine_laws.specs.Model.{Files}
use Rattle.raft_log_machine_laws.specs.Moves.{settled_files, raised_files}
use Rattle.raft_log_machine_laws.specs.Notes.{AllBelow}
use Rattle.raft_log_machine_laws.specs.Calls.{Which, Raises, from_at, queue_at, put}
use Rattle.raft_log_machine_laws.specs.Calls.Which.{InAppend, InRewrite}
use Rattle.raft_log_dual_pipes.specs.Queues.{QueueLayout, IsQueueLayout, TwoQueues, AreTwoQueues, layout_at}
use Rattle.raft_log_dual_pipes.specs.State.{Spanned, LogOnDisk, spanned_at, with_spanned, Pipes, pipe_at, with_pipe, Run, Ties}
use Rattle.raft_log_dual_pipes.specs.Turning.{in_span}
use Rattle.raft_log_dual_pipes.specs.Steps.{next_log}
use Rattle.raft_log_dual_pipes.specs.Syncing.{SyncIsAStep, RotationIsAStep, NotRotated, RefusedRotationIsAStep, raised_log, PurgeIsAStep, NotPurged, RefusedPurgeIsAStep}
use Rattle.raft_log_dual_pipes.proofs.Gaps.{with_past, past_there, gaps_stay, pipe_left}
use Rattle.raft_log_dual_pipes.proofs.Numbers.{quiet_rotates, none_pending}
use Rattle.raft_log_dual_pipes.proofs.OneQueue.{On}
use Rattle.raft_log_dual_pipes.proofs.Refused.{rotation_left}
use Rattle.raft_log_dual_pipes.proofs.Lifts.{told_at, run_at, tie_at, run_on, tie_on}
use Rattle.raft_log_dual_pipes.proofs.AppendStep.{runs_from, pipe_rebased}
use Rattle.raft_log_dual_pipes.proofs.RefusedStep.{left_on, allowed_on}

module _ {R E V : Type 0} (says : R → Record E V) (layout : QueueLayout R) (told : IsQueueLayout layout) (first : ℕ) (base : Disk) where
  -- A sync fills no gap, answered or refused.
  pub sync_gaps : (files : PipeFiles) (q : LogFiles R) (old new : Disk) → SyncsPipe layout.format layout.own layout.paths files old new → On layout base files q old → GapsStay layout.format q old new
  sync_gaps files q old new syncs is = gaps_stay layout told base files q old new is (λ m xs less other.
      (synced (with_past m xs q), past_there m xs q, less, pipe_left layout told base files (synced (with_past m xs q)) new (syncs base (with_past m xs q) other).0))

  pub unsynced_gaps : (files : PipeFiles) (q : LogFiles R) (old new : Disk) → FailsToSyncPipe layout.format layout.own layout.paths files old new → On layout base files q old → GapsStay layout.format q old new
  unsynced_gaps files q old new fails is = gaps_stay layout told base files q old new is (λ m xs less other. (with_past m xs q, past_there m xs q, less, (fails base (with_past m xs q) other).1))

  pub sync_one : (q : LogFiles R) (old new : Disk) → GapsStay layout.format q old new → (from : ℕ) (f : FileQueue E V) → IsFileQueue says layout.format q from first old f → IsFileQueue says layout.format (synced q) from first new (settled_files f)
  sync_one q old new gaps from f all =
      let moved = (takes_numbered_steps says layout.format q from first old f all).elsewhere new gaps in
      let (next, step, is) = (takes_numbered_steps says layout.format q from first new f moved).syncs in
      subst (IsFileQueue says layout.format (synced q) from first new) step is

  -- files of numbers below one
  filed_below : (h : ℕ → Past R) (s k n : ℕ) → s + k ≤ n → AllBelow n (filed says h s k)
  filed_below h s zero n under = tt
  filed_below h s (suc k) n under = (omega (arith, under), filed_below h (suc s) k n (omega (arith, under)))

  pub raise_one : (q : LogFiles R) (to : ℕ) (old new : Disk) → GapsStay layout.format q old new → first ≤ to → to ≤ q.last → (from : ℕ) (f : FileQueue E V) → IsFileQueue says layout.format q from first old f
      → (out stay : List (LogFile E V)) × (out ++ stay ≡ f.full) × AllBelow to out × IsFileQueue says layout.format q from to new (raised_files f out stay)
  raise_one q to old new gaps above under from f all =
      let moved = (takes_numbered_steps says layout.format q from first old f all).elsewhere new gaps in
      let (out, stay, is_out, (next, step, is)) = (takes_numbered_steps says layout.format q from first new f moved).raises to above under in (
        out,
        stay,
        step.0,
        subst (AllBelow to) (sym is_out) (filed_below q.older first (to - first) to (omega (arith, above))),
        subst (IsFileQueue says layout.format q from to new) step.1 is,
      )

  -- the number of a purge lies in the span
  pub raised_in_span : (capacity seq : ℕ) (before after : PipeFiles) (q : LogFiles R) (N M : Names) → IsRaised capacity seq before after → before.first_seq ≡ first → IsSpan layout.paths N before.first_seq before.earlier.items q.last
      → IsSpan layout.paths M after.first_seq after.earlier.items q.last → (first ≤ seq) × (seq ≤ q.last)
  raised_in_span capacity seq before after q N M raised begins was is =
      let ends = span_end layout.paths N before.first_seq q.last before.earlier.items was in
      let then_ends = span_end layout.paths M after.first_seq q.last after.earlier.items is in
      let fewer : length after.earlier.items ≡ length before.earlier.items - (seq - before.first_seq) = ap length raised.earlier ∙ length-drop (seq - before.first_seq) before.earlier.items in
      (omega (arith, ends, then_ends, fewer, raised.first, begins), omega (arith, then_ends, raised.first))

module _ {R E V : Type 0} (log : TwoQueues R E V) where
  -- the pipes with one of them as it is
  same_pipe : (which : Which) (p : Pipes) (s : LogOnDisk R) → Run log (with_pipe which p (pipe_at which p)) s → Run log p s
  same_pipe InAppend p s run = run
  same_pipe InRewrite p s run = run

  -- the log on the same disk
  same_log : (which : Which) (p : Pipes) (s : LogOnDisk R) (after : PipeFiles) → Run log (with_pipe which p after) (with_spanned which s (spanned_at which s) s.disk) → Run log (with_pipe which p after) s
  same_log InAppend p s after run = run
  same_log InRewrite p s after run = run

  pub put_same : (which : Which) (f : Files E V) (X : Files E V → Type 0) → X (put which f (from_at which f) (queue_at which f)) → X f
  put_same InAppend f X is = is
  put_same InRewrite f X is = is

module _ {R E V : Type 0} (log : TwoQueues R E V) where
  pub sync_is_a_step : SyncIsAStep log
  sync_is_a_step two which p s run new syncs =
      let layout = layout_at which log in
      let told = told_at log two which in
      let q = spanned_at which s in
      let runs = run_at log two which p s run in
      let (is, call) = syncs s.disk q.files runs.pipe in
      let only : TouchesOnlyNames layout.own s.disk new = is.active.stands.others in
      let gaps = sync_gaps log.says layout told q.first s.disk (pipe_at which p) q.files s.disk new syncs runs.pipe in (
        same_pipe log which p (next_log which s (synced q.files) new)
            (run_on log two which p s (pipe_at which p) (in_span q (synced q.files)) new run only (runs_from layout s.disk (pipe_at which p) (pipe_at which p) q (synced q.files) new runs refl is)),
        λ f ties.
            tie_on log two which p s (in_span q (synced q.files)) new f (from_at which f) (settled_files (queue_at which f)) run only ties
            (sync_one log.says layout told q.first s.disk q.files s.disk new gaps (from_at which f) (queue_at which f) (tie_at log two which s f ties)),
      )

  pub rotation_is_a_step : RotationIsAStep log
  rotation_is_a_step two which p s run header format after new rotates turned =
      let layout = layout_at which log in
      let q = spanned_at which s in
      let runs = run_at log two which p s run in
      let (room, stale, holds, is, gaps, calls) = rotates s.disk q.files runs.pipe in
      let files = with_room room (rotated header stale q.files) in
      let only : TouchesOnlyNames layout.own s.disk new = is.active.stands.others in
      let quiet = quiet_rotates log.says layout.format q.first q.files header stale room s.disk new gaps in (
        files,
        (room, stale, holds, refl),
        run_on log two which p s after (in_span q files) new run only (runs_from layout s.disk (pipe_at which p) after q files new runs turned.first is),
        λ f ties.
            (let (a, next) = quiet (from_at which f) (queue_at which f) (tie_at log two which s f ties) in
            (a, none_pending log.says layout.format q.first files a.from new a.queue refl next, tie_on log two which p s (in_span q files) new f a.from a.queue run only ties next)),
      )

module _ {R E V : Type 0} (log : TwoQueues R E V) (two : AreTwoQueues log) (which : Which) (p : Pipes) (s : LogOnDisk R) (run : Run log p s) where
  -- nothing was done
  pub nothing_done : (after : PipeFiles) (new : Disk) → SameFiles (pipe_at which p) after → new ≡ s.disk → (new ≡ s.disk) × Run log (with_pipe which p after) s
  nothing_done after new same is =
      let layout = layout_at which log in
      let runs = run_at log two which p s run in
      let pipe = pipe_same layout.format layout.own layout.paths s.disk (pipe_at which p) after (spanned_at which s).files s.disk same runs.pipe in (
        is,
        same_log log which p s after (run_on log two which p s after (spanned_at which s) s.disk run pipe.active.stands.others (record { first = same.first ∙ runs.first; pipe = pipe })),
      )

  not_rotated : (header : List ℕ) (after : PipeFiles) (error : Error) (new : Disk) → IsSound new → RotationLeaves (layout_at which log).format (layout_at which log).own (layout_at which log).paths header (pipe_at which p) after error s.disk new
      → NotRotated log which p s header after error new
  not_rotated header after errors.Memory new sound (same, is) = nothing_done after new same is
  not_rotated header after errors.NumberRange new sound (out, same, is) = nothing_done after new same is
  not_rotated header after errors.Failed new sound fails =
      let layout = layout_at which log in
      let q = spanned_at which s in
      let runs = run_at log two which p s run in
      let (files, goes, left, quiet, there) = rotation_left log.says layout (told_at log two which) q.first s.disk header (pipe_at which p) after q.files errors.Failed s.disk new fails runs.pipe in (
        files,
        goes,
        left_on log two which p s run (in_span q files) new left,
        λ f ties.
            (let (a, next) = quiet (from_at which f) (queue_at which f) (tie_at log two which s f ties) in (a, allowed_on log two which p s run (in_span q files) new f a.from a.queue sound left ties next)),
      )
  not_rotated header after _ new sound fails = absurd fails

  not_purged : (capacity seq : ℕ) (after : PipeFiles) (error : Error) (new : Disk) → IsSound new → PurgeLeaves (layout_at which log).format (layout_at which log).own (layout_at which log).paths capacity seq (pipe_at which p) after error s.disk new
      → NotPurged log which p s seq after error new
  not_purged capacity seq after errors.Memory new sound (same, is) = nothing_done after new same is
  not_purged capacity seq after (errors.Other fault) new sound (out, same, is) = nothing_done after new same is
  not_purged capacity seq after errors.NumberRange new sound (far, same, is) = nothing_done after new same is
  not_purged capacity seq after errors.Failed new sound (raised, fails) =
      let layout = layout_at which log in
      let told = told_at log two which in
      let q = spanned_at which s in
      let runs = run_at log two which p s run in
      let (cause, left, gaps, span, first, calls) = fails s.disk q.files runs.pipe in
      let (above, under) = raised_in_span log.says layout told q.first s.disk capacity seq (pipe_at which p) after q.files s.disk.names new.names raised runs.first runs.pipe.span span in
      let next : Spanned R = record { first = seq; files = q.files } in (
        left_on log two which p s run next new left,
        λ f ties.
            (let (out, stay, parts, below, is) = raise_one log.says layout told q.first s.disk q.files seq s.disk new gaps above under (from_at which f) (queue_at which f) (tie_at log two which s f ties) in (
              out,
              stay,
              parts,
              below,
              (
                record { events = []; from = from_at which f; queue = raised_files (queue_at which f) out stay; moves = (refl, refl) },
                allowed_on log two which p s run next new f (from_at which f) (raised_files (queue_at which f) out stay) sound left ties is,
              ),
            )),
      )
  not_purged capacity seq after _ new sound fails = absurd fails

  purged : (capacity seq : ℕ) (after : PipeFiles) (new : Disk) → Purges (layout_at which log).format (layout_at which log).own (layout_at which log).paths capacity seq (pipe_at which p) after s.disk new → IsRaised capacity seq (pipe_at which p) after
      → Run log (with_pipe which p after) (raised_log which s seq new) × Raises (Ties log) (Ties log) which seq s (raised_log which s seq new)
  purged capacity seq after new purges raised =
      let layout = layout_at which log in
      let told = told_at log two which in
      let q = spanned_at which s in
      let runs = run_at log two which p s run in
      let (pipe, gaps, names, calls) = purges s.disk q.files runs.pipe in
      let only : TouchesOnlyNames layout.own s.disk new = pipe.active.stands.others in
      let (above, under) = raised_in_span log.says layout told q.first s.disk capacity seq (pipe_at which p) after q.files s.disk.names new.names raised runs.first runs.pipe.span pipe.span in
      let next : Spanned R = record { first = seq; files = q.files } in (
        run_on log two which p s after next new run only (record { first = raised.first; pipe = pipe_rebased layout s.disk after q.files new pipe }),
        λ f ties.
            (let (out, stay, parts, below, is) = raise_one log.says layout told q.first s.disk q.files seq s.disk new gaps above under (from_at which f) (queue_at which f) (tie_at log two which s f ties) in (
              out,
              stay,
              parts,
              below,
              (
                record { events = []; from = from_at which f; queue = raised_files (queue_at which f) out stay; moves = (refl, refl) },
                tie_on log two which p s next new f (from_at which f) (raised_files (queue_at which f) out stay) run only ties is,
              ),
            )),
      )

module _ {R E V : Type 0} (log : TwoQueues R E V) where
  pub refused_rotation_is_a_step : RefusedRotationIsAStep log
  refused_rotation_is_a_step two which p s run header after error new sound fails = not_rotated log two which p s run header after error new sound fails

  pub purge_is_a_step : PurgeIsAStep log
  purge_is_a_step two which p s run capacity seq after new purges raised = purged log two which p s run capacity seq after new purges raised

  pub refused_purge_is_a_step : RefusedPurgeIsAStep log
  refused_purge_is_a_step two which p s run capacity seq after error new sound fails = not_purged log two which p s run capacity seq after error new sound fails
