-- A record that was refused in one queue, seen from both.
use Rattle.std.proofs.Common.{◌≡◌, ℕ, List, inl, inr}
use Rattle.raft_log_model_laws.specs.Item.{Record}
use Rattle.raft_log_machine_laws.specs.Files.{FileQueue}
use Rattle.raft_log_fs.specs.Disk.{Disk}
use Rattle.raft_log_fs.specs.Image.{IsSound}
use Rattle.raft_log_file_writer.specs.LogQueue.{LogFiles}
use Rattle.raft_log_fs.specs.Touching.{TouchesOnlyNames}
use Rattle.raft_log_record_base.specs.declared.errors.Error.{Error}
use Rattle.raft_log_record_base.specs.declared.errors.Error.TheVariants as errors
use Rattle.raft_log_file_format.specs.Header.{header_bytes}
use Rattle.raft_log_active_file.specs.Bridge.{IsFileQueue}
use Rattle.raft_log_active_file.proofs.Public.{stands_rebased}
use Rattle.raft_log_active_file.specs.Rotation.{StandsWithRecords}
use Rattle.raft_log_file_writer.specs.LogQueue.{HoldsLast}
use Rattle.raft_log_file_pipe.specs.declared.pipe_files.PipeFiles.{PipeFiles}
use Rattle.raft_log_machine_laws.specs.Model.{Files}
use Rattle.raft_log_machine_laws.specs.Moves.{grown, settled_files}
use Rattle.raft_log_machine_laws.specs.Calls.{Which, from_at, queue_at, put}
use Rattle.raft_log_machine_laws.specs.Calls.Which.{InAppend, InRewrite}
use Rattle.raft_log_dual_pipes.specs.Queues.{QueueLayout, TwoQueues, AreTwoQueues, layout_at}
use Rattle.raft_log_dual_pipes.specs.State.{Spanned, LogOnDisk, spanned_at, with_spanned, Pipes, pipe_at, Run, HoldsBoth, Ties}
use Rattle.raft_log_dual_pipes.specs.Turning.{in_span}
use Rattle.raft_log_dual_pipes.specs.Crash.{AllowsIn}
use Rattle.raft_log_dual_pipes.specs.Steps.{LeavesCutBack, LeavesWithout, NotAppended, RefusedAppendIsAStep, RefusedAppendHasFailed, RefusedRotationHasFailed}
use Rattle.raft_log_dual_pipes.proofs.Refused.{RunsCutBack, RunsLeftOut, RefusedOne, refused_one, append_failed, rotation_failed}
use Rattle.raft_log_dual_pipes.proofs.Numbers.{still_settled}
use Rattle.raft_log_dual_pipes.proofs.Reading.{held_is_allowed}
use Rattle.raft_log_dual_pipes.proofs.Lifts.{told_at, run_at, tie_at, run_on, hold_on, tie_on}
use Rattle.raft_log_dual_pipes.proofs.AppendStep.{runs_from}

pub left_rebased : {R : Type 0} (layout : QueueLayout R) (base : Disk) (q : LogFiles R) (d : Disk) → StandsWithRecords layout.format layout.own base q d → StandsWithRecords layout.format layout.own d q d
left_rebased layout base q d left = record {
  path = left.path;
  id = left.id;
  N = left.N;
  stands = stands_rebased layout.format layout.own base q left.path left.id (HoldsLast layout.format q) left.N d left.stands;
}

module _ {R E V : Type 0} (log : TwoQueues R E V) (two : AreTwoQueues log) (which : Which) (p : Pipes) (s : LogOnDisk R) (run : Run log p s) where
  -- what a call that failed leaves
  pub left_on : (q : Spanned R) (new : Disk) → StandsWithRecords (layout_at which log).format (layout_at which log).own s.disk q.files new → HoldsBoth log (with_spanned which s q new)
  left_on q new left = hold_on log two which p s q new run left.stands.others (inl (left_rebased (layout_at which log) s.disk q.files new left))

  pub allowed_on : (q : Spanned R) (new : Disk) (f : Files E V) (from : ℕ) (next : FileQueue E V) → IsSound new → StandsWithRecords (layout_at which log).format (layout_at which log).own s.disk q.files new → Ties log s f
      → IsFileQueue log.says (layout_at which log).format q.files from q.first new next → AllowsIn log (with_spanned which s q new) (put which f from next)
  allowed_on q new f from next sound left ties is = held_is_allowed log two (with_spanned which s q new) (put which f from next) (sound_there which sound) (left_on q new left) (tie_on log two which p s q new f from next run left.stands.others ties is)
    where
      sound_there : (w : Which) → IsSound new → IsSound (with_spanned w s q new).disk
      sound_there InAppend is = is
      sound_there InRewrite is = is

  cut_back_on : (header : List ℕ) (after : PipeFiles) (new : Disk) → after.first_seq ≡ (pipe_at which p).first_seq
      → RunsCutBack log.says (layout_at which log) (spanned_at which s).first s.disk header (pipe_at which p) after (spanned_at which s).files s.disk new → LeavesCutBack log which p s header after new
  cut_back_on header after new first (files, cut, none, is, quiet) =
      let runs = run_at log two which p s run in
      let only : TouchesOnlyNames (layout_at which log).own s.disk new = is.active.stands.others in (
        files,
        cut,
        run_on log two which p s after (in_span (spanned_at which s) files) new run only (runs_from (layout_at which log) s.disk (pipe_at which p) after (spanned_at which s) files new runs first is),
        λ f ties.
            (let (a, next) = quiet (from_at which f) (queue_at which f) (tie_at log two which s f ties) in
            (a, tie_on log two which p s (in_span (spanned_at which s) files) new f a.from (settled_files a.queue) run only ties (still_settled log.says (layout_at which log).format (spanned_at which s).first files a.from new a.queue none next))),
      )

  without_on : (header : List ℕ) (after : PipeFiles) (new : Disk) → after.first_seq ≡ (pipe_at which p).first_seq
      → RunsLeftOut log.says (layout_at which log) (spanned_at which s).first s.disk header (pipe_at which p) after (spanned_at which s).files s.disk new → LeavesWithout log which p s header after new
  without_on header after new first (files, cut, is, quiet) =
      let runs = run_at log two which p s run in
      let only : TouchesOnlyNames (layout_at which log).own s.disk new = is.active.stands.others in (
        files,
        cut,
        run_on log two which p s after (in_span (spanned_at which s) files) new run only (runs_from (layout_at which log) s.disk (pipe_at which p) after (spanned_at which s) files new runs first is),
        λ f ties. (let (a, next) = quiet (from_at which f) (queue_at which f) (tie_at log two which s f ties) in (a, tie_on log two which p s (in_span (spanned_at which s) files) new f a.from a.queue run only ties next)),
      )

  not_appended : (header : List ℕ) (y : Record E V) (after : PipeFiles) (error : Error) (new : Disk) → IsSound new → after.first_seq ≡ (pipe_at which p).first_seq
      → RefusedOne log.says (layout_at which log) (spanned_at which s).first s.disk header y (pipe_at which p) after (spanned_at which s).files error s.disk new → NotAppended log which p s header y after error new
  not_appended header y after (errors.Io kind) new sound first left = cut_back_on header after new first left
  not_appended header y after (errors.TryAgain text) new sound first left = cut_back_on header after new first left
  not_appended header y after errors.Memory new sound first left = without_on header after new first left
  not_appended header y after errors.NumberRange new sound first left = without_on header after new first left
  not_appended header y after errors.Failed new sound first (files, goes, left, may, there) = (
    files,
    goes,
    left_on (in_span (spanned_at which s) files) new left,
    λ f ties.
        (let (a, either) = may (from_at which f) (queue_at which f) (tie_at log two which s f ties) in (
          a,
          elim either [
            | inl is ↦ inl (allowed_on (in_span (spanned_at which s) files) new f a.from a.queue sound left ties is)
            | inr is ↦ inr (allowed_on (in_span (spanned_at which s) files) new f a.from (grown a.queue y) sound left ties is)
          ],
        )),
  )
  not_appended header y after _ new sound first left = absurd left

pub refused_append_is_a_step : {R E V : Type 0} (log : TwoQueues R E V) → RefusedAppendIsAStep log
refused_append_is_a_step log two which p s run begin queue signed y says after error new sound call first =
    let runs = run_at log two which p s run in
    not_appended log two which p s run (header_bytes begin.format) y after error new sound first
    (refused_one log.says (layout_at which log) (told_at log two which) (spanned_at which s).first s.disk begin queue signed y (pipe_at which p) after (spanned_at which s).files error s.disk new says call runs.pipe)

pub refused_append_has_failed : {R E V : Type 0} (log : TwoQueues R E V) → RefusedAppendHasFailed log
refused_append_has_failed log two which p s run begin queue signed y says after error new call of_call =
    let runs = run_at log two which p s run in
    append_failed log.says (layout_at which log) (told_at log two which) (spanned_at which s).first s.disk begin queue signed y (pipe_at which p) after (spanned_at which s).files error s.disk new says call runs.pipe of_call

pub refused_rotation_has_failed : {R E V : Type 0} (log : TwoQueues R E V) → RefusedRotationHasFailed log
refused_rotation_has_failed log two which p s run header after error new call of_call =
    let runs = run_at log two which p s run in
    rotation_failed log.says (layout_at which log) (told_at log two which) (spanned_at which s).first s.disk header (pipe_at which p) after (spanned_at which s).files error s.disk new call runs.pipe of_call
