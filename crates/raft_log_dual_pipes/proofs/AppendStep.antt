-- A record that is written to one queue, seen from both.
use Rattle.std.proofs.Common.{◌≡◌, [], ◌∷◌, refl, ◌∙◌}
use Rattle.raft_log_fs.specs.Disk.{Disk}
use Rattle.raft_log_file_writer.specs.LogQueue.{LogFiles}
use Rattle.raft_log_fs.specs.Touching.{TouchesOnlyNames}
use Rattle.raft_log_active_file.specs.Queue.{with_more, with_room}
use Rattle.raft_log_active_file.proofs.Public.{stands_rebased}
use Rattle.raft_log_active_file.specs.Layout.{path_of}
use Rattle.raft_log_active_file.specs.LastFile.{IsActiveTo}
use Rattle.raft_log_file_pipe.specs.declared.pipe_files.PipeFiles.{PipeFiles}
use Rattle.raft_log_machine_laws.specs.Calls.{from_at, queue_at}
use Rattle.raft_log_machine_laws.specs.Moves.{grown}
use Rattle.raft_log_dual_pipes.specs.Queues.{QueueLayout, TwoQueues, layout_at}
use Rattle.raft_log_dual_pipes.specs.State.{Spanned, spanned_at, pipe_at, RunsQueue}
use Rattle.raft_log_dual_pipes.specs.Turning.{in_span}
use Rattle.raft_log_dual_pipes.specs.Steps.{AppendIsAStep}
use Rattle.raft_log_dual_pipes.proofs.OneQueue.{On, append_one}
use Rattle.raft_log_dual_pipes.proofs.Lifts.{told_at, run_at, tie_at, run_on, tie_on}

-- seen from where it stands now
pub pipe_rebased : {R : Type 0} (layout : QueueLayout R) (base : Disk) (files : PipeFiles) (q : LogFiles R) (d : Disk) → On layout base files q d → On layout d files q d
pipe_rebased layout base files q d is = record {
  active = record {
    permitted = is.active.permitted;
    written = is.active.written;
    stands = stands_rebased layout.format layout.own base q (path_of layout.paths files.active) files.writer.handle.file (IsActiveTo layout.format files.writer.capacity q) d.names d is.active.stands;
  };
  number = is.number;
  listed = is.listed;
  header = is.header;
  handle = is.handle;
  span = is.span;
  kept = is.kept;
}

pub runs_from : {R : Type 0} (layout : QueueLayout R) (old : Disk) (before after : PipeFiles) (q : Spanned R) (files : LogFiles R) (new : Disk) → RunsQueue layout before q old → after.first_seq ≡ before.first_seq → On layout old after files new
    → RunsQueue layout after (in_span q files) new
runs_from layout old before after q files new runs first is = record { first = first ∙ runs.first; pipe = pipe_rebased layout old after files new is }

pub append_is_a_step : {R E V : Type 0} (log : TwoQueues R E V) → AppendIsAStep log
append_is_a_step log two which p s run begin queue signed y says after block new call first =
    let layout = layout_at which log in
    let q = spanned_at which s in
    let runs = run_at log two which p s run in
    let (mid, turned, room, w, is, last, takes) = append_one log.says layout (told_at log two which) q.first s.disk begin queue signed y (pipe_at which p) after block q.files s.disk new says call runs.pipe in
    let files = with_more (w ∷ []) (with_room room mid) in
    let only : TouchesOnlyNames layout.own s.disk new = is.active.stands.others in (
      files,
      (mid, turned, room, w, refl),
      last,
      run_on log two which p s after (in_span q files) new run only (runs_from layout s.disk (pipe_at which p) after q files new runs first is),
      λ f ties.
          (let (a, at, next) = takes (from_at which f) (queue_at which f) (tie_at log two which s f ties) in
          (a, at, tie_on log two which p s (in_span q files) new f a.from (grown a.queue y) run only ties next)),
    )
