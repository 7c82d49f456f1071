-- A call on one queue, seen from both.
use Rattle.std.proofs.Common.{ℕ, List, ◌∙◌, inl, arith}
use Rattle.raft_log_machine_laws.specs.Files.{FileQueue}
use Rattle.raft_log_fs.specs.Disk.{Disk}
use Rattle.raft_log_fs.specs.Touching.{TouchesOnlyNames}
use Rattle.raft_log_active_file.specs.Bridge.{IsFileQueue, GapsStay}
use Rattle.raft_log_active_file.proofs.Public.{takes_numbered_steps}
use Rattle.raft_log_file_pipe.specs.declared.pipe_files.PipeFiles.{PipeFiles}
use Rattle.raft_log_machine_laws.specs.Model.{Files}
use Rattle.raft_log_machine_laws.specs.Calls.{Which, queue_at, from_at, put}
use Rattle.raft_log_machine_laws.specs.Calls.Which.{InAppend, InRewrite}
use Rattle.raft_log_dual_pipes.specs.Queues.{QueueLayout, IsQueueLayout, TwoQueues, AreTwoQueues, layout_at}
use Rattle.raft_log_dual_pipes.specs.State.{Spanned, LogOnDisk, spanned_at, with_spanned, Pipes, pipe_at, with_pipe, RunsQueue, Run, HoldsQueue, HoldsBoth, Ties}
use Rattle.raft_log_dual_pipes.proofs.Aside.{name_stays, runs_stay, holds_stay}
use Rattle.raft_log_dual_pipes.proofs.Gaps.{pipe_left}

module _ {R E V : Type 0} (log : TwoQueues R E V) (two : AreTwoQueues log) where
  pub told_at : (which : Which) → IsQueueLayout (layout_at which log)
  told_at InAppend = two.append
  told_at InRewrite = two.rewrite

  pub run_at : (which : Which) (p : Pipes) (s : LogOnDisk R) → Run log p s → RunsQueue (layout_at which log) (pipe_at which p) (spanned_at which s) s.disk
  run_at InAppend p s run = run.append
  run_at InRewrite p s run = run.rewrite

  pub tie_at : (which : Which) (s : LogOnDisk R) (f : Files E V) → Ties log s f
      → IsFileQueue log.says (layout_at which log).format (spanned_at which s).files (from_at which f) (spanned_at which s).first s.disk (queue_at which f)
  tie_at InAppend s f ties = ties.append
  tie_at InRewrite s f ties = ties.rewrite

  -- a queue that runs holds its records
  pub runs_hold : (layout : QueueLayout R) → IsQueueLayout layout → (files : PipeFiles) (q : Spanned R) (d : Disk) → RunsQueue layout files q d → HoldsQueue layout q.files d
  runs_hold layout told files q d runs = inl (pipe_left layout told d files q.files d runs.pipe)

  -- the other queue has no fewer gaps
  gaps_aside : (layout : QueueLayout R) → IsQueueLayout layout → (theirs : List ℕ → Type 0) → ((path : List ℕ) → layout.own path → theirs path → ⊥) → (files : PipeFiles) (q : Spanned R) (old new : Disk) → RunsQueue layout files q old
      → TouchesOnlyNames theirs old new → GapsStay layout.format q.files old new
  gaps_aside layout told theirs apart files q old new runs only m less none path at =
      let bound = runs.pipe.active.stands.bound in
      name_stays layout told theirs old new apart only m path (omega (arith, less, bound)) at ∙ none path at

  tie_aside : (layout : QueueLayout R) → IsQueueLayout layout → (theirs : List ℕ → Type 0) → ((path : List ℕ) → layout.own path → theirs path → ⊥) → (files : PipeFiles) (q : Spanned R) (from : ℕ) (f : FileQueue E V) (old new : Disk)
      → RunsQueue layout files q old → TouchesOnlyNames theirs old new → IsFileQueue log.says layout.format q.files from q.first old f → IsFileQueue log.says layout.format q.files from q.first new f
  tie_aside layout told theirs apart files q from f old new runs only all =
      (takes_numbered_steps log.says layout.format q.files from q.first old f all).elsewhere new (gaps_aside layout told theirs apart files q old new runs only)

  back : (path : List ℕ) → log.rewrite.own path → log.append.own path → ⊥
  back path mine theirs = two.apart path theirs mine

  pub run_on : (which : Which) (p : Pipes) (s : LogOnDisk R) (after : PipeFiles) (q : Spanned R) (new : Disk) → Run log p s → TouchesOnlyNames (layout_at which log).own s.disk new → RunsQueue (layout_at which log) after q new
      → Run log (with_pipe which p after) (with_spanned which s q new)
  run_on InAppend p s after q new run only runs = record { append = runs; rewrite = runs_stay log.rewrite two.rewrite log.append.own s.disk new back only p.rewrite s.rewrite run.rewrite }
  run_on InRewrite p s after q new run only runs = record { append = runs_stay log.append two.append log.rewrite.own s.disk new two.apart only p.append s.append run.append; rewrite = runs }

  pub hold_on : (which : Which) (p : Pipes) (s : LogOnDisk R) (q : Spanned R) (new : Disk) → Run log p s → TouchesOnlyNames (layout_at which log).own s.disk new → HoldsQueue (layout_at which log) q.files new → HoldsBoth log (with_spanned which s q new)
  hold_on InAppend p s q new run only holds = record { append = holds; rewrite = holds_stay log.rewrite two.rewrite log.append.own s.disk new back only s.rewrite.files (runs_hold log.rewrite two.rewrite p.rewrite s.rewrite s.disk run.rewrite) }
  hold_on InRewrite p s q new run only holds = record { append = holds_stay log.append two.append log.rewrite.own s.disk new two.apart only s.append.files (runs_hold log.append two.append p.append s.append s.disk run.append); rewrite = holds }

  pub tie_on : (which : Which) (p : Pipes) (s : LogOnDisk R) (q : Spanned R) (new : Disk) (f : Files E V) (from : ℕ) (next : FileQueue E V) → Run log p s → TouchesOnlyNames (layout_at which log).own s.disk new → Ties log s f
      → IsFileQueue log.says (layout_at which log).format q.files from q.first new next → Ties log (with_spanned which s q new) (put which f from next)
  tie_on InAppend p s q new f from next run only ties is = record {
    append = is;
    rewrite = tie_aside log.rewrite two.rewrite log.append.own back p.rewrite s.rewrite f.rewrite_from f.rewrite s.disk new run.rewrite only ties.rewrite;
  }
  tie_on InRewrite p s q new f from next run only ties is = record {
    append = tie_aside log.append two.append log.rewrite.own two.apart p.append s.append f.append_from f.append s.disk new run.append only ties.append;
    rewrite = is;
  }
