-- A pipe fails while an engine runs over both.
use Rattle.std.proofs.Common.{◌≡◌, ◌⊎◌, ℕ, Some, List, [], ◌∷◌, ◌++◌, refl, sym, subst, inl, inr}
use Rattle.raft_log_model_laws.specs.Item.{Record}
use Rattle.raft_log_model_laws.specs.Groups.{Map, taken}
use Rattle.raft_log_fs.specs.Disk.{Disk}
use Rattle.raft_log_file_writer.specs.LogQueue.{LogFiles}
use Rattle.raft_log_record_base.specs.declared.errors.Error.TheVariants as errors
use Rattle.raft_log_record_base.specs.declared.pipe_log.LogQueue.{LogQueue}
use Rattle.raft_log_record_base.specs.declared.pipe_log.LogFileContext.{LogFileContext}
use Rattle.raft_log_file_pipe.specs.Appending.{AppendFails}
use Rattle.raft_log_file_pipe.specs.Exits.{FailsToRotate, FailsToSyncPipe}
use Rattle.raft_log_file_pipe.specs.declared.pipe_files.PipeFiles.{PipeFiles}
use Rattle.raft_log_file_pipe.specs.declared.new_files.NewFiles.{NewFiles}
use Rattle.raft_log_machine_laws.specs.Calls.{Which, LeavesOut}
use Rattle.raft_log_machine_laws.specs.Calls.Which.{InAppend, InRewrite}
use Rattle.raft_log_machine_laws.specs.Log.{View, LogEnds}
use Rattle.raft_log_machine_laws.specs.Tables.{GrowsTo}
use Rattle.raft_log_machine_laws.proofs.Public.{append_left_out, append_may_be_there, failed_whole, rewrite_left_out, stands_log}
use Rattle.raft_log_dual_pipes.specs.Queues.{TwoQueues, AreTwoQueues, layout_at, SaysRecord}
use Rattle.raft_log_dual_pipes.specs.State.{LogOnDisk, Pipes, pipe_at, Ties}
use Rattle.raft_log_dual_pipes.specs.Steps.{next_log}
use Rattle.raft_log_dual_pipes.specs.Writing.{IsAtOn}
use Rattle.raft_log_dual_pipes.specs.OpenOrClosed.{both_open, with_open, IsOpenOrClosed}
use Rattle.raft_log_dual_pipes.specs.OnDisk.{LogLiesOn}
use Rattle.raft_log_dual_pipes.specs.Failing.{LogEndsLying, failed_pipe, FailedPipeLeavesALog, FailedPipesLeaveLogs}
use Rattle.raft_log_dual_pipes.proofs.BesideSteps.{fails_to_append_beside, quiet_calls_beside}

module _ {R E V : Type 0} (log : TwoQueues R E V) (two : AreTwoQueues log) (p : Pipes) (old : Disk) (v : View E V) (m : Map E V) (pending : List (Record E V)) (h : IsAtOn log p old v m pending) where
  abbrev s : LogOnDisk R
  s = h.state

  -- both pipes run
  runs : (which : Which) → IsOpenOrClosed log (with_open which (both_open p) (Some (pipe_at which p))) s
  runs InAppend = record { append = h.run.append; rewrite = h.run.rewrite }
  runs InRewrite = record { append = h.run.append; rewrite = h.run.rewrite }

  on_disk : (which : Which) (q : LogFiles R) (d : Disk) → (next_log which s q d).disk ≡ d
  on_disk InAppend q d = refl
  on_disk InRewrite q d = refl

  sync : (which : Which) (new : Disk) → FailsToSyncPipe (layout_at which log).format (layout_at which log).own (layout_at which log).paths (pipe_at which p) old new → LogLiesOn log (failed_pipe which p) new m pending
  sync which new fails =
      let layout = layout_at which log in
      let there = subst (λ (d : Disk). FailsToSyncPipe layout.format layout.own layout.paths (pipe_at which p) d new) (sym h.disk) fails in
      let (files, is, stands, step) = (quiet_calls_beside log two which (both_open p) (pipe_at which p) s (runs which)).0.refused new there in
      record { state = next_log which s files new; disk = on_disk which files new; stands = stands; holds = failed_whole (Ties log) (Ties log) s (next_log which s files new) v m pending h.at step }

  -- behind quiet events of one queue
  moved_on : (which : Which) (t : LogOnDisk R) (new : Disk) → t.disk ≡ new → IsOpenOrClosed log (failed_pipe which p) t → LeavesOut (Ties log) which s t → LogEndsLying log (failed_pipe which p) new m pending
  moved_on InAppend t new disk stands step =
      let ends = append_left_out (Ties log) (Ties log) s t v m pending h.at step in record {
        done = ends.done;
        rest = ends.rest;
        splits = ends.splits;
        lies = record { state = t; disk = disk; stands = stands; holds = stands_log (Ties log t) v ends.at.files (taken m ends.done) ends.rest ends.at.stands ends.at.there };
      }
  moved_on InRewrite t new disk stands step =
      let at = rewrite_left_out (Ties log) (Ties log) s t v m pending h.at step in record {
        done = [];
        rest = pending;
        splits = refl;
        lies = record { state = t; disk = disk; stands = stands; holds = stands_log (Ties log t) v at.files m pending at.stands at.there };
      }

  rotation : (which : Which) (header : List ℕ) (new : Disk) → FailsToRotate (layout_at which log).format (layout_at which log).own (layout_at which log).paths header (pipe_at which p) old new
      → LogEndsLying log (failed_pipe which p) new m pending
  rotation which header new fails =
      let layout = layout_at which log in
      let there = subst (λ (d : Disk). FailsToRotate layout.format layout.own layout.paths header (pipe_at which p) d new) (sym h.disk) fails in
      let (files, goes, stands, step) = (quiet_calls_beside log two which (both_open p) (pipe_at which p) s (runs which)).1.refused header (pipe_at which p) errors.Failed new there in
      moved_on which (next_log which s files new) new (on_disk which files new) stands step

  ended : (t : LogOnDisk R) (new : Disk) (batches : List (Record E V)) → t.disk ≡ new → IsOpenOrClosed log (failed_pipe InAppend p) t → LogEnds (Ties log t) m batches → LogEndsLying log (failed_pipe InAppend p) new m batches
  ended t new batches disk stands ends = record {
    done = ends.done;
    rest = ends.rest;
    splits = ends.splits;
    lies = record { state = t; disk = disk; stands = stands; holds = ends.log };
  }

  batch : (u : ℕ → View E V) (begin : NewFiles) (queue : LogQueue) (signed : LogFileContext → List ℕ) (y : Record E V) → SaysRecord log.says log.append queue signed y → (after : PipeFiles) (new : Disk)
      → AppendFails log.append.format log.append.own log.append.paths begin queue signed p.append after errors.Failed old new → after.first_seq ≡ p.append.first_seq → ((n : ℕ) → GrowsTo y n v (u n))
      → LogEndsLying log (failed_pipe InAppend p) new m pending ⊎ LogEndsLying log (failed_pipe InAppend p) new m (pending ++ y ∷ [])
  batch u begin queue signed y says after new call first grow =
      let there = subst (λ (d : Disk). AppendFails log.append.format log.append.own log.append.paths begin queue signed p.append after errors.Failed d new) (sym h.disk) call in
      let (files, goes, stands, may) = fails_to_append_beside log two InAppend (both_open p) p.append s (runs InAppend) begin queue signed y says after errors.Failed new there first in
      let t : LogOnDisk R = next_log InAppend s files new in
      elim (append_may_be_there (Ties log) (Ties log) s t v m pending h.at u y may grow) [
        | inl without ↦ inl (ended t new pending refl stands without)
        | inr with_it ↦ inr (ended t new (pending ++ y ∷ []) refl stands with_it)
      ]

  pub failed_pipe_leaves_a_log : FailedPipeLeavesALog log p old v m pending
  failed_pipe_leaves_a_log = record { sync = sync; rotation = rotation; batch = batch }

pub failed_pipes_leave_logs : {R E V : Type 0} (log : TwoQueues R E V) → FailedPipesLeaveLogs log
failed_pipes_leave_logs log two p old v m pending h = failed_pipe_leaves_a_log log two p old v m pending h
