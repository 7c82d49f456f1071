-- The log of an engine lies on its disk, and is left there by a close.
use Rattle.std.proofs.Common.{◌≡◌, false, List, [], ◌++◌, refl, sym, ◌∙◌, ap, subst, append-nil}
use Rattle.raft_log_model_laws.specs.Groups.{taken}
use Rattle.raft_log_record_base.specs.declared.pipe_log.LogQueue.TheVariants.{Append, Rewrite}
use Rattle.raft_log_file_writer.specs.LogQueue.{LogFiles}
use Rattle.raft_log_machine_laws.specs.Log.{IsLog}
use Rattle.raft_log_active_file.specs.declared.record.LogRecord.{LogRecord}
use Rattle.raft_log_active_file.specs.QueueFilesLaws.{files_are_told, is_layout, queues_are_apart}
use Rattle.raft_log_block_cache.specs.raft_log_dual_pipes.specs.Queues.{AreTwoQueues}
use Rattle.raft_log_block_cache.specs.raft_log_dual_pipes.proofs.Public.{logs_go_on_disks, none_pending}
use Rattle.raft_log_block_cache.specs.raft_log_dual_pipes.specs.Closing.{closed_log}
use Rattle.raft_log_block_cache.specs.raft_log_dual_pipes.specs.OpenOrClosed.{none_open}
use Rattle.raft_log_block_cache.specs.raft_log_dual_pipes.specs.Pipes.{LogPipes, RunsOn, LogRecordValue, State, files_of}
use Rattle.raft_log_block_cache.specs.raft_log_dual_pipes.specs.State.{Ties}
use Rattle.raft_log_block_cache.specs.raft_log_memtables.specs.Views.{view_of}
use Rattle.raft_log_engine_laws.specs.EngineState.{LogDirectories, log_in, sense}
use Rattle.raft_log_engine_laws.specs.Laws.{ClosedEnginesAreDurable, ClosedEnginesAreLeft, EnginesLieOnDisks}

two_in : (home : LogDirectories) (v : LogPipes) (s : State) → RunsOn (sense home) v s → AreTwoQueues (log_in home)
two_in home v s run = record {
  append = record { lawful = is_layout Append home.append run.append.some; told = files_are_told Append home.append };
  rewrite = record { lawful = is_layout Rewrite home.rewrite run.rewrite.some; told = files_are_told Rewrite home.rewrite };
  apart = queues_are_apart home.append home.rewrite;
}

pub engines_lie_on_disks : EnginesLieOnDisks
engines_lie_on_disks home e m pending h =
    (logs_go_on_disks (log_in home) (two_in home e.pipes h.state h.runs)).engine (files_of e.pipes) e.pipes.disk (view_of e.tables h.map) m pending
    (record { state = h.state; disk = h.runs.disk; run = h.runs.run; at = h.at })

pub closed_engines_are_left : ClosedEnginesAreLeft
closed_engines_are_left home e m pending d holds closes =
    let c = closes (sense home) holds.state holds.runs in
    let v = view_of e.tables holds.map in
    let ends = c.ends v m pending holds.at in (
      none_open,
      record {
        done = ends.done;
        rest = ends.rest;
        splits = ends.splits;
        lies = record {
          state = closed_log holds.state c.append c.rewrite d;
          disk = refl;
          stands = c.lies;
          holds = record { files = ends.at.files; whereabouts = v.whereabouts; failed = false; sound = ends.at.stands.sound; ends = ends.at.stands.ends; there = ends.at.there };
        };
      },
    )

pub closed_engines_are_durable : ClosedEnginesAreDurable
closed_engines_are_durable home e m pending d holds closes =
    let is = closes (sense home) holds.state holds.runs in
    let c = is.closed in
    let v = view_of e.tables holds.map in
    let ends = c.ends v m pending holds.at in
    let state = closed_log holds.state c.append c.rewrite d in
    let log : IsLog (Ties (log_in home) state) (taken m ends.done) ends.rest =
    record { files = ends.at.files; whereabouts = v.whereabouts; failed = false; sound = ends.at.stands.sound; ends = ends.at.stands.ends; there = ends.at.there } in
    let none : ends.rest ≡ [] = sym ends.at.stands.ends ∙ none_pending (log_in home).says (log_in home).append.format holds.state.append.first c.append ends.at.files.append_from d ends.at.files.append (ap (λ (q : LogFiles LogRecord). q.pending) is.append_is) ends.at.there.append in
    let all : ends.done ≡ pending = sym (append-nil ends.done) ∙ ap (λ (l : List LogRecordValue). ends.done ++ l) (sym none) ∙ ends.splits in (
      none_open,
      record {
        done = [];
        rest = [];
        splits = refl;
        lies = record {
          state = state;
          disk = refl;
          stands = c.lies;
          holds = subst (λ (l : List LogRecordValue). IsLog (Ties (log_in home) state) (taken m l) []) all (subst (λ (l : List LogRecordValue). IsLog (Ties (log_in home) state) (taken m ends.done) l) none log);
        };
      },
    )
