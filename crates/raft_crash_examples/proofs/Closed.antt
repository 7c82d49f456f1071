-- What a close leaves of a log, where nothing was left to chance.
use Rattle.std.proofs.Common.{◌≡◌, ℕ, false, Option, Some, None, List, [], ◌++◌, length, take, drop, refl, sym, ap, subst, ◌∙◌, inl, inr, append-nil}
use Rattle.std.specs.Option.{option_map}
use Rattle.std.proofs.lemmas.List.{drop_at, take_at}
use Rattle.raft_log_file_writer.specs.LawsChains.{Written, spelled}
use Rattle.raft_log_file_writer.specs.KeepsSynced.WasWritten.{handed_in, own_record}
use Rattle.raft_log_file_writer.specs.LogFormat.{Format, NoChanceInFile}
use Rattle.raft_log_file_writer.specs.LogQueue.{LogFiles, NoChanceInLast, recent}
use Rattle.raft_log_active_file.specs.Queue.{whole}
use Rattle.raft_log_file_pipe.specs.declared.pipe_files.PipeFiles.{PipeFiles}
use Rattle.raft_log_engine.specs.raft_log_fs.specs.Disk.{Disk, File}
use Rattle.raft_log_engine.specs.raft_log_fs.specs.Calls.{flushed}
use Rattle.raft_log_engine.specs.raft_log_fs.specs.Image.{IsSound, as_it_stands}
use Rattle.raft_log_engine.specs.raft_log_fs.proofs.Public.{stands_is_image}
use Rattle.raft_log_engine.specs.raft_log_memtables.specs.Views.{view_of}
use Rattle.raft_log_engine.specs.raft_log_dual_pipes.specs.Closing.{IsOrIsSettled, LiesClosed, closed_log}
use Rattle.raft_log_engine.specs.raft_log_dual_pipes.specs.ClosingCalls.{ClosesLog}
use Rattle.raft_log_engine.specs.raft_log_dual_pipes.specs.OpenOrClosed.{none_open}
use Rattle.raft_log_engine.specs.raft_log_dual_pipes.specs.Pipes.{queues}
use Rattle.raft_log_engine.specs.raft_log_dual_pipes.specs.Queues.{QueueLayout}
use Rattle.raft_log_engine.specs.raft_log_dual_pipes.specs.State.{RunsQueue, Spanned}
use Rattle.raft_log_engine.specs.raft_log_engine_laws.specs.raft_log_active_file.specs.declared.record.LogRecord.{LogRecord}
use Rattle.raft_log_engine.specs.raft_log_engine_laws.specs.EngineState.{LogDirectories, LogMap, EngineState, log_in, sense}
use Rattle.raft_log_engine.specs.raft_log_engine_laws.specs.Holding.{Represents, IsRecoverableAs}
use Rattle.raft_log_recovery_laws.specs.InPlace.{StandsWithoutChance}
use Rattle.raft_log_recovery_laws.specs.Running.{active_header, own_bytes}
use Rattle.raft_crash_examples.specs.Ending.{ClosesWithoutChance, LeavesWritten, MeetsWritten}

module _ (F : Format LogRecord) (files : PipeFiles) (stale : List ℕ) (before file : File) (meets : MeetsWritten F files before file) where
  no_chance : NoChanceInFile F files.active.seq (active_header files) stale (own_bytes files before) file file.content
  no_chance = record {
    headers = meets.headers;
    records = λ at w here. elim (meets.records at w here) [ inl own ↦ own_record own | inr handed ↦ handed_in handed ];
    plain = meets.plain;
  }

abbrev bytes_in : Option File → List ℕ
bytes_in None = []
bytes_in (Some file) = file.content

-- in the file that was a pipe's last one, whatever stood there when it got its number
module _ (layout : QueueLayout LogRecord) (files : PipeFiles) (q : Spanned LogRecord) (old d : Disk) (runs : RunsQueue layout files q old) (leaves : LeavesWritten layout.format files old d) where
  in_file : (stale path : List ℕ) (id : ℕ) (file after : File) → layout.format.IsPath q.files.last path → d.names path ≡ Some id → d.files id ≡ Some file → (as_it_stands d).files id ≡ Some after
      → NoChanceInFile layout.format q.files.last q.files.header stale (spelled (recent q.files)) file after.content
  in_file stale path id file after at named here there =
      let F : Format LogRecord = layout.format in
      let p = runs.pipe in
      let s = p.active.stands in
      let before : File = s.file.file in
      let bytes : before.content ≡ whole q.files ++ drop (length (whole q.files)) q.files.stale = s.file.has.active.all in
      let written : take files.writer.written before.content ≡ whole q.files =
      ap (λ (n : ℕ). take n before.content) p.active.written ∙ ap (λ (b : List ℕ). take (length (whole q.files)) b) bytes ∙ take_at (whole q.files) (drop (length (whole q.files)) q.files.stale) (length (whole q.files)) refl in
      let own : own_bytes files before ≡ spelled (recent q.files) =
      ap (λ (b : List ℕ). drop (length (active_header files)) b) written ∙ drop_at q.files.header (spelled (recent q.files)) (length (active_header files)) (ap length p.header) in
      let same : file.content ≡ after.content = ap bytes_in (ap (option_map flushed) (sym here) ∙ there) in
      let met = no_chance F files stale before file (leaves before file path id s.file.is (subst (λ (n : ℕ). F.IsPath n path) (sym p.number) at) named here) in
      subst (λ (c : List ℕ). NoChanceInFile F q.files.last q.files.header stale (spelled (recent q.files)) file c) same
      (subst (λ (b : List ℕ). NoChanceInFile F q.files.last q.files.header stale b file file.content) own
      (subst (λ (h : List ℕ). NoChanceInFile F q.files.last h stale (own_bytes files before) file file.content) (sym p.header)
      (subst (λ (n : ℕ). NoChanceInFile F n (active_header files) stale (own_bytes files before) file file.content) p.number met)))

  -- so in the queue's, as the close left it
  in_last : (next : LogFiles LogRecord) → IsOrIsSettled q.files next → NoChanceInLast layout.format next d (as_it_stands d)
  in_last next (inl same) = subst (λ (x : LogFiles LogRecord). NoChanceInLast layout.format x d (as_it_stands d)) (sym same) (in_file q.files.stale)
  in_last next (inr same) = subst (λ (x : LogFiles LogRecord). NoChanceInLast layout.format x d (as_it_stands d)) (sym same)
      (λ path id file after at named here there. subst (λ (ws : List (Written LogRecord)). NoChanceInFile layout.format q.files.last q.files.header [] (spelled ws) file after.content) (sym (append-nil (recent q.files)))
      (in_file [] path id file after at named here there))

module _ (home : LogDirectories) (e : EngineState) (m : LogMap) (d : Disk) (h : Represents home e m []) (closes : ClosesLog e.pipes d) where
  closed : LiesClosed (queues (sense home)) h.state d
  closed = closes (sense home) h.state h.runs

  -- the log lies there as its pipes closed it
  pub left : IsRecoverableAs home d m []
  left =
      let v = view_of e.tables h.map in
      let ends = closed.ends v m [] h.at in (
        none_open,
        record {
          done = ends.done;
          rest = ends.rest;
          splits = ends.splits;
          lies = record {
            state = closed_log h.state closed.append closed.rewrite d;
            disk = refl;
            stands = closed.lies;
            holds = record { files = ends.at.files; whereabouts = v.whereabouts; failed = false; sound = ends.at.stands.sound; ends = ends.at.stands.ends; there = ends.at.there };
          };
        },
      )

  -- and what stands there wasn't left to chance
  pub spared : IsSound d → ClosesWithoutChance home e.pipes d → StandsWithoutChance home left.1.lies.state d
  unfolding left
  spared sound chance = record {
    is = stands_is_image d sound;
    append = in_last (log_in home).append e.pipes.append.files h.state.append e.pipes.disk d (subst (RunsQueue (log_in home).append e.pipes.append.files h.state.append) h.runs.disk h.runs.run.append) chance.append closed.append closed.append_is;
    rewrite = in_last (log_in home).rewrite e.pipes.rewrite.files h.state.rewrite e.pipes.disk d (subst (RunsQueue (log_in home).rewrite e.pipes.rewrite.files h.state.rewrite) h.runs.disk h.runs.run.rewrite) chance.rewrite closed.rewrite closed.rewrite_is;
  }
