-- A close that leaves another record after all that was written leaves a CRC collision.
use Rattle.std.proofs.Common.{◌+◌, ℕ, List, [], ◌∷◌, ◌++◌, length, drop, refl, sym, ap, ◌∙◌, inl, inr, arith, append-nil, append_assoc, length-append}
use Rattle.std.proofs.lemmas.List.{drop_at}
use Rattle.raft_log_file_writer.specs.LawsChains.{LiesIn, Meets, spelled}
use Rattle.raft_log_file_writer.specs.LogFormat.{Format, IsFormat}
use Rattle.raft_log_file_writer.proofs.Public.{frame_filled, frames_append, spelled-append}
use Rattle.raft_log_file_pipe.specs.declared.pipe_files.PipeFiles.{PipeFiles}
use Rattle.raft_log_engine.specs.raft_log_record_base.specs.declared.pipe_log.LogQueue.TheVariants.{Append, Rewrite}
use Rattle.raft_log_engine.specs.raft_log_fs.specs.Disk.{Disk}
use Rattle.raft_log_engine.specs.raft_log_engine_laws.specs.raft_log_active_file.specs.QueueFilesLaws.{is_layout}
use Rattle.raft_log_engine.specs.raft_log_engine_laws.specs.raft_log_active_file.specs.declared.record.LogRecord.{LogRecord}
use Rattle.raft_log_engine.specs.raft_log_engine_laws.specs.EngineState.{log_in}
use Rattle.raft_log_recovery_laws.specs.Running.{active_header, own_bytes}
use Rattle.raft_crash_examples.specs.Ending.{LeavesWritten}
use Rattle.raft_crash_examples.specs.Reopening.{ForeignRecordsBehindACloseAreChance, LeavesForeignBehind}

module _ (F : Format LogRecord) (form : IsFormat F) (files : PipeFiles) (old new : Disk) (h : LeavesForeignBehind F files old new) where
  abbrev Frame : List ℕ → LogRecord → Type 0
  Frame = F.IsFrame files.active.seq (active_header files)

  brought : Meets Frame (length (active_header files)) (length (active_header files) + length (spelled h.own)) h.foreign h.file.content
  brought = record {
    before = h.own;
    begins = record {
      rest = h.behind;
      splits = ap (λ (x : List ℕ). drop (length (active_header files)) x) h.are ∙ drop_at (active_header files) (spelled h.own ++ (h.foreign.bytes ++ h.behind)) (length (active_header files)) refl
          ∙ sym (append_assoc (spelled h.own) h.foreign.bytes h.behind)
          ∙ ap (λ (x : List ℕ). x ++ h.behind) (sym (spelled-append h.own (h.foreign ∷ []) ∙ ap (λ (x : List ℕ). spelled h.own ++ x) (append-nil h.foreign.bytes)));
      frames = frames_append Frame h.own (h.foreign ∷ []) h.frames (h.is, tt);
    };
    place = refl;
  }

  outside : LiesIn (length (active_header files)) (own_bytes files h.before) (length (active_header files) + length (spelled h.own)) h.foreign.bytes → ⊥
  outside lies =
      let some = frame_filled Frame (form.free files.active.seq (active_header files)) h.foreign.bytes h.foreign.value h.is in
      let size = ap (λ (x : List ℕ). length x) (sym h.wrote ∙ lies.splits) ∙ length-append lies.ahead (h.foreign.bytes ++ lies.behind) in
      absurd (omega (arith, some, lies.place, size, length-append h.foreign.bytes lies.behind))

  none_meets : LeavesWritten F files old new → ⊥
  none_meets written =
      let meets = written h.before h.file h.path h.id h.was h.at h.named h.left in
      elim (meets.records (length (active_header files) + length (spelled h.own)) h.foreign brought) [
        | inl own ↦ outside own
        | inr handed ↦ h.unhanded handed
      ]

pub foreign_records_behind_a_close_are_chance : ForeignRecordsBehindACloseAreChance
foreign_records_behind_a_close_are_chance home e m pending h d (inl l) chance = none_meets (log_in home).append.format (is_layout Append home.append h.runs.append.some).format e.pipes.append.files e.pipes.disk d l chance.append
foreign_records_behind_a_close_are_chance home e m pending h d (inr l) chance = none_meets (log_in home).rewrite.format (is_layout Rewrite home.rewrite h.runs.rewrite.some).format e.pipes.rewrite.files e.pipes.disk d l chance.rewrite
