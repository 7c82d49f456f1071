-- Last files as they stand, and right behind a rotation, of an engine that runs.
use Rattle.std.proofs.Common.{◌≡◌, ◌∙◌, ℕ, ◌<◌, Some, List, [], ◌++◌, length, take, drop, sym, refl, ap, subst, inr}
use Rattle.std.proofs.lemmas.List.{append-nil, append_assoc, drop_at, take_at}
use Rattle.raft_log_fs.specs.Disk.{Disk, File}
use Rattle.raft_log_fs.specs.Image.{IsImage}
use Rattle.raft_log_file_writer.specs.LawsChains.{AreFrames, spelled}
use Rattle.raft_log_file_writer.specs.LogFormat.{Format}
use Rattle.raft_log_file_writer.specs.LogQueue.{LogFiles, recent, rotated}
use Rattle.raft_log_file_format.specs.Header.{header_bytes}
use Rattle.raft_log_file_format.specs.declared.header.LogFileFormat.{LogFileFormat}
use Rattle.raft_log_file_pipe.specs.Exits.{Rotates}
use Rattle.raft_log_file_pipe.specs.Files.{IsPipe}
use Rattle.raft_log_file_pipe.specs.declared.pipe_files.PipeFiles.{PipeFiles}
use Rattle.raft_log_record_base.specs.declared.pipe_log.LogQueue.{LogQueue}
use Rattle.raft_log_record_base.specs.declared.pipe_log.LogQueue.TheVariants.{Append, Rewrite}
use Rattle.raft_log_dual_pipes.specs.LastFiles.{EndsThere, KeepsOwn}
use Rattle.raft_log_dual_pipes.proofs.Public.{at_log, behind_is, blank_ends, calls_leave_room, content_is, used_files_meet_the_premise}
use Rattle.raft_log_machine_laws.specs.Calls.Which.{InAppend, InRewrite}
use Rattle.raft_voter_durability_laws.specs.raft_log_engine_laws.specs.raft_log_active_file.specs.declared.record.LogRecord.{LogRecord}
use Rattle.raft_voter_durability_laws.specs.raft_log_engine_laws.specs.raft_log_active_file.specs.QueueFiles.{log_format, log_paths}
use Rattle.raft_voter_durability_laws.specs.raft_log_engine_laws.specs.raft_log_active_file.specs.Paths.{IsOwnPath}
use Rattle.raft_log_active_file.specs.Layout.{FilePaths}
use Rattle.raft_log_active_file.specs.Queue.{whole, with_room}
use Rattle.raft_voter_durability_laws.specs.raft_log_engine_laws.specs.raft_log_dual_pipes.specs.State.{RunsQueue}
use Rattle.raft_voter_durability_laws.specs.raft_log_engine_laws.specs.EngineState.{log_in, sense}
use Rattle.raft_log_recovery_laws.specs.Running.{active_header, own_bytes}
use Rattle.raft_voter_log.specs.Chance.{IsOwnFrame, LosesOwn}
use Rattle.raft_voter_log.specs.Reuse.{NextIsKnown, RotatedFilesOnlyLose, StandingFilesOnlyLose}
use Rattle.raft_voter_log.specs.Reuse.NextIsKnown.{made, used}

module _ (F : Format LogRecord) (own : List ℕ → Type 0) (paths : FilePaths) (base : Disk) (files : PipeFiles) (q : LogFiles LogRecord) (d : Disk) (p : IsPipe F own paths base files q d) (file : File) (there : d.files files.writer.handle.file ≡ Some file) where
  own_is : own_bytes files file ≡ spelled (recent q)
  own_is =
      let written : take files.writer.written file.content ≡ whole q =
      ap (λ (n : ℕ). take n file.content) p.active.written ∙ ap (λ (b : List ℕ). take (length (whole q)) b) (content_is F own paths base files q d p file there)
      ∙ take_at (whole q) (drop (length (whole q)) q.stale) (length (whole q)) refl in
      ap (λ (b : List ℕ). drop (length (active_header files)) b) written ∙ drop_at q.header (spelled (recent q)) (length (active_header files)) (ap (λ (b : List ℕ). length b) p.header)

  all_is : file.content ≡ active_header files ++ (spelled (recent q) ++ drop files.writer.written file.content)
  all_is =
      let behind : List ℕ = drop files.writer.written file.content in
      content_is F own paths base files q d p file there ∙ ap (λ (b : List ℕ). whole q ++ b) (sym (behind_is F own paths base files q d p file there)) ∙ append_assoc q.header (spelled (recent q)) behind
      ∙ ap (λ (h : List ℕ). h ++ (spelled (recent q) ++ behind)) p.header

  frames_are : AreFrames (IsOwnFrame F files) (recent q)
  frames_are =
      subst (λ (n : ℕ). AreFrames (F.IsFrame n (active_header files)) (recent q)) (sym p.number)
      (subst (λ (h : List ℕ). AreFrames (F.IsFrame q.last h) (recent q)) p.header p.active.stands.file.has.active.chain.frames)

standing : (F : Format LogRecord) (own : List ℕ → Type 0) (paths : FilePaths) (base : Disk) (files : PipeFiles) (q : LogFiles LogRecord) (d : Disk) → IsPipe F own paths base files q d
    → EndsThere F files d → (image : Disk) → KeepsOwn files d image → LosesOwn F files d image
standing F own paths base files q d p ends image keeps file after was is = inr (record {
  kept = recent q;
  lost = [];
  behind = drop files.writer.written file.content;
  frames = frames_are F own paths base files q d p file was;
  wrote = own_is F own paths base files q d p file was ∙ sym (append-nil (spelled (recent q)));
  are = keeps file after was is ∙ all_is F own paths base files q d p file was;
  refuses = ends file was;
})

pub standing_files_only_lose : StandingFilesOnlyLose
standing_files_only_lose InAppend home e m pending h ends image keeps =
    let runs = subst (RunsQueue (log_in home).append e.pipes.append.files h.state.append) h.runs.disk h.runs.run.append in
    standing (log_in home).append.format (log_in home).append.own (log_in home).append.paths e.pipes.disk e.pipes.append.files h.state.append.files e.pipes.disk runs.pipe ends image keeps
standing_files_only_lose InRewrite home e m pending h ends image keeps =
    let runs = subst (RunsQueue (log_in home).rewrite e.pipes.rewrite.files h.state.rewrite) h.runs.disk h.runs.run.rewrite in
    standing (log_in home).rewrite.format (log_in home).rewrite.own (log_in home).rewrite.paths e.pipes.disk e.pipes.rewrite.files h.state.rewrite.files e.pipes.disk runs.pipe ends image keeps

module _ (queue : LogQueue) (directories : List (List ℕ)) (some : 0 < length directories) (base : Disk) (before after : PipeFiles) (q : LogFiles LogRecord) (format : LogFileFormat) (old new : Disk)
    (p : IsPipe (log_format queue directories) (IsOwnPath queue directories) (log_paths queue directories) base before q old)
    (rotates : Rotates (log_format queue directories) (IsOwnPath queue directories) (log_paths queue directories) (header_bytes format) before after old new) where
  known_ends : NextIsKnown (log_format queue directories) format before old → EndsThere (log_format queue directories) after new
  known_ends (made none) = blank_ends queue directories after new (calls_leave_room.rotates queue directories base q (header_bytes format) before after old new p none rotates)
  known_ends (used u) = used_files_meet_the_premise.ends queue directories some base q format before after old new p u rotates

  turned : NextIsKnown (log_format queue directories) format before old → (image : Disk) → IsImage new image → LosesOwn (log_format queue directories) after new image
  turned known image is =
      let (room, stale, holds, next, gaps, calls) = rotates base q p in
      standing (log_format queue directories) (IsOwnPath queue directories) (log_paths queue directories) base after (with_room room (rotated (header_bytes format) stale q)) new next (known_ends known) image
      (used_files_meet_the_premise.stands queue directories base q (header_bytes format) before after old new p rotates image is)

pub rotated_files_only_lose : RotatedFilesOnlyLose
rotated_files_only_lose InAppend home e m pending h known v rotates image is =
    let runs = subst (RunsQueue (log_in home).append e.pipes.append.files h.state.append) h.runs.disk h.runs.run.append in
    let format : LogFileFormat = e.pipes.append.settings.new_files.format in
    turned Append home.append h.runs.append.some e.pipes.disk e.pipes.append.files v.append.files h.state.append.files format e.pipes.disk v.disk runs.pipe
    (at_log InAppend (sense home) e.pipes h.state h.runs (λ layout queue d. Rotates layout.format layout.own layout.paths (header_bytes format) e.pipes.append.files v.append.files e.pipes.disk v.disk) rotates)
    known image is
rotated_files_only_lose InRewrite home e m pending h known v rotates image is =
    let runs = subst (RunsQueue (log_in home).rewrite e.pipes.rewrite.files h.state.rewrite) h.runs.disk h.runs.run.rewrite in
    let format : LogFileFormat = e.pipes.rewrite.settings.new_files.format in
    turned Rewrite home.rewrite h.runs.rewrite.some e.pipes.disk e.pipes.rewrite.files v.rewrite.files h.state.rewrite.files format e.pipes.disk v.disk runs.pipe
    (at_log InRewrite (sense home) e.pipes h.state h.runs (λ layout queue d. Rotates layout.format layout.own layout.paths (header_bytes format) e.pipes.rewrite.files v.rewrite.files e.pipes.disk v.disk) rotates)
    known image is
