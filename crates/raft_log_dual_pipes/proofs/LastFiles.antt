-- The last file of a pipe, as its bytes stand.
use Rattle.std.proofs.Common.{◌≡◌, ◌∙◌, ℕ, Option, Some, List, [], ◌∷◌, ◌++◌, length, drop, refl, sym, ap, subst}
use Rattle.std.proofs.lemmas.List.{append_assoc, drop_at}
use Rattle.raft_log_fs.specs.Calls.{flushed}
use Rattle.raft_log_fs.specs.Disk.{Disk, File}
use Rattle.raft_log_fs.specs.Exits.{Syncs}
use Rattle.raft_log_fs.specs.Image.{IsFileImage, IsImage}
use Rattle.raft_log_fs.proofs.Public.{file_here, only_at_rest, same_file}
use Rattle.raft_log_record_base.specs.declared.pipe_log.LogQueue.{LogQueue}
use Rattle.raft_log_file_format.specs.Header.{header_bytes}
use Rattle.raft_log_file_writer.specs.LawsChains.{LiesIn, Reads, Refuses, spelled}
use Rattle.raft_log_file_writer.specs.KeepsSynced.WasWritten.{own_record}
use Rattle.raft_log_file_writer.specs.LogFormat.{Format, IsFormat, NoChanceInFile}
use Rattle.raft_log_file_writer.specs.LogQueue.{LogFiles, recent}
use Rattle.raft_log_file_writer.proofs.Public.{reads_further, record_lies}
use Rattle.raft_log_active_file.specs.QueueFiles.{IsRecordIn, log_format, log_paths}
use Rattle.raft_log_active_file.specs.QueueFilesLaws.{is_layout}
use Rattle.raft_log_active_file.specs.Paths.{IsOwnPath}
use Rattle.raft_log_active_file.specs.declared.record.LogRecord.{LogRecord}
use Rattle.raft_log_file_pipe.specs.Files.{IsPipe}
use Rattle.raft_log_file_pipe.specs.declared.pipe_files.PipeFiles.{PipeFiles}
use Rattle.raft_log_active_file.specs.Layout.{FilePaths}
use Rattle.raft_log_active_file.specs.Queue.{whole}
use Rattle.raft_log_dual_pipes.specs.LastFiles.{EndsThere, IsBlankBehind, KeepsOwn, StandingFilesMeetIt}
use Rattle.raft_log_dual_pipes.proofs.Signatures.{zeros_refuse}

module _ (F : Format LogRecord) (own : List ℕ → Type 0) (paths : FilePaths) (base : Disk) (files : PipeFiles) (q : LogFiles LogRecord) (d : Disk) (p : IsPipe F own paths base files q d) (file : File) (there : d.files files.writer.handle.file ≡ Some file) where
  -- it reads as its records, and behind them as what it held when it got its number
  pub content_is : file.content ≡ whole q ++ drop (length (whole q)) q.stale
  content_is =
      let s = p.active.stands in
      ap (λ (f : File). f.content) (same_file d files.writer.handle.file file s.file.file there s.file.is) ∙ s.file.has.active.all

  pub behind_is : drop files.writer.written file.content ≡ drop (length (whole q)) q.stale
  behind_is =
      ap (λ (n : ℕ). drop n file.content) p.active.written ∙ ap (λ (b : List ℕ). drop (length (whole q)) b) content_is ∙ drop_at (whole q) (drop (length (whole q)) q.stale) (length (whole q)) refl

  -- where none begins behind them, these records are read
  reads : EndsThere F files d → Reads (F.IsFrame q.last q.header) (length q.header) (recent q) file.content
  reads ends = record {
    rest = drop (length (whole q)) q.stale;
    splits = ap (λ (b : List ℕ). drop (length q.header) b) (content_is ∙ append_assoc q.header (spelled (recent q)) (drop (length (whole q)) q.stale)) ∙ drop_at q.header (spelled (recent q) ++ drop (length (whole q)) q.stale) (length q.header) refl;
    frames = p.active.stands.file.has.active.chain.frames;
    ends = subst (λ (b : List ℕ). Refuses (F.IsFrame q.last q.header) b) behind_is
        (subst (λ (h : List ℕ). Refuses (F.IsFrame q.last h) (drop files.writer.written file.content)) (sym p.header)
        (subst (λ (n : ℕ). Refuses (F.IsFrame n (header_bytes files.active.format)) (drop files.writer.written file.content)) p.number (ends file there)));
  }

  pub meets_it : IsFormat F → EndsThere F files d → NoChanceInFile F q.last q.header q.stale (spelled (recent q)) file file.content
  meets_it form ends = record {
    headers = λ other has. form.headers other q.header has.rest (spelled (recent q) ++ drop (length (whole q)) q.stale) has.is p.active.stands.headed
        (sym has.splits ∙ content_is ∙ append_assoc q.header (spelled (recent q)) (drop (length (whole q)) q.stale));
    records = λ at w met.
        let IsFrame : List ℕ → LogRecord → Type 0 = F.IsFrame q.last q.header in
        let more = reads_further IsFrame (form.free q.last q.header) (length q.header) (met.before ++ w ∷ []) (recent q) file.content met.begins (reads ends) in
        own_record (subst (λ (n : ℕ). LiesIn (length q.header) (spelled (recent q)) n w.bytes) (sym met.place) (record_lies IsFrame (length q.header) (recent q) met.before more.0 w more.1));
    plain = λ other. form.plain q.last q.header (spelled (recent q) ++ drop (length (whole q)) q.stale) p.active.stands.headed
        (subst (F.IsAligned q.last) (content_is ∙ append_assoc q.header (spelled (recent q)) (drop (length (whole q)) q.stale)) other);
  }

-- a sync changes nothing of what stands there
pub sync_keeps : (P : List ℕ → Type 0) (files : PipeFiles) (old new : Disk) → Syncs files.writer.handle old new → ((file : File) → old.files files.writer.handle.file ≡ Some file → P (drop files.writer.written file.content))
    → (file : File) → new.files files.writer.handle.file ≡ Some file → P (drop files.writer.written file.content)
sync_keeps P files old new syncs held file was =
    let id : ℕ = files.writer.handle.file in
    let rests : new.files id ≡ Some (flushed syncs.file) = ap (λ (d : Disk). d.files id) syncs.done ∙ file_here old.files id (Some (flushed syncs.file)) in
    let same : file ≡ flushed syncs.file = same_file new id file (flushed syncs.file) was rests in
    subst (λ (b : List ℕ). P (drop files.writer.written b)) (sym (ap (λ (f : File). f.content) same)) (held syncs.file syncs.is)

-- what was just synced stands in every image
pub synced_stays : (files : PipeFiles) (old new : Disk) → Syncs files.writer.handle old new → (image : Disk) → IsImage new image → KeepsOwn files new image
synced_stays files old new syncs image is file after was left =
    let id : ℕ = files.writer.handle.file in
    let rests : new.files id ≡ Some (flushed syncs.file) = ap (λ (d : Disk). d.files id) syncs.done ∙ file_here old.files id (Some (flushed syncs.file)) in
    let same : file ≡ flushed syncs.file = same_file new id file (flushed syncs.file) was rests in
    let here : IsFileImage (Some file) (Some after) = subst (λ (o : Option File). IsFileImage (Some file) o) left (subst (λ (o : Option File). IsFileImage o (image.files id)) was (is.files id)) in
    let (bytes, rested, stays) = here in
    ap (λ (f : File). f.content) rested ∙ only_at_rest file bytes (ap (λ (f : File). f.changes) same) stays ∙ ap (λ (f : File). f.synced) same ∙ sym (ap (λ (f : File). f.content) same)

pub blank_ends : (queue : LogQueue) (directories : List (List ℕ)) (files : PipeFiles) (d : Disk) → IsBlankBehind files d → EndsThere (log_format queue directories) files d
blank_ends queue directories files d blank file was =
    let (room, is) = blank file was in
    subst (λ (b : List ℕ). Refuses (IsRecordIn files.active.seq (header_bytes files.active.format)) b) (sym is) (zeros_refuse files.active.seq room (header_bytes files.active.format))

pub standing_files_meet_the_premise : StandingFilesMeetIt
standing_files_meet_the_premise = record {
  kept = λ queue directories some base files q d p ends image keeps path id file after at named here left.
      let F : Format LogRecord = log_format queue directories in
      let same : id ≡ files.writer.handle.file = p.active.stands.alone path id at named in
      let was : d.files files.writer.handle.file ≡ Some file = ap d.files (sym same) ∙ here in
      let bytes : after.content ≡ file.content = keeps file after was (ap image.files (sym same) ∙ left) in
      subst (λ (b : List ℕ). NoChanceInFile F q.last q.header q.stale (spelled (recent q)) file b) (sym bytes)
      (meets_it F (IsOwnPath queue directories) (log_paths queue directories) base files q d p file was (is_layout queue directories some).format ends);
  blank = blank_ends;
  syncs = λ queue directories files old new. sync_keeps (λ (b : List ℕ). Refuses (IsRecordIn files.active.seq (header_bytes files.active.format)) b) files old new;
  synced = synced_stays;
}
