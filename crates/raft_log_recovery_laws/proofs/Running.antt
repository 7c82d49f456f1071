-- What a crash leaves of an engine that runs.
use Rattle.std.proofs.Common.{◌≡◌, ℕ, Some, List, [], ◌++◌, length, take, drop, refl, sym, ap, subst, ◌∙◌, inl, inr}
use Rattle.std.proofs.lemmas.List.{drop_at, take_at}
use Rattle.raft_log_fs.specs.Disk.{Disk, File}
use Rattle.raft_log_fs.specs.Image.{IsImage}
use Rattle.raft_log_fs.proofs.Public.{same_file}
use Rattle.raft_log_file_writer.specs.LawsChains.{spelled}
use Rattle.raft_log_file_writer.specs.KeepsSynced.WasWritten.{handed_in, own_record}
use Rattle.raft_log_file_writer.specs.LogFormat.{Format, NoChanceInFile}
use Rattle.raft_log_file_writer.specs.LogQueue.{NoChanceInLast, recent}
use Rattle.raft_log_active_file.specs.Queue.{whole}
use Rattle.raft_log_file_pipe.specs.declared.pipe_files.PipeFiles.{PipeFiles}
use Rattle.raft_log_dual_pipes.specs.OpenOrClosed.{both_open}
use Rattle.raft_log_dual_pipes.specs.OnDisk.{LogLiesOn}
use Rattle.raft_log_dual_pipes.specs.Pipes.{LogRecordValue, files_of}
use Rattle.raft_log_dual_pipes.specs.Queues.{QueueLayout}
use Rattle.raft_log_dual_pipes.specs.State.{RunsQueue, Spanned, Ties}
use Rattle.raft_log_machine_laws.proofs.Public.{stands_log}
use Rattle.raft_log_engine_laws.specs.raft_log_active_file.specs.declared.record.LogRecord.{LogRecord}
use Rattle.raft_log_engine_laws.specs.raft_log_memtables.specs.Views.{view_of}
use Rattle.raft_log_engine_laws.specs.EngineState.{LogDirectories, LogMap, EngineState, log_in}
use Rattle.raft_log_engine_laws.specs.Holding.{Represents, IsRecoverableAs}
use Rattle.raft_log_recovery_laws.specs.Left.{IsCrashOf}
use Rattle.raft_log_recovery_laws.specs.Running.{CrashedEnginesOpen, LeavesNoChance, LeavesOwnAlone, MeetsOwnAlone, active_header, own_bytes}
use Rattle.raft_log_recovery_laws.proofs.Directory.{crashed_directories_open}

module _ (F : Format LogRecord) (files : PipeFiles) (stale : List ℕ) (file : File) (bytes : List ℕ) (meets : MeetsOwnAlone F files file bytes) where
  no_chance : NoChanceInFile F files.active.seq (active_header files) stale (own_bytes files file) file bytes
  no_chance = record {
    headers = meets.headers;
    records = λ at w here. elim (meets.records at w here) [ inl own ↦ own_record own | inr handed ↦ handed_in handed ];
    plain = meets.plain;
  }

-- in the last file of a pipe that runs
chance_in_last : (layout : QueueLayout LogRecord) (files : PipeFiles) (q : Spanned LogRecord) (d image : Disk) → RunsQueue layout files q d → LeavesOwnAlone layout.format files d image → NoChanceInLast layout.format q.files d image
chance_in_last layout files q d image runs leaves path id file after at named here there =
    let F : Format LogRecord = layout.format in
    let p = runs.pipe in
    let o = p.active in
    let s = o.stands in
    let same : id ≡ files.writer.handle.file = s.alone path id at named in
    let is : d.files files.writer.handle.file ≡ Some file = ap d.files (sym same) ∙ here in
    let one : file ≡ s.file.file = same_file d files.writer.handle.file file s.file.file is s.file.is in
    let bytes : file.content ≡ whole q.files ++ drop (length (whole q.files)) q.files.stale = ap (λ (f : File). f.content) one ∙ s.file.has.active.all in
    let written : take files.writer.written file.content ≡ whole q.files =
    ap (λ (n : ℕ). take n file.content) o.written ∙ ap (λ (b : List ℕ). take (length (whole q.files)) b) bytes ∙ take_at (whole q.files) (drop (length (whole q.files)) q.files.stale) (length (whole q.files)) refl in
    let own : own_bytes files file ≡ spelled (recent q.files) =
    ap (λ (b : List ℕ). drop (length (active_header files)) b) written ∙ drop_at q.files.header (spelled (recent q.files)) (length (active_header files)) (ap length p.header) in
    let met = no_chance F files q.files.stale file after.content (leaves file after is (ap image.files (sym same) ∙ there)) in
    subst (λ (b : List ℕ). NoChanceInFile F q.files.last q.files.header q.files.stale b file after.content) own
    (subst (λ (h : List ℕ). NoChanceInFile F q.files.last h q.files.stale (own_bytes files file) file after.content) (sym p.header)
    (subst (λ (n : ℕ). NoChanceInFile F n (active_header files) q.files.stale (own_bytes files file) file after.content) p.number met))

module _ (home : LogDirectories) (e : EngineState) (m : LogMap) (pending : List LogRecordValue) (h : Represents home e m pending) (image : Disk) (is : IsImage e.pipes.disk image) (chance : LeavesNoChance home e.pipes image) where
  -- its log lies on the disk
  lies : LogLiesOn (log_in home) (both_open (files_of e.pipes)) e.pipes.disk m pending
  lies = record {
    state = h.state;
    disk = h.runs.disk;
    stands = record { append = h.runs.run.append; rewrite = h.runs.run.rewrite };
    holds = stands_log (Ties (log_in home) h.state) (view_of e.tables h.map) h.at.files m pending h.at.stands h.at.there;
  }

  pub left : IsRecoverableAs home e.pipes.disk m pending
  left = (both_open (files_of e.pipes), record { done = []; rest = pending; splits = refl; lies = lies })

  pub crashed : IsCrashOf home left.1.lies.state e.pipes.disk image
  unfolding left lies
  crashed = record {
    is = is;
    append = chance_in_last (log_in home).append e.pipes.append.files h.state.append e.pipes.disk image (subst (RunsQueue (log_in home).append e.pipes.append.files h.state.append) h.runs.disk h.runs.run.append) chance.append;
    rewrite = chance_in_last (log_in home).rewrite e.pipes.rewrite.files h.state.rewrite e.pipes.disk image (subst (RunsQueue (log_in home).rewrite e.pipes.rewrite.files h.state.rewrite) h.runs.disk h.runs.run.rewrite) chance.rewrite;
  }

pub crashed_engines_open : {S : Type 0} (disk : S → Disk) (tells : S → List ℕ → ℕ → Type 0) → CrashedEnginesOpen disk tells
crashed_engines_open disk tells home e m pending h old sound is chance =
    crashed_directories_open disk tells home h.runs.append.some h.runs.rewrite.some e.pipes.disk old m pending sound (left home e m pending h (disk old) is chance) (crashed home e m pending h (disk old) is chance)
