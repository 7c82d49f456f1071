-- A scan and a reading of files show names and bytes, and not what of these is synced.
use Rattle.std.proofs.Common.{◌≡◌, ℕ, suc, Bool, true, false, Option, Some, None, List, [], ◌∷◌, refl, ap, subst, inl, inr}
use Rattle.raft_log_record_base.specs.declared.pipe_log.LogQueue.{LogQueue}
use Rattle.raft_log_fs.specs.Disk.{File, Disk}
use Rattle.raft_log_fs.specs.Reading.{IsOpened}
use Rattle.raft_log_fs.specs.declared.handle.Handle.{Handle}
use Rattle.raft_log_fs.specs.declared.handle.Permission.{Permission}
use Rattle.raft_log_active_file.specs.declared.format.File as listed
use Rattle.raft_log_file_settings.specs.declared.config.Config.{Config}
use Rattle.raft_log_file_settings.specs.declared.recovery_mode.RecoveryMode.{RecoveryMode}
use Rattle.raft_log_file_reader.specs.Source.{bytes_in}
use Rattle.raft_log_recovery_read.specs.Foreign.{StopsAtNoForeign}
use Rattle.raft_log_recovery_read.specs.Reading.{ReadsBytes}
use Rattle.raft_log_recovery_read.specs.Segments.{id_of, is_at_end, HoldsFile}
use Rattle.raft_log_recovery_read.specs.declared.file_ending.FileEnding.{FileEnding}
use Rattle.raft_log_replay.specs.Machines.{Batch}
use Rattle.raft_log_replay.specs.Sources.{HoldEach}
use Rattle.raft_log_recovery_scan.specs.Directories.{HasDirectories}
use Rattle.raft_log_recovery_scan.specs.Found.{AreFilesIn, HasName, FileLiesIn}
use Rattle.raft_log_recovery_scan.specs.Metadata.{ChangesNoFile}
use Rattle.raft_log_recovery_scan.specs.Opened.{permission_before, AreOpen, IsOpenFile, IsOpenQueue}
use Rattle.raft_log_recovery_scan.specs.Scanned.{IsQueueIn, IsRunIn, IsScanned}
use Rattle.raft_log_recovery_scan.specs.declared.file_kind.FileKind.{FileKind}
use Rattle.raft_log_recovery_scan.specs.declared.scanning.ScannedFiles.{ScannedFiles}
use Rattle.raft_log_recovery_scan.specs.declared.scanning.found.FoundFile.{FoundFile}
use Rattle.raft_log_recovery.specs.Cutting.{CutsEach, CutsIf}
use Rattle.raft_log_recovery.specs.Reading.{HasReadFiles}
use Rattle.raft_log_recovery.specs.Recovering.{append_config, append_files, rewrite_config, rewrite_files, RecoversLog}
use Rattle.raft_log_recovery.specs.Syncing.{SyncsEach}
use Rattle.raft_log_recovery.specs.declared.builder.DualPipesBuilder.{DualPipesBuilder}
use Rattle.raft_log_recovery.specs.Finding.{FindsLog}
use Rattle.raft_log_recovery_scan.specs.declared.recovery_config.RecoveryConfig.{RecoveryConfig}
use Rattle.raft_log_recovery_laws.proofs.Settling.{settled_if, settled_in, settled_sync, settled_trim}

module _ (E : ℕ → Bool) where
  -- The scan.

  opened : (path : List ℕ) (permission : Permission) (handle : Handle) (d : Disk) → IsOpened path permission handle d → IsOpened path permission handle (settled_in E d)
  opened path permission handle d is = record { runs = is.runs; is = is.is; permitted = is.permitted }

  lies_in : (kind : FileKind) (directories : List (List ℕ)) (d : Disk) (file : FoundFile) → FileLiesIn kind directories d file → FileLiesIn kind directories (settled_in E d) file
  lies_in kind directories d file is = record { listed = is.listed; small = is.small; there = is.there }

  lay_in : (kind : FileKind) (directories : List (List ℕ)) (d : Disk) (file : FoundFile) → FileLiesIn kind directories (settled_in E d) file → FileLiesIn kind directories d file
  lay_in kind directories d file is = record { listed = is.listed; small = is.small; there = is.there }

  had_name : (directories : List (List ℕ)) (d : Disk) (name : List ℕ) → HasName directories (settled_in E d) name → HasName directories d name
  had_name directories d name is = record { directory = is.directory; listed = is.listed; plain = is.plain; there = is.there }

  files_in : (kind : FileKind) (directories : List (List ℕ)) (d : Disk) (files : List FoundFile) → AreFilesIn kind directories d files → AreFilesIn kind directories (settled_in E d) files
  files_in kind directories d files are = record {
    found = λ file has. lies_in kind directories d file (are.found file has);
    all = λ file lies. are.all file (lay_in kind directories d file lies);
    once = are.once;
    named = λ name has. are.named name (had_name directories d name has);
  }

  run_in : (kind : FileKind) (directories : List (List ℕ)) (d : Disk) (kept : List FoundFile) → IsRunIn kind directories d kept → IsRunIn kind directories (settled_in E d) kept
  run_in kind directories d kept is = record { found = is.found; all = files_in kind directories d is.found is.all; run = is.run }

  open_file : (kind : FileKind) (directories : List (List ℕ)) (d : Disk) (permission : Permission) (found : FoundFile) (file : listed.File) → IsOpenFile kind directories d permission found file → IsOpenFile kind directories (settled_in E d) permission found file
  open_file kind directories d permission found file is = record {
    seq = is.seq;
    path_id = is.path_id;
    reserved = is.reserved;
    format = is.format;
    opened = opened _ permission file.handle d is.opened;
  }

  open_all : (kind : FileKind) (directories : List (List ℕ)) (d : Disk) (permission : Permission) (found : List FoundFile) (files : List listed.File) → AreOpen kind directories d permission found files → AreOpen kind directories (settled_in E d) permission found files
  open_all kind directories d permission [] [] are = are
  open_all kind directories d permission [] (f ∷ fs) are = absurd are
  open_all kind directories d permission (g ∷ gs) [] are = absurd are
  open_all kind directories d permission (g ∷ gs) (f ∷ fs) (one, rest) = (open_file kind directories d permission g f one, open_all kind directories d permission gs fs rest)

  open_queue : (kind : FileKind) (directories : List (List ℕ)) (d : Disk) (mode : RecoveryMode) (found : List FoundFile) (files : List listed.File) → IsOpenQueue kind directories d mode found files → IsOpenQueue kind directories (settled_in E d) mode found files
  open_queue kind directories d mode found files (inl none) = inl none
  open_queue kind directories d mode found files (inr some) = inr (record {
    before = some.before;
    last = some.last;
    found_split = some.found_split;
    opened = some.opened;
    active = some.active;
    split = some.split;
    earlier = open_all kind directories d (permission_before mode) some.before some.opened some.earlier;
    writable = open_file kind directories d _ some.last some.active some.writable;
  })

  queue_in : (kind : FileKind) (directories : List (List ℕ)) (d : Disk) (mode : RecoveryMode) (files : List listed.File) → IsQueueIn kind directories d mode files → IsQueueIn kind directories (settled_in E d) mode files
  queue_in kind directories d mode files is = record {
    kept = is.kept;
    run = run_in kind directories d is.kept is.run;
    opened = open_queue kind directories d mode is.kept files is.opened;
  }

  scanned : (directories : List (List ℕ)) (d : Disk) (mode : RecoveryMode) (found : ScannedFiles) → IsScanned directories d mode found → IsScanned directories (settled_in E d) mode found
  scanned directories d mode found is = record {
    append = queue_in _ directories d mode found.append.items is.append;
    rewrite = queue_in _ directories d mode found.rewrite.items is.rewrite;
    reserved = record {
      kept = is.reserved.kept;
      run = run_in _ directories d is.reserved.kept is.reserved.run;
      opened = open_all _ directories d _ is.reserved.kept found.reserved.items is.reserved.opened;
    };
  }

  made : (directories : List (List ℕ)) (old new : Disk) → HasDirectories directories old new → HasDirectories directories (settled_in E old) (settled_in E new)
  made directories old new has = record { there = has.there; others = has.others; rest = ap (settled_in E) has.rest }

  cleared : (old new : Disk) → ChangesNoFile old new → ChangesNoFile (settled_in E old) (settled_in E new)
  cleared old new leaves = record { rest = ap (settled_in E) leaves.rest; later = record { failures = leaves.later.failures; stopped = leaves.later.stopped } }

  pub settled_finds : (config : Config) (b : DualPipesBuilder) (old new : Disk) → FindsLog config b old new → FindsLog config b (settled_in E old) (settled_in E new)
  settled_finds config b old new finds =
      let s = finds.scans in
      record {
        begun = finds.begun;
        begins = finds.begins;
        scans = record {
          found = s.found;
          scanned = settled_in E s.scanned;
          scans = record { made = made _ old s.scanned s.scans.made; is = scanned _ s.scanned _ s.found s.scans.is };
          cleared = cleared s.scanned new s.cleared;
          has = s.has;
          same = s.same;
        };
      }

  -- Readings.

  same_bytes : (b : Bool) (o : Option File) → bytes_in o ≡ bytes_in (settled_if b o)
  same_bytes true None = refl
  same_bytes true (Some file) = refl
  same_bytes false o = refl

  holds_file : (mode : RecoveryMode) (queue : LogQueue) (files : List listed.File) (d : Disk) (index : ℕ) (batches : List Batch) (ending : FileEnding) → HoldsFile mode queue files d index batches ending
      → HoldsFile mode queue files (settled_in E d) index batches ending
  holds_file mode queue files d index batches ending h =
      let id : ℕ = h.file.handle.file in
      record {
        file = h.file;
        read = h.read;
        reads = record {
          inside = h.reads.inside;
          is = h.reads.is;
          reads = record {
            reads = subst (λ (l : List ℕ). ReadsBytes (is_at_end files index) (id_of queue h.file) l h.read) (same_bytes (E id) (d.files id)) h.reads.reads.reads;
            native = subst (λ (l : List ℕ). StopsAtNoForeign (is_at_end files index) (id_of queue h.file) l) (same_bytes (E id) (d.files id)) h.reads.reads.native;
            tolerated = h.reads.reads.tolerated;
          };
        };
        holds = h.holds;
        ends = h.ends;
      }

  hold_each : (mode : RecoveryMode) (queue : LogQueue) (files : List listed.File) (d : Disk) (k : ℕ) (bss : List (List Batch)) (es : List FileEnding) → HoldEach (HoldsFile mode queue files d) k bss es
      → HoldEach (HoldsFile mode queue files (settled_in E d)) k bss es
  hold_each mode queue files d k [] [] held = held
  hold_each mode queue files d k [] (e ∷ es) held = absurd held
  hold_each mode queue files d k (bs ∷ bss) [] held = absurd held
  hold_each mode queue files d k (bs ∷ bss) (e ∷ es) (one, rest) = (holds_file mode queue files d k bs e one, hold_each mode queue files d (suc k) bss es rest)

  pub has_read : {M : Type 0} (reads : LogQueue → List Batch → M → Type 0) (config : RecoveryConfig) (files : List listed.File) (d : Disk) (machine : M) (endings : List FileEnding) → HasReadFiles reads config files d machine endings
      → HasReadFiles reads config files (settled_in E d) machine endings
  has_read reads config files d machine endings r = record {
    batches = r.batches;
    held = hold_each config.mode config.queue files d 0 r.batches endings r.held;
    all = r.all;
    read = r.read;
  }

  -- Cuts.

  cuts_if : (b : Bool) (file : listed.File) (ending : FileEnding) (old new : Disk) → CutsIf b file ending old new → CutsIf b file ending (settled_in E old) (settled_in E new)
  cuts_if true file ending old new cuts = settled_trim E file.handle _ old new cuts
  cuts_if false file ending old new same = ap (settled_in E) same

  cuts_each : (files : List listed.File) (endings : List FileEnding) (old new : Disk) → CutsEach files endings old new → CutsEach files endings (settled_in E old) (settled_in E new)
  cuts_each [] endings old new same = ap (settled_in E) same
  cuts_each (file ∷ files) [] old new same = ap (settled_in E) same
  cuts_each (file ∷ files) (ending ∷ endings) old new (mid, one, rest) = (settled_in E mid, cuts_if ending.is_damaged file ending old mid one, cuts_each files endings mid new rest)

  pub settled_recovers : {M : Type 0} (reads : LogQueue → List Batch → M → Type 0) (append rewrite : M) (b after : DualPipesBuilder) (old new : Disk) → RecoversLog reads append rewrite b after old new
      → RecoversLog reads append rewrite b after (settled_in E old) (settled_in E new)
  settled_recovers reads append rewrite b after old new r = record {
    read = record {
      append_read = has_read reads (append_config b) (append_files b) old append after.append.endings.items r.read.append_read;
      rewrite_read = has_read reads (rewrite_config b) (rewrite_files b) old rewrite after.rewrite.endings.items r.read.rewrite_read;
      append_unaligned = r.read.append_unaligned;
      rewrite_unaligned = r.read.rewrite_unaligned;
    };
    between = settled_in E r.between;
    append_cut = cuts_each (append_files b) after.append.endings.items old r.between r.append_cut;
    rewrite_cut = cuts_each (rewrite_files b) after.rewrite.endings.items r.between new r.rewrite_cut;
    same = r.same;
  }

  -- Syncs.

  pub settled_syncs : (files : List listed.File) (old new : Disk) → SyncsEach files old new → SyncsEach files (settled_in E old) (settled_in E new)
  settled_syncs [] old new same = ap (settled_in E) same
  settled_syncs (file ∷ files) old new (mid, one, rest) = (settled_in E mid, settled_sync E file.handle.file old mid one, settled_syncs files mid new rest)
