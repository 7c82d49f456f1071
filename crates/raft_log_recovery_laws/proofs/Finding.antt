-- Where a log rests, a scan of its directories finds all of its files.
use Rattle.std.specs.Option.{option_map}
use Rattle.std.specs.Prelude.{IsSomeAnd}
use Rattle.std.specs.String.{string_bytes}
use Rattle.std.proofs.Common.{◌≡◌, ℕ, ◌<◌, zero, suc, Option, Some, None, List, [], ◌∷◌, length, sym, ap, subst, ◌∙◌, inl, inr, Contains, arith}
use Rattle.raft_log_record_base.specs.declared.pipe_log.LogQueue.{LogQueue}
use Rattle.raft_log_record_base.specs.declared.pipe_log.LogQueue.TheVariants.{Append, Rewrite}
use Rattle.raft_log_fs.specs.Disk.{Disk}
use Rattle.raft_log_fs.specs.Image.{IsSound}
use Rattle.raft_log_file_settings.specs.Sanitized.{Clash, HasNoFault as IsSoundSettings}
use Rattle.raft_log_file_settings.specs.Settings.{settings_of, Settings, spill_directory}
use Rattle.raft_log_file_settings.specs.declared.config.Config.{Config}
use Rattle.raft_log_file_settings.specs.declared.fault.ConfigFault.TheVariants as faults
use Rattle.raft_log_file_settings.specs.declared.recovery_mode.RecoveryMode.{RecoveryMode}
use Rattle.raft_log_active_file.specs.Standing.{Names}
use Rattle.raft_log_active_file.specs.Layout.{path_of}
use Rattle.raft_log_active_file.specs.declared.format.File.{File}
use Rattle.raft_log_engine_laws.specs.raft_log_active_file.specs.QueueFiles.{log_paths}
use Rattle.raft_log_engine_laws.specs.raft_log_active_file.specs.declared.record.LogRecord.{LogRecord}
use Rattle.raft_log_file_pipe.specs.Files.{IsSpan}
use Rattle.raft_log_file_pipe.specs.Opening.{first_number}
use Rattle.raft_log_recovery_scan.specs.Directories.{HasDirectories}
use Rattle.raft_log_recovery_scan.specs.Found.{AreDistinct}
use Rattle.raft_log_recovery_scan.specs.Metadata.{ChangesNoFile}
use Rattle.raft_log_recovery_scan.specs.Scanned.{IsQueueIn}
use Rattle.raft_log_recovery_laws.specs.Scanned.{kind_of}
use Rattle.raft_log_recovery_laws.proofs.AllFiles.{no_files_are_scanned, scanned_files_are_all}
use Rattle.raft_log_dual_pipes.specs.Own.{log_layout}
use Rattle.raft_log_dual_pipes.specs.OnDisk.{IsDurableAs}
use Rattle.raft_log_dual_pipes.specs.Reopening.{RestsQueue}
use Rattle.raft_log_dual_pipes.specs.State.{Spanned}
use Rattle.raft_log_engine_laws.specs.EngineState.{log_in, LogMap}
use Rattle.raft_log_recovery.specs.Directories.{paths_of}
use Rattle.raft_log_recovery.specs.Recovering.{append_files, rewrite_files}
use Rattle.raft_log_recovery.specs.Scanning.{ScansLog}
use Rattle.raft_log_recovery.specs.declared.builder.DualPipesBuilder.{DualPipesBuilder}
use Rattle.raft_log_recovery.specs.Finding.{FindsLog, IsBegun}
use Rattle.raft_log_recovery_laws.specs.Keeping.{KeepsNumbered}
use Rattle.raft_log_recovery_laws.proofs.Keeping.{keeps_same, rests_kept, stopped_kept, unbegun_kept}
use Rattle.raft_log_recovery_laws.specs.Files.{AreQueueFiles}
use Rattle.raft_log_recovery_laws.specs.Files.AreQueueFiles.{none_made, some_made}
use Rattle.raft_log_recovery_laws.specs.ByCalls.{home_of, ScansFindAllFiles}
use Rattle.raft_log_recovery_laws.proofs.Parts.{FindsAllFiles, LiesAsSet}
use Rattle.raft_log_recovery_laws.proofs.Scanning.{directories_keep, made_sound}
use Rattle.raft_log_recovery_laws.proofs.Stays.{stays_first, StaysAt}
use Rattle.raft_log_recovery_laws.proofs.ByCalls.{two_queues}

-- The directories that settings name.

-- a directory and another one that isn't it
one_or_two : (dir : List ℕ) (spill : Option (List ℕ)) → (IsSomeAnd spill (Clash dir) → ⊥) → AreDistinct (dir ∷ spill_directory spill)
one_or_two dir None apart = ((λ (k, less, is). omega (arith, less)), tt)
one_or_two dir (Some path) apart = (lone, ((λ (k, less, is). omega (arith, less)), tt))
  where
    lone : Contains (path ∷ []) dir → ⊥
    lone (zero, less, is) = apart (inl (sym is))
    lone (suc k, less, is) = omega (arith, less)

pub some_directory : (config : Config) → 0 < length (paths_of config)
some_directory config = omega arith

-- sound settings name none twice
pub distinct_directories : (config : Config) → IsSoundSettings (settings_of config) → AreDistinct (paths_of config)
distinct_directories config sound = one_or_two (string_bytes config.dir) (option_map string_bytes config.spill_dir) (λ clash. sound faults.DirectoriesClash clash)

-- settings that were made whole name the same
pub begun_directories : (config : Config) (b : DualPipesBuilder) → IsBegun config b → paths_of b.config ≡ paths_of config
begun_directories config b begun = ap (λ (s : Settings). s.dir ∷ spill_directory s.spill_dir) begun.whole

-- One queue.
module _ (queue : LogQueue) (directories : List (List ℕ)) (distinct : AreDistinct directories) (mode : RecoveryMode) (mid cleared : Disk) (sound : IsSound mid) (leaves : ChangesNoFile mid cleared) (q : Spanned LogRecord) (files : List File) (are : IsQueueIn (kind_of queue) directories mid mode files) where
  names : cleared.names ≡ mid.names
  names = ap (λ (d : Disk). d.names) leaves.rest

  keeps : KeepsNumbered (log_layout queue directories).format mid cleared
  keeps = keeps_same (log_layout queue directories).format mid cleared names (ap (λ (d : Disk). d.directories) leaves.rest) (ap (λ (d : Disk). d.files) leaves.rest)

  files_of : RestsQueue (log_layout queue directories) q mid → AreQueueFiles (log_layout queue directories) q cleared files
  files_of (inl (left, span)) =
      let s = left.stands in
      let all = scanned_files_are_all queue directories distinct mode mid sound q.files left.path left.id left.N s files are in
      some_made all.earlier all.last all.split (record {
        stops = stopped_kept (log_layout queue directories) mid cleared keeps q.files left;
        listed = record {
          number_is = all.number_is;
          listed = all.spanned.listed;
          named = ap (λ (N : Names). N (path_of (log_paths queue directories) all.last)) names ∙ all.spanned.opened.is;
          span = subst (λ (N : Names). IsSpan (log_paths queue directories) N (first_number all.earlier all.last) all.earlier q.files.last) (sym names)
              (subst (λ (n : ℕ). IsSpan (log_paths queue directories) mid.names (first_number all.earlier all.last) all.earlier n) all.number_is all.spanned.span);
        };
        permitted = all.spanned.opened.permitted;
        begins = λ m next path at. ap (λ (N : Names). N path) names ∙ all.begins m next path at;
      })
  files_of (inr unbegun) = none_made (no_files_are_scanned queue directories mode mid unbegun.fresh.none files are) (unbegun_kept (log_layout queue directories) mid cleared keeps q unbegun)

-- Both.
module _ (config : Config) (d : Disk) (m : LogMap) (sound : IsSound d) (h : IsDurableAs (log_in (home_of config)) d m) (found : DualPipesBuilder) (scanned : Disk) (finds : FindsLog config found d scanned) where
  abbrev ds : List (List ℕ)
  ds = paths_of config

  abbrev scans : ScansLog finds.begun found d scanned
  scans = finds.scans

  abbrev mid : Disk
  mid = scans.scanned

  set : paths_of finds.begun.config ≡ ds
  set = begun_directories config finds.begun finds.begins

  made : HasDirectories ds d mid
  made = subst (λ (l : List (List ℕ)). HasDirectories l d mid) set scans.scans.made

  at_first : StaysAt (log_in (home_of config)) (two_queues (home_of config) (some_directory config) (some_directory config)) h.state m d
  at_first = stays_first (log_in (home_of config)) (two_queues (home_of config) (some_directory config) (some_directory config)) d m h

  mid_sound : IsSound mid
  mid_sound = made_sound Append ds (some_directory config) h.state.append d at_first.rests.append mid made sound

  rests_at : (queue : LogQueue) (q : Spanned LogRecord) → RestsQueue (log_layout queue ds) q d → RestsQueue (log_layout queue ds) q mid
  rests_at queue q rests = rests_kept (log_layout queue ds) d mid (directories_keep queue ds (some_directory config) q d rests ds (λ path listed. listed) mid made) q rests

  abbrev mode : RecoveryMode
  mode = finds.begun.config.recovery_mode

  queue_in : (queue : LogQueue) (old new : List File) → old ≡ new → IsQueueIn (kind_of queue) (paths_of finds.begun.config) mid mode old → IsQueueIn (kind_of queue) ds mid mode new
  queue_in queue old new same are = subst (λ (l : List (List ℕ)). IsQueueIn (kind_of queue) l mid mode new) set (subst (IsQueueIn (kind_of queue) (paths_of finds.begun.config) mid mode) same are)

  distinct : AreDistinct ds
  distinct = distinct_directories config finds.begins.sound

  pub append_found : AreQueueFiles (log_in (home_of config)).append h.state.append scanned (append_files found)
  append_found = files_of Append ds distinct mode mid scanned mid_sound scans.cleared h.state.append (append_files found)
      (queue_in Append scans.found.append.items (append_files found) (ap (λ x. x.items) (sym scans.has.append)) scans.scans.is.append) (rests_at Append h.state.append at_first.rests.append)

  pub rewrite_found : AreQueueFiles (log_in (home_of config)).rewrite h.state.rewrite scanned (rewrite_files found)
  rewrite_found = files_of Rewrite ds distinct mode mid scanned mid_sound scans.cleared h.state.rewrite (rewrite_files found)
      (queue_in Rewrite scans.found.rewrite.items (rewrite_files found) (ap (λ x. x.items) (sym scans.has.rewrite)) scans.scans.is.rewrite) (rests_at Rewrite h.state.rewrite at_first.rests.rewrite)

  pub found_set : LiesAsSet (home_of config) found
  found_set = record { append = ap paths_of scans.same ∙ set; rewrite = ap paths_of scans.same ∙ set }

  pub finds_all : FindsAllFiles (home_of config) h.state d scanned found
  finds_all = record { before = finds.begun; scans = scans; append = append_found; rewrite = rewrite_found }

pub scans_find_all_files : ScansFindAllFiles
scans_find_all_files config d m sound rests found scanned finds = (append_found config d m sound rests found scanned finds, rewrite_found config d m sound rests found scanned finds)
