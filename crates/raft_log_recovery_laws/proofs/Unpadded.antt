-- No log that an engine left has padding, so an open takes none out.
use Rattle.std.proofs.Common.{List, refl}
use Rattle.raft_log_record_base.specs.declared.pipe_log.LogQueue.TheVariants.{Append, Rewrite}
use Rattle.raft_log_fs.specs.Disk.{Disk}
use Rattle.raft_log_fs.specs.Image.{as_it_stands, IsSound}
use Rattle.raft_log_file_settings.specs.declared.config.Config.{Config}
use Rattle.raft_log_dual_pipes.specs.OnDisk.{IsDurableAs}
use Rattle.raft_log_dual_pipes.specs.Pipes.{LogRecordValue}
use Rattle.raft_log_engine_laws.specs.EngineState.{log_in, LogMap}
use Rattle.raft_log_engine_laws.specs.Holding.{IsRecoverableAs}
use Rattle.raft_log_recovery.specs.Directories.{paths_of}
use Rattle.raft_log_recovery.specs.Recovering.{append_config, append_files, rewrite_config, rewrite_files}
use Rattle.raft_log_recovery_laws.specs.ByCalls.{home_of, reads}
use Rattle.raft_log_recovery_laws.specs.Padding.{FindsNoPadding, RestingLogsHaveNoPadding}
use Rattle.raft_log_recovery_laws.proofs.Finding.{scans_find_all_files, some_directory}
use Rattle.raft_log_recovery_laws.proofs.InPlace.{lasts, standing, standing_sound, there}
use Rattle.raft_log_recovery_laws.proofs.InPlaceScans.{has_read, settled_finds}
use Rattle.raft_log_recovery_laws.proofs.Plain.{queue_plain}
use Rattle.raft_log_recovery_laws.proofs.Settling.{settled_in}

-- where a log rests, no file is taken for one with an alignment
pub resting_plain : RestingLogsHaveNoPadding
resting_plain config d m sound rests b scanned padding =
    let has = padding.has in
    let found = scans_find_all_files config d m sound rests b scanned padding.finds in
    has.aligned (
      queue_plain Append (paths_of config) (some_directory config) (append_config b) refl scanned rests.state.append (append_files b) has.append_endings has.append has.append_read found.0,
      queue_plain Rewrite (paths_of config) (some_directory config) (rewrite_config b) refl scanned rests.state.rewrite (rewrite_files b) has.rewrite_endings has.rewrite has.rewrite_read found.1,
    )

-- in place it is read as it would be if all were synced
pub standing_plain : (config : Config) (d : Disk) (m : LogMap) (pending : List LogRecordValue) (sound : IsSound d) (left : IsRecoverableAs (home_of config) d m pending) (now : LogMap) → IsDurableAs (log_in (home_of config)) (as_it_stands d) now → FindsNoPadding config d
standing_plain config d m pending sound left now rests b scanned padding =
    let E = lasts config d m pending sound left now rests in
    let has = padding.has in
    resting_plain config (standing config d m pending sound left now rests) now (standing_sound config d m pending sound left now rests) (there config d m pending sound left now rests) b (settled_in E scanned) (record {
      finds = settled_finds E config b d scanned padding.finds;
      has = record {
        append = has.append;
        rewrite = has.rewrite;
        append_endings = has.append_endings;
        rewrite_endings = has.rewrite_endings;
        append_read = has_read E reads (append_config b) (append_files b) scanned has.append has.append_endings has.append_read;
        rewrite_read = has_read E reads (rewrite_config b) (rewrite_files b) scanned has.rewrite has.rewrite_endings has.rewrite_read;
        aligned = has.aligned;
      };
    })
