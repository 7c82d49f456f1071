-- What an engine left is forked as its files stand.
use Rattle.std.proofs.Common.{ℕ, List, take, sym, subst}
use Rattle.raft_log_model_laws.specs.Groups.{taken}
use Rattle.raft_log_record_base.specs.declared.pipe_log.LogQueue.{LogQueue}
use Rattle.raft_log_record_base.specs.declared.pipe_log.LogQueue.TheVariants.{Append, Rewrite}
use Rattle.raft_log_fs.specs.Disk.{Disk}
use Rattle.raft_log_fs.specs.Image.{as_it_stands}
use Rattle.raft_log_file_settings.specs.declared.config.Config.{Config}
use Rattle.raft_log_dual_pipes.specs.OnDisk.{IsDurableAs}
use Rattle.raft_log_engine_laws.specs.EngineState.{log_in, LogDirectories, LogMap}
use Rattle.raft_log_recovery.specs.Directories as builder
use Rattle.raft_log_recovery_laws.specs.ByCalls.{home_of}
use Rattle.raft_log_recovery_laws.proofs.Directory.{resting_directories_open}
use Rattle.raft_log_recovery_laws.proofs.InPlaceOutcomes.{standing_directories_open}
use Rattle.raft_log_recovery_laws.specs.ForkLeft.{IsForkedAs, LeftLogsShowAlike}
use Rattle.raft_log_recovery_laws.proofs.Copies.{ForksQueue, forks_standing}
use Rattle.raft_log_recovery_laws.proofs.Resting.{RestsIn, both_copied, forks_each}

forked_as : {S : Type 0} (disk : S → Disk) (tells : S → List ℕ → ℕ → Type 0) (config : Config) (old : S) (m : LogMap) → IsDurableAs (log_in (home_of config)) (as_it_stands (disk old)) m → IsForkedAs disk tells old m config
forked_as disk tells config old m source to target copied after sound only clear forks =
    let each : (queue : LogQueue) → ForksQueue queue (builder.paths_of config) target (as_it_stands (disk old)) (disk after) = λ queue.
    forks_standing queue (builder.paths_of config) target (disk old) (disk after) (forks_each config target copied (disk old) (disk after) clear forks queue) in
    let rests = subst (λ (l : List (List ℕ)). RestsIn l source.state m (disk after)) (sym only)
    (both_copied (builder.paths_of config) target (as_it_stands (disk old)) (disk after) (each Append) (each Rewrite) m source) in
    record { rests = rests.0; opens = resting_directories_open disk tells to after m sound rests.0 }

pub left_logs_show_alike : {S : Type 0} (disk : S → Disk) (tells : S → List ℕ → ℕ → Type 0) → LeftLogsShowAlike disk tells
left_logs_show_alike disk tells home one other old m pending sound left chance =
    let (k, within, rests, opens) = standing_directories_open disk tells home one other old m pending sound left chance in (
      k,
      within,
      rests,
      record {
        opens = opens;
        forks = λ config named.
            forked_as disk tells config old (taken m (take k pending)) (subst (λ (h : LogDirectories). IsDurableAs (log_in h) (as_it_stands (disk old)) (taken m (take k pending))) (sym named) rests);
      },
    )
