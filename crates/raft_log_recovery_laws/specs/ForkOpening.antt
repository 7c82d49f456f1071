-- Opens of a fork and of its source give the same contents.
use Rattle.std.specs.Prelude.{ℕ, List}
use Rattle.raft_log_fs.specs.Disk.{Disk}
use Rattle.raft_log_fs.specs.Image.{IsSound}
use Rattle.raft_log_file_settings.specs.Settings.{settings_of}
use Rattle.raft_log_file_settings.specs.declared.config.Config.{Config}
use Rattle.raft_log_dual_pipes.specs.OnDisk.{IsDurableAs}
use Rattle.raft_log_engine_laws.specs.EngineState.{log_in, LogMap}
use Rattle.raft_log_recovery_laws.specs.ByCalls.{home_of}
use Rattle.raft_log_recovery_laws.specs.Directory.{OpensAs}
use Rattle.raft_log_offline.specs.Forks.{Forks}
use Rattle.raft_log_recovery_laws.specs.ForkResting.{IsClear, NamesOnly}

-- An open of the fork (settings `to`) gives an engine whose log has the contents `m`, with nothing pending. So does an
-- open of the source (settings `config`) before the fork (state `old`), and after it (`now`). If an open fails, for any
-- reason, the log's files can be opened with these contents.
pub record OpenAlike {F : Type 0} (disk : F → Disk) (tells : F → List ℕ → ℕ → Type 0) (config to : Config)
    (old now : F) (m : LogMap) : Type 0 where
  pub fork : OpensAs disk tells to now m
  pub source : OpensAs disk tells config now m
  pub before : OpensAs disk tells config old m

-- A log at rest was forked into a clear target. Then an open of the fork gives the same contents as an open of the
-- source, before or after the fork.
abbrev pub ForksOpenAsTheirSource : {F : Type 0} → (F → Disk) → (F → List ℕ → ℕ → Type 0) → Type 0
ForksOpenAsTheirSource {F} disk tells = (config to : Config) (target : List ℕ) (copied : List (List ℕ))
    (old now : F) (m : LogMap) → IsSound (disk old) → IsSound (disk now) → NamesOnly to target
    → IsClear target (disk old) → IsDurableAs (log_in (home_of config)) (disk old) m
    → Forks (settings_of config) target copied (disk old) (disk now)
    → OpenAlike disk tells config to old now m
