-- The log that a fork makes in its target directory.
use Rattle.std.specs.Prelude.{◌≡◌, ℕ, false, None, List, [], ◌∷◌, ◌++◌}
use Rattle.raft_log_fs.specs.Disk.{Disk, IsPlain}
use Rattle.raft_log_fs.specs.Image.{IsSound}
use Rattle.raft_log_file_settings.specs.Sanitized.{IsFileName}
use Rattle.raft_log_file_settings.specs.Settings.{settings_of}
use Rattle.raft_log_file_settings.specs.declared.config.Config.{Config}
use Rattle.raft_log_dual_pipes.specs.OnDisk.{IsDurableAs}
use Rattle.raft_log_engine_laws.specs.EngineState.{log_in, LogMap}
use Rattle.raft_log_recovery.specs.Directories.{paths_of}
use Rattle.raft_log_recovery_laws.specs.ByCalls.{home_of}
use Rattle.raft_log_offline.specs.Forks.{Forks}

-- no directory that is directly in `target` has the name of a log file
abbrev pub HoldsNoDirectory : List ℕ → Disk → Type 0
HoldsNoDirectory target d = (name : List ℕ) → IsPlain name → IsFileName name
    → d.directories (target ++ 47 ∷ name) ≡ false

-- No directory in `target` has the name of a log file. If `target` doesn't exist, no file is at the path of a log file
-- in it either; on a sound disk that is always so. If `target` exists, the fork itself checks for files. An empty
-- directory is clear.
pub record IsClear (target : List ℕ) (d : Disk) : Type 0 where
  pub absent : d.directories target ≡ false → (name : List ℕ) → IsPlain name → IsFileName name
      → d.names (target ++ 47 ∷ name) ≡ None
  pub apart : HoldsNoDirectory target d

-- On a sound disk, no file is in a directory that doesn't exist. So a target is clear if no directory in it has the
-- name of a log file.
abbrev pub TargetsAreClear : Type 0
TargetsAreClear = (target : List ℕ) (d : Disk) → IsSound d → HoldsNoDirectory target d → IsClear target d

-- the settings name this directory and no other
abbrev pub NamesOnly : Config → List ℕ → Type 0
NamesOnly config directory = paths_of config ≡ directory ∷ []

-- a log is at rest on disk `new` in the directories of `to`, with the files, records and contents of the log of
-- `config`
abbrev pub RestsThere : (config to : Config) (old : Disk) (m : LogMap)
    → IsDurableAs (log_in (home_of config)) old m → Disk → Type 0
RestsThere config to old m h new =
    (t : IsDurableAs (log_in (home_of to)) new m) × (t.state ≡ record h.state { disk = new })

-- If a log at rest is forked into a clear target, the fork is at rest there, for settings that name only the target.
abbrev pub ForkedLogsRest : Type 0
ForkedLogsRest = (config to : Config) (target : List ℕ) (copied : List (List ℕ)) (old new : Disk) (m : LogMap)
    → NamesOnly to target → IsClear target old → (h : IsDurableAs (log_in (home_of config)) old m)
    → Forks (settings_of config) target copied old new → RestsThere config to old m h new
