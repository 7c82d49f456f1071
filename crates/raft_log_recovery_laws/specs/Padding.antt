-- A log that an engine left has no padding between its records, unless there is a CRC collision. So an open has none to
-- remove.
use Rattle.std.specs.Prelude.{◌<◌, List, length}
use Rattle.raft_log_fs.specs.Disk.{Disk}
use Rattle.raft_log_fs.specs.Image.{IsSound}
use Rattle.raft_log_file_settings.specs.declared.config.Config.{Config}
use Rattle.raft_log_dual_pipes.specs.OnDisk.{IsDurableAs}
use Rattle.raft_log_dual_pipes.specs.Pipes.{LogRecordValue}
use Rattle.raft_log_engine_laws.specs.EngineState.{LogDirectories, LogMap, log_in}
use Rattle.raft_log_engine_laws.specs.Holding.{IsRecoverableAs}
use Rattle.raft_log_recovery.specs.declared.builder.DualPipesBuilder.{DualPipesBuilder}
use Rattle.raft_log_open.specs.Finding.{FindsPadding}
use Rattle.raft_log_recovery_laws.specs.Bare.{IsBare}
use Rattle.raft_log_recovery_laws.specs.ByCalls.{ForAllNaming, home_of}
use Rattle.raft_log_recovery_laws.specs.InPlace.{StandsWithoutChance}

-- an open with the settings `config` finds no file with an alignment on disk `d`, and so rewrites no file to remove
-- padding
abbrev pub FindsNoPadding : Config → Disk → Type 0
FindsNoPadding config d = (b : DualPipesBuilder) (scanned : Disk) → FindsPadding config b d scanned → ⊥

-- An open of directories without a log finds no padding.
abbrev pub BareDirectoriesHaveNoPadding : Type 0
BareDirectoriesHaveNoPadding = (config : Config) (d : Disk) → IsSound d → IsBare config d → FindsNoPadding config d

-- An open of a log at rest finds no padding. A crash leaves a log at rest if its image has no CRC collision.
abbrev pub RestingLogsHaveNoPadding : Type 0
RestingLogsHaveNoPadding = (config : Config) (d : Disk) (m : LogMap) → IsSound d
    → IsDurableAs (log_in (home_of config)) d m → FindsNoPadding config d

-- An open in place of what an engine left, without a crash, finds no padding. This requires that there is no CRC
-- collision in the active files as they are.
abbrev pub StandingLogsHaveNoPadding : Type 0
StandingLogsHaveNoPadding = (home : LogDirectories) → 0 < length home.append → 0 < length home.rewrite → (d : Disk)
    (m : LogMap) (pending : List LogRecordValue) → IsSound d → (left : IsRecoverableAs home d m pending)
    → StandsWithoutChance home left.1.lies.state d → ForAllNaming home (λ config. FindsNoPadding config d)
