-- Which voters a log's files have while no store has them open, and what the premise on CRC collisions says of these
-- files. Voters are possible after a cut-off round if they took its requests before some position, without the refused
-- ones.
use Rattle.std.specs.Prelude.{◌≡◌}
use Rattle.raft_log_fs.specs.Disk.{Disk}
use Rattle.raft_log_fs.specs.Image.{IsImage}
use Rattle.raft_log_file_settings.specs.declared.config.Config.{Config}
use Rattle.raft_voter_durability_laws.specs.raft_log_engine_laws.specs.raft_log_dual_pipes.specs.OnDisk.{IsDurableAs}
use Rattle.raft_voter_durability_laws.specs.raft_log_engine_laws.specs.EngineState.{LogDirectories, LogMap, EngineState, log_in}
use Rattle.raft_log_recovery_laws.specs.Bare.{IsBare}
use Rattle.raft_log_recovery_laws.specs.ByCalls.{home_of}
use Rattle.raft_log_recovery_laws.specs.InPlace.{StandsWithoutChance}
use Rattle.raft_log_recovery_laws.specs.Left.{IsCrashOf}
use Rattle.raft_log_recovery_laws.specs.Running.{LeavesNoChance}
use Rattle.raft_voter.specs.Rounds.{World, fresh_world}
use Rattle.raft_voter.specs.Service.{CutRound, MayFollow, uncut}
use Rattle.raft_voter_records.specs.Voters.{Means}
use Rattle.raft_voter_durability_laws.specs.Standing.{IsLeftAmong}
use Rattle.raft_voter_store.specs.Service.{LeavesAt}
use Rattle.raft_voter_store.specs.Service.LeavesAt.{left as is_left, running}

-- The files have voters that are possible after the round `cut`:
-- - `bare`: there is no log yet, and no round was cut off, so all voters are fresh.
-- - `rests`: after a crash, the log is at rest and stores possible voters.
-- - `left`: the log's files can be opened, and whatever a crash keeps of them has possible voters.
pub data FilesLeave (config : Config) (d : Disk) (cut : CutRound) : Type 0 where
  bare : IsBare config d → cut ≡ uncut fresh_world → FilesLeave config d cut
  rests : (before : Disk) → IsImage before d → (m : LogMap) → IsDurableAs (log_in (home_of config)) d m → (W : World)
      → Means m W → MayFollow cut W → FilesLeave config d cut
  left : IsLeftAmong (home_of config) d (MayFollow cut) → FilesLeave config d cut

-- The premise on CRC collisions for files that a store left:
-- - `stands`: if the files are read as they are, there is no collision in their active files.
-- - `crashed`: if a crash image of them is read, there is no collision in the image.
pub record SparesLeft (home : LogDirectories) (d : Disk) (cut : CutRound) (l : IsLeftAmong home d (MayFollow cut)) (read : Disk)
    : Type 0 where
  pub stands : read ≡ d → StandsWithoutChance home l.left.1.lies.state d
  pub crashed : IsImage d read → IsCrashOf home l.left.1.lies.state d read

-- The premise on CRC collisions if these files, or a crash image of them, are read. It claims nothing if there is no
-- log yet, or after a crash, since then all bytes are synced.
abbrev pub SparesFiles : (config : Config) (d : Disk) (cut : CutRound) → FilesLeave config d cut → Disk → Type 0
SparesFiles config d cut (bare is none) read = Unit {0}
SparesFiles config d cut (rests before image m is W means follows) read = Unit {0}
SparesFiles config d cut (left l) read = SparesLeft (home_of config) d cut l read

-- The premise on CRC collisions in a crash image under an open store. If the store runs, there is none in the image's
-- active files. If it has failed, there is none in the image of the files that it left.
abbrev pub SparesStore : (home : LogDirectories) (s : EngineState) (cut : CutRound) → LeavesAt home s cut → Disk → Type 0
SparesStore home s cut (running W none keeps) read = LeavesNoChance home s.pipes read
SparesStore home s cut (is_left failed l) read = IsCrashOf home l.left.1.lies.state s.pipes.disk read
