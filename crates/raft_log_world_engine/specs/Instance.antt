-- An engine over a file system, and the files of a log, as a log of the model.
use Rattle.std.specs.Prelude.{◌≡◌, ℕ, List}
use Rattle.raft_log_machine_laws.specs.Fresh.{nothing_stands}
use Rattle.raft_log_engine.specs.raft_log_fs.specs.Disk.{Disk as OnDisk}
use Rattle.raft_log_engine.specs.raft_log_file_settings.specs.declared.config.Config.{Config}
use Rattle.raft_log_engine.specs.raft_log_dual_pipes.specs.OnDisk.{IsDurableAs}
use Rattle.raft_log_engine.specs.raft_log_engine_core.specs.ModelCalls.{IsEngineLog}
use Rattle.raft_log_engine.specs.raft_log_engine_laws.specs.EngineState.{LogDirectories, LogMap, EngineState, log_in, said_of}
use Rattle.raft_log_engine.specs.raft_log_engine_laws.specs.Holding.{IsRecoverableAs}
use Rattle.raft_log_engine.specs.raft_log_record_batches.specs.Batch.{Batch}
use Rattle.raft_log_recovery_laws.specs.Bare.{IsBare}
use Rattle.raft_log_recovery_laws.specs.ByCalls.{home_of}
use Rattle.raft_log_recovery_laws.specs.ForkResting.{HoldsNoDirectory}
use Rattle.raft_log_recovery_laws.specs.InPlace.{StandsWithoutChance}
use Rattle.raft_log_recovery_laws.specs.Left.{IsCrashOf}
use Rattle.raft_log_recovery_laws.specs.Running.{LeavesNoChance}
use Rattle.raft_log_world.specs.declared.storage.Storage.{Storage}
use Rattle.raft_log_world.specs.declared.storage.Storage.TheVariants.{Closed, Open}
use Rattle.raft_log_world.specs.Logs.{LogOf}
use Rattle.raft_log_world.specs.Model.{ModelLog}
use Rattle.raft_log_world.specs.Model.ModelLog.{resting, left, running, failed}

-- The files of a log on disk `d` are at rest, with the contents `m`:
-- - `bare`: nothing was ever written, and there is no log yet.
-- - `rests`: all of the log is synced, as after a crash or a copy.
pub data Rests (config : Config) (d : OnDisk) (m : LogMap) : Type 0 where
  bare : IsBare config d → m ≡ nothing_stands → Rests config d m
  rests : IsDurableAs (log_in (home_of config)) d m → Rests config d m

-- The files on disk `d`, in the directories that the settings name, represent this model log. No engine has the log
-- open.
abbrev pub IsFilesLog : Config → OnDisk → ModelLog → Type 0
IsFilesLog config d (resting m) = Rests config d m
IsFilesLog config d (left m pending) = IsRecoverableAs (home_of config) d m pending
IsFilesLog config d (running m pending) = ⊥
IsFilesLog config d (failed m pending) = ⊥

-- What an open or a copy requires of the files that it reads. If a close or a failed open left them, and no crash
-- followed, they must have no CRC collision.
abbrev pub ReadSparesFiles : (config : Config) (d : OnDisk) (log : ModelLog) → IsFilesLog config d log → Type 0
ReadSparesFiles config d (left m pending) is = StandsWithoutChance (home_of config) is.1.lies.state d
ReadSparesFiles config d log is = Unit {0}

-- What is required of a crash that left `image` of the files on disk `d`. If a close or a failed open had left these
-- files, `image` must have no CRC collision.
abbrev pub CrashSparesFiles :
    (config : Config) (d : OnDisk) (log : ModelLog) → IsFilesLog config d log → OnDisk → Type 0
CrashSparesFiles config d (left m pending) is image = IsCrashOf (home_of config) is.1.lies.state d image
CrashSparesFiles config d log is image = Unit {0}

-- A crash under the engine left `image` without a CRC collision. For an engine that ran, `LeavesNoChance` says this of
-- its pipes. For an engine that had failed, `IsCrashOf` says this of the files that it left.
abbrev pub CrashSparesEngine :
    (home : LogDirectories) (e : EngineState) (log : ModelLog) → IsEngineLog home e log → OnDisk → Type 0
CrashSparesEngine home e (running m pending) is image = LeavesNoChance home e.pipes image
CrashSparesEngine home e (failed m pending) is image = IsCrashOf home is.1.1.lies.state e.pipes.disk image
CrashSparesEngine home e log is image = Unit {0}

-- what is known of an engine with an open log (`S`), and of a closed log (`G`): the settings and the state of each
pub record Parts (S G : Type 0) : Type 0 where
  pub config : S → Config
  pub shows : S → EngineState
  pub settings : G → Config
  pub disk : G → OnDisk

-- an engine, or a closed log, represents this model log
abbrev pub IsLog : {S G : Type 0} → Parts S G → Storage S G → ModelLog → Type 0
IsLog p (Closed closed) log = IsFilesLog (p.settings closed) (p.disk closed) log
IsLog p (Open engine) log = IsEngineLog (home_of (p.config engine)) (p.shows engine) log

-- what an open requires of a closed log: no CRC collision, if a close or a failed open left it
abbrev pub ReadSpares : {S G : Type 0} (p : Parts S G) (at : Storage S G) (log : ModelLog) → IsLog p at log → Type 0
ReadSpares p (Closed closed) log is = ReadSparesFiles (p.settings closed) (p.disk closed) log is
ReadSpares p (Open engine) log is = Unit {0}

-- what is required of a crash that leaves the closed log `image`: no CRC collision, unless the log was at rest
abbrev pub CrashSpares :
    {S G : Type 0} (p : Parts S G) (at : Storage S G) (log : ModelLog) → IsLog p at log → G → Type 0
CrashSpares p (Closed closed) log is image = CrashSparesFiles (p.settings closed) (p.disk closed) log is (p.disk image)
CrashSpares p (Open engine) log is image =
    CrashSparesEngine (home_of (p.config engine)) (p.shows engine) log is (p.disk image)

-- a copy of a closed log may be made in this directory: no directory in it has the name of a log file
abbrev pub MayHoldCopy : {S G : Type 0} → Parts S G → Storage S G → List ℕ → Type 0
MayHoldCopy p (Closed closed) target = HoldsNoDirectory target (p.disk closed)
MayHoldCopy p (Open engine) target = Unit {0}

-- the engine and its closed logs, as an implementation of the model log
abbrev pub engine_log : {S G C : Type 0} → Parts S G → LogOf S G Batch C
engine_log p = record {
  is = IsLog p;
  says = said_of;
  read_spared = ReadSpares p;
  crash_spared = λ at log is what files. CrashSpares p at log is files;
  is_clear = MayHoldCopy p;
}
