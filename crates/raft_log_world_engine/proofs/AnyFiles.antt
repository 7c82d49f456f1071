-- Opens, copies and crashes over any file system, as events of the model log.
use Rattle.std.proofs.Common.{◌≡◌, ℕ, List, [], inl, inr, refl}
use Rattle.std.specs.Global.{Global}
use Rattle.std.specs.String.{string_bytes}
use Rattle.std.specs.declared.string.String.{String}
use Rattle.raft_log_engine.specs.raft_log_fs.specs.Disk.{Disk as OnDisk}
use Rattle.raft_log_engine.specs.raft_log_fs.specs.Image.{IsImage, IsSound}
use Rattle.raft_log_engine.specs.raft_log_file_settings.specs.declared.config.Config.{Config}
use Rattle.raft_log_engine.specs.raft_log_engine_core.specs.ModelCalls.{IsEngineLog}
use Rattle.raft_log_engine.specs.raft_log_engine_laws.specs.EngineState.{EngineState, said_of, shows}
use Rattle.raft_log_recovery_laws.specs.Bare.{BareDirectoriesOpen}
use Rattle.raft_log_recovery_laws.specs.ByCalls.{home_of}
use Rattle.raft_log_recovery_laws.specs.Directory.{RestingDirectoriesOpen}
use Rattle.raft_log_recovery_laws.specs.ForkLeaving.{ForksLeaveTheSource}
use Rattle.raft_log_recovery_laws.specs.ForkLeft.{LeftLogsShowAlike}
use Rattle.raft_log_recovery_laws.specs.ForkResting.{ForkedLogsRest, TargetsAreClear}
use Rattle.raft_log_recovery_laws.specs.InPlace.{StandingDirectoriesOpen}
use Rattle.raft_log_recovery_laws.specs.Left.{CrashedLogsRest}
use Rattle.raft_log_recovery_laws.specs.Running.{CrashedEnginesOpen}
use Rattle.raft_log_world.specs.declared.event.Answer.TheVariants.{Done, Refused}
use Rattle.raft_log_world.specs.declared.event.Event.TheVariants.{Open, Fork, Crash}
use Rattle.raft_log_world.specs.Logs.{IfLeft, UnlessResting}
use Rattle.raft_log_world.specs.Model.{Answers, ModelLog}
use Rattle.raft_log_world.specs.Model.ModelLog.{resting, left, running, failed}
use Rattle.raft_log_world_engine.specs.AnyFiles.{CopiesAsModel, CopiesFollowTheModel, EngineCrashesFollowTheModel, FileCrashesFollowTheModel, OpensAsModel, OpensFollowTheModel}
use Rattle.raft_log_world_engine.specs.Instance.{CrashSparesEngine, CrashSparesFiles, IsFilesLog, ReadSparesFiles}
use Rattle.raft_log_world_engine.proofs.Crashing.{left_crash, resting_crash, running_crash}
use Rattle.raft_log_world_engine.proofs.Forking.{IsCopied, IsUncopied, is_copied, is_uncopied}
use Rattle.raft_log_world_engine.proofs.Opening.{IsOpened, IsUnopened, opened, unopened}

-- An open that succeeded, and one that failed.

open_done : (C : Type 0) (config : Config) (d : OnDisk) (e : EngineState) (workers : ℕ) → IsOpened config d e → (log : ModelLog) (known : IsFilesLog config d log) → IfLeft log (ReadSparesFiles config d log known)
    → (next : ModelLog) × Answers {C = C} said_of log (Open workers) Done next × IsEngineLog (home_of config) e next
open_done C config d e workers is (resting m) known asks = (running m [], refl, is.resting_log m known)
open_done C config d e workers is (left m pending) known asks =
    let (now, loses, h) = is.left_log m pending known asks in
    (running now [], (now, loses, refl), h)
open_done C config d e workers is (running m pending) known asks = absurd known
open_done C config d e workers is (failed m pending) known asks = absurd known

open_refused : (C : Type 0) (config : Config) (d new : OnDisk) (workers : ℕ) → IsUnopened config d new → (log : ModelLog) (known : IsFilesLog config d log) → IfLeft log (ReadSparesFiles config d log known)
    → (next : ModelLog) × Answers {C = C} said_of log (Open workers) Refused next × IsFilesLog config new next
open_refused C config d new workers is (resting m) known asks = elim (is.resting_log m known) [
  | inl stay ↦ (resting m, inl refl, stay)
  | inr was ↦ (left m [], inr refl, was)
]
open_refused C config d new workers is (left m pending) known asks = elim (is.left_log m pending known asks) [
  | inl was ↦ (left m pending, inl refl, was)
  | inr found ↦ (left found.0 [], inr (found.0, found.1, refl), found.2)
]
open_refused C config d new workers is (running m pending) known asks = absurd known
open_refused C config d new workers is (failed m pending) known asks = absurd known

-- A copy that succeeded, and one that failed.

fork_done : (C : Type 0) (config to : Config) (d new : OnDisk) (target : String Global) → IsCopied config to d new → (log : ModelLog) (known : IsFilesLog config d log) → IfLeft log (ReadSparesFiles config d log known)
    → (next : ModelLog) × Answers {C = C} said_of log (Fork target) Done next × IsFilesLog to new next
fork_done C config to d new target is (resting m) known asks = (resting m, refl, is.resting_log m known)
fork_done C config to d new target is (left m pending) known asks =
    let (now, loses, at) = is.left_log m pending known asks in
    (resting now, (now, loses, refl), at)
fork_done C config to d new target is (running m pending) known asks = absurd known
fork_done C config to d new target is (failed m pending) known asks = absurd known

fork_refused : (C : Type 0) (config : Config) (d new : OnDisk) (target : String Global) → IsUncopied config d new → (log : ModelLog) (known : IsFilesLog config d log) → IfLeft log (ReadSparesFiles config d log known)
    → (next : ModelLog) × Answers {C = C} said_of log (Fork target) Refused next × IsFilesLog config new next
fork_refused C config d new target is (resting m) known asks = (resting m, refl, is.resting_log m known)
fork_refused C config d new target is (left m pending) known asks = (left m pending, refl, is.left_log m pending known)
fork_refused C config d new target is (running m pending) known asks = absurd known
fork_refused C config d new target is (failed m pending) known asks = absurd known

-- The laws.

module _ (C : Type 0) {F : Type 0} (disk : F → OnDisk) (tells : F → List ℕ → ℕ → Type 0) (sound : (system : F) → IsSound (disk system)) where
  pub opens_follow_the_model : BareDirectoriesOpen disk tells → RestingDirectoriesOpen disk tells → StandingDirectoriesOpen disk tells → OpensFollowTheModel C disk tells
  opens_follow_the_model bares resting_open left_open config settings named old = record {
    done = λ workers v tables cache none opens.
        open_done C config (disk old) (shows v tables cache) workers (opened disk tells sound bares resting_open left_open config settings named old v tables cache none opens);
    refused = λ workers error new fails. open_refused C config (disk old) (disk new) workers (unopened disk tells sound bares resting_open left_open config settings named old error new fails);
  }

  pub copies_follow_the_model : TargetsAreClear → ForkedLogsRest → ForksLeaveTheSource → LeftLogsShowAlike disk tells → CopiesFollowTheModel C disk
  copies_follow_the_model clears resting_fork leave left_fork config target old new = record {
    done = λ to copied only apart forks.
        fork_done C config to (disk old) (disk new) target (is_copied disk tells sound clears resting_fork left_fork config to (string_bytes target) copied old new only forks apart);
    refused = λ error fails. fork_refused C config (disk old) (disk new) target (is_uncopied leave config (string_bytes target) error (disk old) (disk new) (sound old) fails);
  }

pub file_crashes_follow_the_model : (C : Type 0) → CrashedLogsRest → FileCrashesFollowTheModel C
file_crashes_follow_the_model C crashed config d image what is log known asks = by_log log known asks
  where
    by_log : (log : ModelLog) (known : IsFilesLog config d log) → UnlessResting log (CrashSparesFiles config d log known image) → (next : ModelLog) × Answers said_of log (Crash what) Done next × IsFilesLog config image next
    by_log (resting m) known asks = (resting m, refl, resting_crash config d image m is known)
    by_log (left m pending) known asks =
        let (now, loses, at) = left_crash crashed config d image m pending is known asks in
        (resting now, (now, loses, refl), at)
    by_log (running m pending) known asks = absurd known
    by_log (failed m pending) known asks = absurd known

pub engine_crashes_follow_the_model : (C : Type 0) {F : Type 0} (disk : F → OnDisk) (tells : F → List ℕ → ℕ → Type 0) → ((system : F) → IsSound (disk system)) → CrashedLogsRest → CrashedEnginesOpen disk tells → EngineCrashesFollowTheModel C disk
engine_crashes_follow_the_model C disk tells sound crashed running_crashed config e image what is log known asks = by_log log known asks
  where
    by_log : (log : ModelLog) (known : IsEngineLog (home_of config) e log) → UnlessResting log (CrashSparesEngine (home_of config) e log known (disk image))
        → (next : ModelLog) × Answers said_of log (Crash what) Done next × IsFilesLog config (disk image) next
    by_log (running m pending) known asks =
        let (now, loses, at) = running_crash disk tells sound running_crashed config e image m pending is known asks in
        (resting now, (now, loses, refl), at)
    by_log (failed m pending) known asks =
        let (now, loses, at) = left_crash crashed config e.pipes.disk (disk image) m pending is known.1 asks in
        (resting now, (now, loses, refl), at)
    by_log (resting m) known asks = absurd known
    by_log (left m pending) known asks = absurd known
