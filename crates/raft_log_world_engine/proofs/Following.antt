-- Each call of the instance as an event of the model log.
use Rattle.std.proofs.Common.{◌≡◌, true, false, List, [], refl, sym, ap, subst, ◌∙◌}
use Rattle.std.specs.Global.{Global}
use Rattle.std.specs.String.{string_bytes}
use Rattle.std.specs.declared.string.String.{String}
use Rattle.raft_log_engine.specs.raft_log_model_laws.specs.Groups.{taken}
use Rattle.raft_log_engine.specs.raft_log_fs.specs.Disk.{Disk as OnDisk}
use Rattle.raft_log_engine.specs.raft_log_fs.specs.Image.{IsImage}
use Rattle.raft_log_engine.specs.raft_log_file_settings.specs.declared.config.Config.{Config}
use Rattle.raft_log_engine.specs.raft_log_dual_pipes.specs.Pipes.{LogRecordValue}
use Rattle.raft_log_engine.specs.raft_log_engine_core.specs.ModelCalls.{IsEngineLog}
use Rattle.raft_log_engine.specs.raft_log_engine_laws.specs.EngineState.{LogDirectories, LogMap, EngineState, has_failed, said_of}
use Rattle.raft_log_engine.specs.raft_log_engine_laws.specs.Holding.{Represents, IsRecoverableAs}
use Rattle.raft_log_engine.specs.raft_log_record_batches.specs.Batch.{Batch}
use Rattle.raft_log_recovery_laws.specs.ByCalls.{home_of}
use Rattle.raft_log_recovery_laws.specs.ForkResting.{HoldsNoDirectory}
use Rattle.raft_log_world.specs.declared.event.Answer.{Answer}
use Rattle.raft_log_world.specs.declared.event.Answer.TheVariants.{Done, Refused}
use Rattle.raft_log_world.specs.declared.event.Call.{Call}
use Rattle.raft_log_world.specs.declared.event.Event.{Event}
use Rattle.raft_log_world.specs.declared.event.Event.TheVariants.{Serve, Close, Fork, Crash}
use Rattle.raft_log_world.specs.Logs.{IfLeft, UnlessResting}
use Rattle.raft_log_world.specs.Model.{Answers, ModelLog, is_open}
use Rattle.raft_log_world.specs.Model.ModelLog.{resting, left, running, failed}
use Rattle.raft_log_world_engine.specs.Calls.{ServesAs, failure_of}
use Rattle.raft_log_world_engine.specs.AnyFiles.{EngineCrashesFollowTheModel, FileCrashesFollowTheModel, FollowsFiles}
use Rattle.raft_log_world_engine.specs.Instance.{CrashSparesEngine, CrashSparesFiles, IsFilesLog, ReadSparesFiles}
use Rattle.raft_log_world_engine.proofs.Closing.{IsClosed}
use Rattle.raft_log_world_engine.proofs.Homes.{alive}

-- an engine that had failed is the same log after a call
on_failed : (s t : EngineState) (call : Call Batch) (answer : Answer) (home : LogDirectories) (m : LogMap) (pending : List LogRecordValue) → ServesAs s call answer t → IsEngineLog home s (failed m pending) → IsEngineLog home t (failed m pending)
on_failed s t call answer home m pending serves known = subst (λ (e : EngineState). IsEngineLog home e (failed m pending)) (sym (serves.fails known.0).1) known

is_opened : (home : LogDirectories) (e : EngineState) (log : ModelLog) → IsEngineLog home e log → is_open log ≡ true
is_opened home e (running m pending) is = refl
is_opened home e (failed m pending) is = refl
is_opened home e (resting m) is = absurd is
is_opened home e (left m pending) is = absurd is

-- the files of a log are one that no engine has open
is_shut : (config : Config) (d : OnDisk) (log : ModelLog) → IsFilesLog config d log → is_open log ≡ false
is_shut config d (resting m) is = refl
is_shut config d (left m pending) is = refl
is_shut config d (running m pending) is = absurd is
is_shut config d (failed m pending) is = absurd is

-- An event of closed files, as an event of the instance: an open, and one that leaves files.
pub then_open : {C : Type 0} (config : Config) (d : OnDisk) (event : Event Batch C) (answer : Answer) (home : LogDirectories) (e : EngineState) → FollowsFiles config d event answer (IsEngineLog home e)
    → (log : ModelLog) (known : (is_open log ≡ false) × IsFilesLog config d log) → IfLeft log (ReadSparesFiles config d log known.1)
    → (next : ModelLog) × Answers said_of log event answer next × ((is_open next ≡ true) × IsEngineLog home e next)
then_open config d event answer home e follows log known asks =
    let (next, answers, is) = follows log known.1 asks in
    (next, answers, (is_opened home e next is, is))

pub then_closed : {C : Type 0} (config to : Config) (d new : OnDisk) (event : Event Batch C) (answer : Answer) → FollowsFiles config d event answer (IsFilesLog to new)
    → (log : ModelLog) (known : (is_open log ≡ false) × IsFilesLog config d log) → IfLeft log (ReadSparesFiles config d log known.1)
    → (next : ModelLog) × Answers said_of log event answer next × ((is_open next ≡ false) × IsFilesLog to new next)
then_closed config to d new event answer follows log known asks =
    let (next, answers, is) = follows log known.1 asks in
    (next, answers, (is_shut to new next is, is))

-- a copy, which also asks for a clear target
pub fork_closed : {C : Type 0} (config to : Config) (d new : OnDisk) (target : String Global) (answer : Answer)
    → (HoldsNoDirectory (string_bytes target) d → FollowsFiles {C = C} config d (Fork target) answer (IsFilesLog to new))
    → (log : ModelLog) (known : (is_open log ≡ false) × IsFilesLog config d log) → HoldsNoDirectory (string_bytes target) d × IfLeft log (ReadSparesFiles config d log known.1)
    → (next : ModelLog) × Answers {C = C} said_of log (Fork target) answer next × ((is_open next ≡ false) × IsFilesLog to new next)
fork_closed config to d new target answer follows log known asks = then_closed config to d new (Fork target) answer (follows asks.0) log known asks.1

-- A call.
pub call_served : (C : Type 0) (home : LogDirectories) (s t : EngineState) (call : Call Batch) (answer : Answer) → ServesAs s call answer t → (log : ModelLog) (known : (is_open log ≡ true) × IsEngineLog home s log) → Unit {0}
    → (next : ModelLog) × Answers {C = C} said_of log (Serve call) answer next × ((is_open next ≡ true) × IsEngineLog home t next)
call_served C home s t call answer serves (running m pending) known asks =
    let (next, answers, is) = serves.runs home m pending known.1 in
    (next, answers, (is_opened home t next is, is))
call_served C home s t call answer serves (failed m pending) known asks = (
  failed m pending,
  subst (λ (a : Answer). Answers {C = C} said_of (failed m pending) (Serve call) a (failed m pending)) (sym (serves.fails known.1.0).0) refl,
  (refl, on_failed s t call answer home m pending serves known.1),
)
call_served C home s t call answer serves (resting m) known asks = absurd known.1
call_served C home s t call answer serves (left m pending) known asks = absurd known.1

-- A close that succeeded.
pub close_done : (C : Type 0) (config : Config) (e : EngineState) (d : OnDisk) (answer : Answer) → answer ≡ Done → (has_failed e ≡ true → ⊥) → ((m : LogMap) (pending : List LogRecordValue) → Represents (home_of config) e m pending → IsRecoverableAs (home_of config) d (taken m pending) [])
    → (log : ModelLog) (known : (is_open log ≡ true) × IsEngineLog (home_of config) e log) → Unit {0}
    → (next : ModelLog) × Answers {B = Batch} {C = C} said_of log Close answer next × ((is_open next ≡ false) × IsFilesLog config d next)
close_done C config e d answer told lives settles (running m pending) known asks = (
  left (taken m pending) [],
  subst (λ (a : Answer). Answers {C = C} said_of (running m pending) Close a (left (taken m pending) [])) (sym told) refl,
  (refl, settles m pending known.1),
)
close_done C config e d answer told lives settles (failed m pending) known asks = absurd (lives known.1.0)
close_done C config e d answer told lives settles (resting m) known asks = absurd known.1
close_done C config e d answer told lives settles (left m pending) known asks = absurd known.1

-- One that failed.
pub close_refused : (C : Type 0) (config : Config) (e : EngineState) (d : OnDisk) (answer : Answer) → answer ≡ failure_of (has_failed e) → IsClosed (home_of config) e d → (log : ModelLog) (known : (is_open log ≡ true) × IsEngineLog (home_of config) e log) → Unit {0}
    → (next : ModelLog) × Answers {B = Batch} {C = C} said_of log Close answer next × ((is_open next ≡ false) × IsFilesLog config d next)
close_refused C config e d answer told is (running m pending) known asks = (
  left m pending,
  subst (λ (a : Answer). Answers {C = C} said_of (running m pending) Close a (left m pending)) (sym (told ∙ ap failure_of (alive (home_of config) e m pending known.1))) refl,
  (refl, is.held m pending known.1),
)
close_refused C config e d answer told is (failed m pending) known asks = (
  left m pending,
  subst (λ (a : Answer). Answers {C = C} said_of (failed m pending) Close a (left m pending)) (sym (told ∙ ap failure_of known.1.0)) refl,
  (refl, is.failed known.1.0 m pending known.1.1),
)
close_refused C config e d answer told is (resting m) known asks = absurd known.1
close_refused C config e d answer told is (left m pending) known asks = absurd known.1

-- A crash of files.
pub crash_done : {C : Type 0} → FileCrashesFollowTheModel C → (config : Config) (d image : OnDisk) (what : C) → IsImage d image
    → (log : ModelLog) (known : (is_open log ≡ false) × IsFilesLog config d log) → UnlessResting log (CrashSparesFiles config d log known.1 image)
    → (next : ModelLog) × Answers said_of log (Crash what) Done next × ((is_open next ≡ false) × IsFilesLog config image next)
crash_done crashes config d image what is log known asks =
    let (next, answers, at) = crashes config d image what is log known.1 asks in
    (next, answers, (is_shut config image next at, at))

-- One under an engine.
pub crash_under_done : {F C : Type 0} (disk : F → OnDisk) → EngineCrashesFollowTheModel C disk → (config : Config) (e : EngineState) (image : F) (what : C) → IsImage e.pipes.disk (disk image)
    → (log : ModelLog) (known : (is_open log ≡ true) × IsEngineLog (home_of config) e log) → UnlessResting log (CrashSparesEngine (home_of config) e log known.1 (disk image))
    → (next : ModelLog) × Answers said_of log (Crash what) Done next × ((is_open next ≡ false) × IsFilesLog config (disk image) next)
crash_under_done disk crashes config e image what is log known asks =
    let (next, answers, at) = crashes config e image what is log known.1 asks in
    (next, answers, (is_shut config (disk image) next at, at))
