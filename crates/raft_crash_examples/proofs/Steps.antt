-- The steps of a log's life, each from what the model log says of it.
use Rattle.std.proofs.Common.{◌≡◌, ◌∙◌, ℕ, true, false, List, [], map, Option, inl, inr, refl, ap, sym, subst}
use Rattle.std.specs.Prelude.{Err, Ok, Result, is_ok}
use Rattle.std.proofs.Math.Seq.{take-nil}
use Rattle.std.proofs.lemmas.Bool.{false≢true, false_from_ne_true}
use Rattle.raft_log_engine.specs.raft_log_model_laws.specs.Groups.{taken}
use Rattle.raft_log_engine.specs.raft_log_record_base.specs.declared.errors.Error.{Error}
use Rattle.raft_log_engine.specs.raft_log_record_base.specs.declared.errors.Error.TheVariants as errors
use Rattle.raft_log_engine.specs.raft_log_fs.specs.Disk.{Disk}
use Rattle.raft_log_engine.specs.raft_log_fs.specs.Image.{IsImage, IsSound}
use Rattle.raft_log_engine.specs.raft_log_file_settings.specs.declared.config.Config.{Config}
use Rattle.raft_log_engine.specs.raft_log_dual_pipes.specs.ClosingCalls.{ClosesAs}
use Rattle.raft_log_engine.specs.raft_log_dual_pipes.specs.Pipes.{LogPipes, LogRecordValue, is_failed}
use Rattle.raft_log_engine.specs.raft_log_engine_core.specs.ModelCalls.{IsEngineLog}
use Rattle.raft_log_engine.specs.raft_log_engine_laws.specs.EngineState.{LogDirectories, LogMap, EngineState, has_failed, shows}
use Rattle.raft_log_engine.specs.raft_log_engine_laws.specs.Holding.{Represents}
use Rattle.raft_log_engine.specs.raft_log_engine_laws.specs.Reading.{StandsUnder}
use Rattle.raft_log_recovery_laws.specs.ByCalls.{home_of}
use Rattle.raft_log_recovery_laws.specs.Closed.{ClosesProperly}
use Rattle.raft_log_recovery_laws.specs.Running.{LeavesNoChance}
use Rattle.raft_log_recovery_laws.proofs.Public.{answered_closes_are_proper}
use Rattle.raft_log_world.specs.declared.event.Answer.TheVariants.{Done}
use Rattle.raft_log_world.specs.declared.event.Event.TheVariants.{Open}
use Rattle.raft_log_world.specs.Model.{LosesSome, ModelLog}
use Rattle.raft_log_world.specs.Model.ModelLog.{resting, left, running, failed}
use Rattle.raft_log_world_engine.specs.AnyFiles.{FollowsFiles}
use Rattle.raft_log_world_engine.specs.Instance.{CrashSparesEngine, IsFilesLog, ReadSparesFiles, Rests}
use Rattle.raft_log_world_engine.specs.Instance.Rests.{rests}
use Rattle.raft_crash_examples.specs.declared.changing.KeyChange.{KeyChange}
use Rattle.raft_crash_examples.specs.declared.ending.Ending.{Ending}
use Rattle.raft_crash_examples.specs.declared.ending.Ending.TheVariants.{Close, Crash}
use Rattle.raft_crash_examples.specs.Changing.{said_by}
use Rattle.raft_crash_examples.specs.Ending.{Ends, EndsWithoutChance}
use Rattle.raft_crash_examples.specs.Following.{IsOpenWith, LivesFollowTheModel}
use Rattle.raft_crash_examples.specs.Lives.{OpensAndChanges}
use Rattle.raft_crash_examples.specs.Opening.{Opens}
use Rattle.raft_crash_examples.specs.Saving.{Loads}
use Rattle.raft_crash_examples.proofs.Closed as closed

-- The files are a log with the contents `m`. It is at rest; or a close left it, with nothing pending, and with what an
-- open asks of chance.
pub data IsReady (config : Config) (d : Disk) (m : LogMap) : Type 0 where
  at_rest : IsFilesLog config d (resting m) → IsReady config d m
  left_so : (known : IsFilesLog config d (left m [])) → ReadSparesFiles config d (left m []) known → IsReady config d m

-- where nothing is pending, nothing is lost
pub none_lost : (m now : LogMap) → LosesSome m [] now → now ≡ m
none_lost m now loses = loses.2 ∙ ap (λ (l : List LogRecordValue). taken m l) (take-nil loses.0)

-- what an open makes of the files
found : (config : Config) (d : Disk) (m : LogMap) (is : ModelLog → Type 0) → IsReady config d m → FollowsFiles {C = Unit {0}} config d (Open 0) Done is → is (running m [])
found config d m is (at_rest known) follows =
    let (next, answer, at) = follows (resting m) known tt in
    subst is answer at
found config d m is (left_so known spared) follows =
    let (next, answer, at) = follows (left m []) known spared in
    subst (λ (n : LogMap). is (running n [])) (none_lost m answer.0 answer.1) (subst is answer.2 at)

-- an engine that runs hasn't failed
alive : (home : LogDirectories) (e : EngineState) (m : LogMap) → Represents home e m [] → has_failed e ≡ false
alive home e m h =
    let one : e.pipes.append.failed ≡ false = h.runs.append.alive in
    let other : e.pipes.rewrite.failed ≡ false = h.runs.rewrite.alive in
    rw (one, other) refl

-- a close that succeeds is proper
pub proper : (v : LogPipes) (r : Result (Unit {0}) Error) (d : Disk) → (is_failed v ≡ false → ClosesAs v r d) → (is_failed v ≡ true → r ≡ Err errors.Failed) → is_ok r ≡ true → ClosesProperly v d
proper v (Ok done) d value fails is =
    answered_closes_are_proper v d done (value (false_from_ne_true (is_failed v) (λ failed_so. let clash : Ok done ≡ Err errors.Failed = fails failed_so in cc)))
proper v (Err error) d value fails is = absurd (false≢true is)

module _ {F : Type 0} (disk : F → Disk) (tells : F → List ℕ → ℕ → Type 0) (laws : LivesFollowTheModel disk tells) (config : Config) where
  -- An open, by any settings that name the directories; changes and a read after it.

  pub opened : (settings : Config) (old : F) (m : LogMap) (e : EngineState) → home_of settings ≡ home_of config → IsReady config (disk old) m → Opens disk tells settings old e → Represents (home_of config) e m []
  opened settings old m e named ready o =
      let here = found config (disk old) m (IsEngineLog (home_of config) (shows o.pipes o.tables o.cache)) ready ((laws.opens config settings named old).done 0 o.pipes o.tables o.cache o.empty o.opens) in
      subst (λ (x : EngineState). Represents (home_of config) x m []) (sym o.is) here

  pub changed : (settings : Config) (old : F) (m : LogMap) (cs : List KeyChange) (e : EngineState) → home_of settings ≡ home_of config → IsReady config (disk old) m → OpensAndChanges disk tells settings cs old e
      → Represents (home_of config) e (taken m (map said_by cs)) []
  changed settings old m cs e named ready o = o.done (home_of config) m (opened settings old m o.opened named ready o.opens)

  pub told : (settings : Config) (old : F) (m : LogMap) (g : ℕ) (k : List ℕ) (value : Option (List ℕ)) → home_of settings ≡ home_of config → IsReady config (disk old) m → Loads disk tells settings g k old value → StandsUnder m g k value
  told settings old m g k value named ready o = o.done.exact (home_of config) m [] (opened settings old m o.opened named ready o.opens)

  -- A crash.

  module _ (e : EngineState) (image : F) (is : IsImage e.pipes.disk (disk image)) where
    abbrev Leaves : LogMap → List LogRecordValue → Type 0
    Leaves m pending = (now : LogMap) × LosesSome m pending now × Rests config (disk image) now

    leaves : (m : LogMap) (pending : List LogRecordValue) → (next : ModelLog) × ((now : LogMap) × LosesSome m pending now × (next ≡ resting now)) × IsFilesLog config (disk image) next → Leaves m pending
    leaves m pending (next, answer, at) = (answer.0, answer.1, subst (IsFilesLog config (disk image)) answer.2 at)

    -- whichever the engine's log is
    pub crashed_as : (m : LogMap) (pending : List LogRecordValue) (log : ModelLog) → IsOpenWith m pending log → (known : IsEngineLog (home_of config) e log) → CrashSparesEngine (home_of config) e log known (disk image) → Leaves m pending
    crashed_as m pending log (inl same) =
        subst (λ (l : ModelLog). (known : IsEngineLog (home_of config) e l) → CrashSparesEngine (home_of config) e l known (disk image) → Leaves m pending) (sym same)
        (λ known spared. leaves m pending (laws.crashes config e image tt is (running m pending) known spared))
    crashed_as m pending log (inr same) =
        subst (λ (l : ModelLog). (known : IsEngineLog (home_of config) e l) → CrashSparesEngine (home_of config) e l known (disk image) → Leaves m pending) (sym same)
        (λ known spared. leaves m pending (laws.crashes config e image tt is (failed m pending) known spared))

    -- where nothing is pending
    pub crashed_whole : (m : LogMap) (log : ModelLog) → IsOpenWith m [] log → (known : IsEngineLog (home_of config) e log) → CrashSparesEngine (home_of config) e log known (disk image) → IsReady config (disk image) m
    crashed_whole m log has known spared =
        let (now, loses, at) = crashed_as m [] log has known spared in
        at_rest (subst (λ (n : LogMap). Rests config (disk image) n) (none_lost m now loses) at)

    pub crashed : (m : LogMap) → Represents (home_of config) e m [] → LeavesNoChance (home_of config) e.pipes (disk image) → IsReady config (disk image) m
    crashed m h spared = crashed_whole m (running m []) (inl refl) h spared

  -- A close, and any end.

  pub closed_well : (e : EngineState) (m : LogMap) (d : Disk) → IsSound e.pipes.disk → Represents (home_of config) e m [] → ClosesProperly e.pipes d → IsReady config d m
  closed_well e m d sound h closes = at_rest (rests (laws.closes (home_of config) e m [] d sound h closes).rests)

  pub ended : {C : Type 0} (ending : Ending C) (e : EngineState) (m : LogMap) (next : F) → Represents (home_of config) e m [] → (ends : Ends ending e (disk next)) → EndsWithoutChance (home_of config) ending e (disk next) ends
      → IsReady config (disk next) m
  ended (Crash what) e m next h is chance = crashed e next is m h chance
  ended Close e m next h (true, c) chance = closed_well e m (disk next) c.before h (c.proper refl)
  ended Close e m next h (false, c) chance =
      let closes = c.held (alive (home_of config) e m h) in
      left_so (closed.left (home_of config) e m (disk next) h closes) (closed.spared (home_of config) e m (disk next) h closes c.after chance)
