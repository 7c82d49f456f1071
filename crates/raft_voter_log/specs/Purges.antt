-- What a purge does to the voters of a store in a simulated run, and why it fails. `u` says what a purge may do. `old`
-- is the store before the purge, and `new` the store after it. `shows` gives the state of a store's engine.
use Rattle.std.specs.Prelude.{◌≡◌, ◌⊎◌, true, List, Some}
use Rattle.raft_log_fs.specs.Causes.{Fails}
use Rattle.raft_log_file_settings.specs.declared.config.Config.{Config}
use Rattle.raft_log_record_base.specs.declared.errors.Error.{Error}
use Rattle.raft_voter_durability_laws.specs.raft_log_engine_laws.specs.EngineState.{LogDirectories, EngineState, has_failed}
use Rattle.raft_log_recovery_laws.specs.ByCalls.{home_of}
use Rattle.raft_voter.specs.declared.service.Cause.{Cause}
use Rattle.raft_voter.specs.declared.service.Cause.TheVariants.{Failed}
use Rattle.raft_voter.specs.Rounds.{World}
use Rattle.raft_voter.specs.Service.{IsOpenAt, Service}
use Rattle.raft_voter_durability_laws.specs.Standing.{IsLeftWith, Keeps}
use Rattle.raft_voter_world.specs.declared.event.Event.{Event}
use Rattle.raft_voter_world.specs.declared.faults.Purge.{Purge}
use Rattle.raft_voter_world.specs.declared.report.WorldReport.{WorldReport}
use Rattle.raft_voter_world.specs.declared.storage.Storage.{Storage}
use Rattle.raft_voter_world.specs.declared.storage.Storage.TheVariants.{Open}
use Rattle.raft_voter_world.specs.Cuts.{ServeSome}
use Rattle.raft_voter_world.specs.History.Change.{purges}
use Rattle.raft_voter_world.specs.History.Moment.{kept}
use Rattle.raft_voter_world.specs.Run.{IsRun, moments_of}
use Rattle.raft_voter_world.specs.Stores.{Disk, Upkeep}
use Rattle.raft_voter_world.specs.Causes.{IsOfRun}
use Rattle.raft_voter_log.specs.Causes.{cause_of}
use Rattle.raft_voter_log.specs.StoreCauses.{VotersHaveReason}

-- A purge that succeeds doesn't change the voters that the log stores. After a purge that fails, there are two cases.
-- Either the log still stores the same voters. Or the store has failed, a file call failed in the purge, and the
-- store's files can be opened with exactly these voters.
pub record PurgesKeepOrFail {S : Type 0} (u : Upkeep S) (shows : S → EngineState) : Type 0 where
  pub answered : (home : LogDirectories) (V : World) (purge : Purge) (old new : S) → Keeps home (shows old) V
      → u.purges purge old new → Keeps home (shows new) V
  pub refused : (home : LogDirectories) (V : World) (purge : Purge) (cause : Cause) (old new : S) → Keeps home (shows old) V
      → u.refuses purge cause old new
      → Keeps home (shows new) V
      ⊎ ((has_failed (shows new) ≡ true) × Fails (shows old).pipes.disk (shows new).pipes.disk
      × IsLeftWith home (shows new).pipes.disk V)

-- Suppose a store's log stores voters, and a purge of it fails with a cause. Then this is the cause of some error that
-- has one of the reasons in `VotersHaveReason`.
abbrev pub RefusedPurgesHaveReasons : {S : Type 0} → Upkeep S → (S → EngineState) → Type 0
RefusedPurgesHaveReasons {S} u shows = (home : LogDirectories) (V : World) (purge : Purge) (cause : Cause) (old new : S)
    → Keeps home (shows old) V → u.refuses purge cause old new
    → (error : Error) × (cause ≡ cause_of error) × VotersHaveReason home V error (shows old) (shows new)

-- A purge of an open store failed with `cause`. `at` is the store before the purge, and `now` the store after it.
-- Either the store had failed before, and the cause is `Failed`. Or it served voters, and the cause is that of an error
-- with one of the reasons in `VotersHaveReason`.
pub record WasRefusedFor {S F : Type 0} (v : Service S) (config : S → Config) (shows : S → EngineState) (cause : Cause)
    (at now : Storage S F) : Type 0 where
  pub old : S
  pub new : S
  pub before : at ≡ Open old
  pub behind : now ≡ Open new
  pub why : ((cause ≡ Failed) × (has_failed (shows old) ≡ true))
      ⊎ ((W : World) × IsOpenAt v old W
      × ((error : Error) × (cause ≡ cause_of error)
      × VotersHaveReason (home_of (config old)) W error (shows old) (shows new)))

-- Suppose that in a run, each store whose voters were read at its open served the voters of some world. Then each
-- failed purge of the run was as `WasRefusedFor` says.
abbrev pub RunsRefuseForReasons : {S F : Type 0} → Service S → Upkeep S → Disk S F → (S → Config) → (S → EngineState) → Type 0
RunsRefuseForReasons {S} {F} v u d config shows = (files : F) (events : List Event) (report : WorldReport F)
    → (run : IsRun v u d files events report) → ServeSome v (moments_of run.turns)
    → (purge : Purge) (cause : Cause) (at now : Storage S F)
    → IsOfRun v u d files events report run (kept (purges purge (Some cause)) now) at
    → WasRefusedFor v config shows cause at now
