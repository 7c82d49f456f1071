-- A purge of a run keeps the voters, or a file call failed in it, and it tells why it is refused.
use Rattle.std.proofs.Common.{◌≡◌, ◌⊎◌, ◌∙◌, ℕ, Bool, true, false, [], Option, Some, inl, inr, refl, sym, ap, subst}
use Rattle.raft_log_fs.specs.Causes.{Fails}
use Rattle.raft_log_fs_memory.specs.declared.memory.MemoryFileSystem.{MemoryFileSystem}
use Rattle.raft_log_file_settings.specs.declared.config.Config.{Config}
use Rattle.raft_log_record_base.specs.declared.errors.Error.{Error}
use Rattle.raft_log_record_base.specs.declared.errors.Error.TheVariants as errors
use Rattle.raft_voter_durability_laws.specs.raft_log_engine_laws.specs.Settled.{HoldsSettled}
use Rattle.raft_voter_durability_laws.specs.raft_log_engine_laws.specs.raft_log_dual_pipes.specs.Pipes.{LogPipes}
use Rattle.raft_voter_durability_laws.specs.raft_log_engine_laws.specs.EngineState.{LogDirectories, EngineState, has_failed}
use Rattle.raft_voter_durability_laws.specs.raft_log_engine_laws.proofs.Public.{settled_held}
use Rattle.raft_log_engine.specs.raft_log_engine_core.specs.declared.engine.LogEngine.{LogEngine}
use Rattle.raft_log_recovery_laws.specs.ByCalls.{home_of}
use Rattle.raft_voter_outline.specs.State.{State}
use Rattle.raft_voter.specs.Rounds.{World}
use Rattle.raft_voter.specs.Service.{IsOpenAt, Service}
use Rattle.raft_voter.specs.declared.service.Cause.{Cause}
use Rattle.raft_voter.specs.declared.service.Cause.TheVariants.{FileSystem, Memory, Failed, TooLong}
use Rattle.raft_voter_durability_laws.specs.Calls.{KeepsOrLeaves}
use Rattle.raft_voter_durability_laws.specs.Standing.{IsLeftWith, Keeps}
use Rattle.raft_voter_durability_laws.proofs.Public.{purges_keep_voters}
use Rattle.raft_voter_store.specs.Service.{service_in}
use Rattle.raft_voter_world.specs.declared.faults.Purge.{Purge}
use Rattle.raft_voter_world.specs.declared.faults.Purge.TheVariants.{Expired, RewriteAppend, RewriteRewrite}
use Rattle.raft_voter_world.specs.declared.storage.Storage.{Storage}
use Rattle.raft_voter_world.specs.declared.storage.Storage.TheVariants.{Open}
use Rattle.raft_voter_world.specs.History.{EndsPurge, Moment}
use Rattle.raft_voter_world.specs.History.Change.{purges}
use Rattle.raft_voter_world.specs.History.Moment.{kept}
use Rattle.raft_voter_world.specs.Stores.{Disk, Upkeep}
use Rattle.raft_voter_world.specs.Causes.{IsOfRun, WasPurged}
use Rattle.raft_voter_world.proofs.Public.{each_purge_has_its_cause, stores_of_runs_serve}
use Rattle.raft_voter_log.specs.Causes.{cause_of, purge_cause}
use Rattle.raft_voter_log.specs.Instance.{PurgesLog, StopsPurgeAs, log_upkeep}
use Rattle.raft_voter_log.specs.StoreCauses.{StopsPurge, VotersHaveReason}
use Rattle.raft_voter_log.proofs.Causing.{failed_purges_have_failed, purges_tell_causes}
use Rattle.raft_voter_log.specs.Purges.{PurgesKeepOrFail, RefusedPurgesHaveReasons, RunsRefuseForReasons}

abbrev KeepsOrFails : LogDirectories → World → EngineState → EngineState → Type 0
KeepsOrFails home V s t = Keeps home t V ⊎ ((has_failed t ≡ true) × Fails s.pipes.disk t.pipes.disk × IsLeftWith home t.pipes.disk V)

-- where it was refused
ended : (home : LogDirectories) (V : World) (s t : EngineState) (error : Error) → Keeps home s V → StopsPurge s t error → (error ≡ errors.Failed → has_failed t ≡ true) → KeepsOrLeaves home error t V → KeepsOrFails home V s t
ended home V s t error keeps stops tells (inl keeping) = inl keeping
ended home V s t error keeps stops tells (inr (is, left)) = inr (tells is, failed_purges_have_failed home V s t error keeps stops (tells is), left)

stopped : (home : LogDirectories) (V : World) (s t : EngineState) (error : Error) → Keeps home s V → StopsPurge s t error → KeepsOrFails home V s t
stopped home V s t error keeps (inl (inl had)) = inl (subst (λ (u : EngineState). Keeps home u V) (sym had.2) keeps)
stopped home V s t error keeps (inl (inr fails)) =
    ended home V s t error keeps (inl (inr fails)) (fails.1.tells fails.0).1 (purges_keep_voters.refused home V error s t keeps fails.1.remains)
stopped home V s t error keeps (inr (inl had)) = inl (subst (λ (u : EngineState). Keeps home u V) (sym had.2) keeps)
stopped home V s t error keeps (inr (inr fails)) =
    ended home V s t error keeps (inr (inr fails)) (fails.1.tells fails.0).1 (purges_keep_voters.refused home V error s t keeps fails.1.remains)

-- where it was answered
settled : (home : LogDirectories) (V : World) (s t : EngineState) (keeps : Keeps home s V) → HoldsSettled home t keeps.map → Keeps home t V
settled home V s t keeps holds = record { map = keeps.map; holds = settled_held home t keeps.map holds; means = keeps.means }

answered : {P : Type 0} (held : LogPipes → Option ℕ → Type 0) (home : LogDirectories) (V : World) (purge : Purge) (old new : LogEngine P) (s t : EngineState) → Keeps home s V → PurgesLog held purge old new s t → Keeps home t V
answered held home V Expired old new s t keeps (groups, purged) = purges_keep_voters.answered home V s t keeps purged.purges.holds
answered held home V RewriteAppend old new s t keeps rewrites = settled home V s t keeps (rewrites.settles home keeps.map [] keeps.holds)
answered held home V RewriteRewrite old new s t keeps rewrites = settled home V s t keeps (rewrites.settles home keeps.map [] keeps.holds)

-- of a refused one it is known of which kind it was
stops_of : (purge : Purge) (s t : EngineState) (error : Error) → StopsPurgeAs purge s t error → StopsPurge s t error
stops_of Expired s t error stops = inl stops
stops_of RewriteAppend s t error stops = inr stops
stops_of RewriteRewrite s t error stops = inl stops

-- an engine that keeps voters hasn't failed
alive : (home : LogDirectories) (V : World) (s : EngineState) → Keeps home s V → has_failed s ≡ false
alive home V s keeps =
    let one : s.pipes.append.failed ≡ false = keeps.holds.runs.append.alive in
    let other : s.pipes.rewrite.failed ≡ false = keeps.holds.runs.rewrite.alive in
    rw (one, other) refl

-- so it is of a store on a log
module _ {S P : Type 0} (files : S → MemoryFileSystem) (held : LogPipes → Option ℕ → Type 0) (engine : S → LogEngine P) (shows : S → EngineState) where
  pub purges_keep_or_fail : PurgesKeepOrFail (log_upkeep files held engine shows) shows
  purges_keep_or_fail = record {
    answered = λ home V purge old new keeps purged. answered held home V purge (engine old) (engine new) (shows old) (shows new) keeps purged;
    refused = λ home V purge cause old new keeps why. stopped home V (shows old) (shows new) why.0 keeps (stops_of purge (shows old) (shows new) why.0 why.2);
  }

  pub refused_purges_have_reasons : RefusedPurgesHaveReasons (log_upkeep files held engine shows) shows
  refused_purges_have_reasons home V purge cause old new keeps why = (
    why.0,
    why.1 ∙ ap (λ (b : Bool). purge_cause b why.0) (alive home V (shows old) keeps),
    purges_tell_causes home V (shows old) (shows new) why.0 keeps (stops_of purge (shows old) (shows new) why.0 why.2),
  )

-- so it is of each purge of a run, whose store had failed before or served voters
module _ {S F : Type 0} (config : S → Config) (u : Upkeep S) (shows : S → EngineState) (outlines : S → ℕ → State) (d : Disk S F) (have_reasons : RefusedPurgesHaveReasons u shows) where
  abbrev v : Service S
  v = service_in (λ s. home_of (config s)) shows outlines

  -- of voters that an open store serves
  abbrev HasReason : Cause → S → S → Type 0
  HasReason cause old new = (W : World) × IsOpenAt v old W × ((error : Error) × (cause ≡ cause_of error) × VotersHaveReason (home_of (config old)) W error (shows old) (shows new))

  has_reason : (purge : Purge) (cause : Cause) (old new : S) → u.refuses purge cause old new → (W : World) × IsOpenAt v old W → HasReason cause old new
  has_reason purge cause old new refuses (W, at) = (W, at, have_reasons (home_of (config old)) W purge cause old new at.serves.0 refuses)

  why : (purge : Purge) (cause : Cause) (old new : S) → EndsPurge v u purge (Some cause) old new → (has_failed (shows old) ≡ false → (W : World) × IsOpenAt v old W)
      → ((cause ≡ Failed) × (has_failed (shows old) ≡ true)) ⊎ HasReason cause old new
  why purge FileSystem old new ends serves = inr (has_reason purge FileSystem old new ends.0 (serves ends.1))
  why purge Memory old new ends serves = inr (has_reason purge Memory old new ends.0 (serves ends.1.0))
  why purge Failed old new ends serves = inl (refl, ends.1.0)
  why purge TooLong old new ends serves = absurd ends.1

  pub runs_refuse_for_reasons : RunsRefuseForReasons v u d config shows
  runs_refuse_for_reasons first events report run serve purge cause at now among =
      let was : WasPurged v u purge (Some cause) at now = each_purge_has_its_cause v u d first events report run purge (Some cause) at now among in
      let moment : Moment S F = kept (purges purge (Some cause)) now in
      let of_it : IsOfRun v u d first events report run moment (Open was.old) = subst (λ (x : Storage S F). IsOfRun v u d first events report run moment x) was.before among in
      record {
        old = was.old;
        new = was.new;
        before = was.before;
        behind = was.behind;
        why = why purge cause was.old was.new was.ends (λ alive. stores_of_runs_serve v u d first events report run serve moment was.old of_it alive);
      }
