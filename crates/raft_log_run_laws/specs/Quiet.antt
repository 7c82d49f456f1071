-- Runs of a log in which no crash can replace written bytes by others. Such runs need no premise on CRC collisions.
use Rattle.std.specs.Prelude.{◌≡◌, List, [], ◌∷◌, false}
use Rattle.std.specs.String.{string_bytes}
use Rattle.raft_log_engine.specs.raft_log_fs.specs.Image.{IsImage, IsSound}
use Rattle.raft_log_engine.specs.raft_log_engine_laws.specs.EngineState.{has_failed, said_of}
use Rattle.raft_log_record_batches.specs.Batch.{Batch}
use Rattle.raft_log_recovery_laws.specs.ByCalls.{home_of}
use Rattle.raft_log_recovery_laws.specs.Closed.{ClosesProperly}
use Rattle.raft_log_recovery_laws.specs.ForkResting.{HoldsNoDirectory}
use Rattle.raft_log_world.specs.declared.event.Answer.{Answer}
use Rattle.raft_log_world.specs.declared.event.Answer.TheVariants.{Done, Idle}
use Rattle.raft_log_world.specs.declared.event.Event.{Event}
use Rattle.raft_log_world.specs.declared.event.Event.TheVariants.{Arm, Close, Crash, Fork, Open as OpenEvent, Serve}
use Rattle.raft_log_world.specs.declared.report.LogReport.{LogReport}
use Rattle.raft_log_world.specs.declared.storage.Storage.{Storage}
use Rattle.raft_log_world.specs.declared.storage.Storage.TheVariants.{Closed, Open}
use Rattle.raft_log_world.specs.Explained.{Explains}
use Rattle.raft_log_world.specs.Logs.{Stands}
use Rattle.raft_log_world.specs.Model.{ModelLog}
use Rattle.raft_log_world.specs.Model.ModelLog.{resting}
use Rattle.raft_log_world.specs.Reads.{Contents}
use Rattle.raft_log_world.specs.Run.{IsLogRun, Moment}
use Rattle.raft_log_world_engine.specs.Instance.{IsFilesLog, Parts, engine_log}
use Rattle.raft_voter_log.specs.Chance.{LosesWrites}

-- The event leads from `at` to `now`, and is quiet:
-- - A call of an engine, and a fault that is armed in its file system, may end in any way.
-- - An engine that crashes hasn't failed, and the crash only loses writes.
-- - A close of an engine on a sound disk succeeds and is proper. The settings of its files name the engine's
--   directories.
-- - An open succeeds.
-- - A copy succeeds, and no directory in its target has the name of a log file.
-- - A crash of files leaves an image of them.
-- - A call or a close without an engine changes nothing.
abbrev pub IsQuiet : {S G C : Type 0} → Parts S G → Storage S G → Event Batch C → Answer → Storage S G → Type 0
IsQuiet p (Open e) (Serve call) answer (Open now) = Unit {0}
IsQuiet p (Open e) (Arm fault) answer (Open now) = Unit {0}
IsQuiet p (Open e) (Crash what) Done (Closed now) =
    (has_failed (p.shows e) ≡ false) × LosesWrites (home_of (p.config e)) (p.shows e).pipes (p.disk now)
IsQuiet p (Open e) Close Done (Closed now) = IsSound (p.shows e).pipes.disk
    × ClosesProperly (p.shows e).pipes (p.disk now) × (home_of (p.settings now) ≡ home_of (p.config e))
IsQuiet p (Closed files) (OpenEvent workers) Done (Open now) = Unit {0}
IsQuiet p (Closed files) (Fork target) Done (Closed now) = HoldsNoDirectory (string_bytes target) (p.disk files)
IsQuiet p (Closed files) (Crash what) Done (Closed now) = IsImage (p.disk files) (p.disk now)
IsQuiet p (Closed files) (Serve call) Idle now = now ≡ Closed files
IsQuiet p (Closed files) Close Idle now = now ≡ Closed files
IsQuiet p at event answer now = ⊥

-- each of these moments is quiet
abbrev pub AllQuiet : {S G C : Type 0} → Parts S G → Storage S G → List (Moment S G Batch C) → Type 0
AllQuiet p at [] = Unit {0}
AllQuiet p at (m ∷ ms) = IsQuiet p at m.event m.answer m.now × AllQuiet p m.now ms

-- Suppose that a run begins with files that are a log at rest with the contents `m`, and each moment is quiet. Then the
-- model explains the report's answers, without a premise on CRC collisions. The engine or the files at the end are the
-- log `last` that the model has become.
abbrev pub QuietRunsAskNothing : {S G : Type 0} → Type 0 → Parts S G → Type 0
QuietRunsAskNothing {S} {G} C p = (files : G) (events : List (Event Batch C)) (report : LogReport S G)
    → (run : IsLogRun (engine_log p) files events report) → (m : Contents)
    → IsFilesLog (p.settings files) (p.disk files) (resting m) → AllQuiet p (Closed files) run.moments
    → (last : ModelLog) × Explains said_of (resting m) events report.answers.items last
    × Stands {C = C} (engine_log p) report.storage last
