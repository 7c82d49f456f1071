-- Runs over a log in which running stores crash, by the bytes that the crashes leave. `v` says what the store promises
-- of its rounds, `u` what it promises of purges and armed faults, and `d` what it promises of its files. `config` gives
-- an open store's settings, and `shows` the state of its engine.
use Rattle.std.specs.Prelude.{◌≡◌, ◌⊎◌, false, List, [], ◌∷◌, ◌++◌}
use Rattle.raft_log_fs.specs.Disk.{Disk as OnDisk}
use Rattle.raft_log_fs_memory.specs.Memory.{disk_of}
use Rattle.raft_log_file_settings.specs.declared.config.Config.{Config}
use Rattle.raft_voter_durability_laws.specs.raft_log_engine_laws.specs.EngineState.{EngineState, has_failed, log_in}
use Rattle.raft_log_recovery_laws.specs.Bare.{IsBare}
use Rattle.raft_log_recovery_laws.specs.ByCalls.{home_of}
use Rattle.raft_voter.specs.Rounds.{Explains}
use Rattle.raft_voter.specs.Service.{CutRound, Service}
use Rattle.raft_voter_store.specs.Service.{LeavesAt}
use Rattle.raft_voter_world.specs.declared.event.Event.{Event}
use Rattle.raft_voter_world.specs.declared.report.WorldReport.{WorldReport}
use Rattle.raft_voter_world.specs.declared.storage.Storage.{Storage}
use Rattle.raft_voter_world.specs.declared.storage.Storage.TheVariants.{Closed, Open}
use Rattle.raft_voter_world.specs.Cuts.{NoneLost, ServeSome}
use Rattle.raft_voter_world.specs.History.{Moment}
use Rattle.raft_voter_world.specs.History.Change.{closes, purges, arms}
use Rattle.raft_voter_world.specs.History.Moment.{opened, crashed, kept, answered, cut_off, idle}
use Rattle.raft_voter_world.specs.Run.{IsRun, moments_of}
use Rattle.raft_voter_world.specs.Stores.{Disk, Upkeep}
use Rattle.raft_voter_log.specs.declared.files.LogFiles.{LogFiles}
use Rattle.raft_voter_log.specs.Leaving.{SparesStore}
use Rattle.raft_voter_log.specs.Chance.{LeavesForeign, LosesWrites}

-- A running store crashed, and the crash only lost writes.
abbrev pub OnlyLoses : Config → EngineState → OnDisk → Type 0
OnlyLoses config s d = (has_failed s ≡ false) × LosesWrites (home_of config) s.pipes d

-- What may happen in these moments, the events of a run with their results:
-- - Stores are opened, serve rounds, are purged, have faults armed under them, and crash.
-- - Each open succeeds, and its voters are read.
-- - Each crash hits an open store that hasn't failed, and only loses writes.
-- - While no store is open, there are only opens, and rounds, each of which is cut off.
-- - Only the last moment may be a close.
abbrev pub CrashesOnlyLose : {S : Type 0} → (S → Config) → (S → EngineState) → Storage S LogFiles
    → List (Moment S LogFiles) → Type 0
CrashesOnlyLose config shows storage [] = Unit {0}
CrashesOnlyLose config shows (Closed files) (opened workers store voters place now ∷ ms) =
    CrashesOnlyLose config shows (Open now) ms
CrashesOnlyLose config shows (Open store) (answered round now ∷ ms) = CrashesOnlyLose config shows (Open now) ms
CrashesOnlyLose config shows (Open store) (cut_off round cause now ∷ ms) = CrashesOnlyLose config shows (Open now) ms
CrashesOnlyLose config shows (Open store) (kept (purges purge refusal) (Open now) ∷ ms) =
    CrashesOnlyLose config shows (Open now) ms
CrashesOnlyLose config shows (Open store) (kept (arms fault) (Open now) ∷ ms) =
    CrashesOnlyLose config shows (Open now) ms
CrashesOnlyLose config shows (Open store) (kept closes (Closed files) ∷ []) = Unit {0}
CrashesOnlyLose config shows (Open store) (crashed gone left ∷ ms) =
    OnlyLoses (config store) (shows store) (disk_of left.files) × CrashesOnlyLose config shows (Closed left) ms
CrashesOnlyLose config shows (Closed files) (idle round now ∷ ms) = CrashesOnlyLose config shows (Closed now) ms
CrashesOnlyLose config shows storage ms = ⊥

-- Suppose a run has only moments as in `CrashesOnlyLose`, and starts from files without a log. Then each store that it
-- opens serves voters of some world, and no open loses voters. Voters that never fail give exactly the replies in its
-- transcript.
abbrev pub RunsAskNothing : {S : Type 0} → Service S → Upkeep S → Disk S LogFiles → (S → Config) → (S → EngineState) → Type 0
RunsAskNothing {S} v u d config shows = (first : LogFiles) (events : List Event) (report : WorldReport LogFiles)
    → (run : IsRun v u d first events report) → IsBare first.config (disk_of first.files)
    → CrashesOnlyLose config shows (Closed first) (moments_of run.turns ++ run.closing)
    → ServeSome v (moments_of run.turns) × NoneLost (moments_of run.turns ++ run.closing)
    × Explains report.transcript.rounds report.cuts

-- Suppose a crash of a running store leaves another record right after all that was written to either queue's active
-- file. No unsynced write was asked to write that record at its offset. Then the premise on CRC collisions is false.
abbrev pub ForeignRecordsBreakPremise : Type 0
ForeignRecordsBreakPremise = (config : Config) (s : EngineState) (cut : CutRound) → has_failed s ≡ false
    → (under : LeavesAt (home_of config) s cut) → (d : OnDisk)
    → LeavesForeign (log_in (home_of config)).append.format s.pipes.append.files s.pipes.disk d
    ⊎ LeavesForeign (log_in (home_of config)).rewrite.format s.pipes.rewrite.files s.pipes.disk d
    → SparesStore (home_of config) s cut under d → ⊥
