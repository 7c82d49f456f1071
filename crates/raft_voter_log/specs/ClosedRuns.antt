-- Runs in which stores are closed and opened again, and closed logs are copied. Two events need no premise on CRC
-- collisions: a close in which no file call fails, and a crash of a running store that only loses writes. `v` says what
-- the store promises of its rounds, `u` what it promises of purges and armed faults, and `d` what it promises of its
-- files. `config` gives an open store's settings, and `shows` the state of its engine.
use Rattle.std.specs.Prelude.{◌≡◌, false, List, [], ◌∷◌, ◌++◌}
use Rattle.raft_log_fs.specs.Causes.{Fails}
use Rattle.raft_log_fs.specs.Disk.{Disk as OnDisk}
use Rattle.raft_log_fs_memory.specs.Memory.{disk_of}
use Rattle.raft_log_file_settings.specs.declared.config.Config.{Config}
use Rattle.raft_voter_durability_laws.specs.raft_log_engine_laws.specs.EngineState.{EngineState, has_failed}
use Rattle.raft_log_recovery_laws.specs.Bare.{IsBare}
use Rattle.raft_voter.specs.Rounds.{Explains}
use Rattle.raft_voter.specs.Service.{Service}
use Rattle.raft_voter_world.specs.declared.event.Event.{Event}
use Rattle.raft_voter_world.specs.declared.report.WorldReport.{WorldReport}
use Rattle.raft_voter_world.specs.declared.storage.Storage.{Storage}
use Rattle.raft_voter_world.specs.declared.storage.Storage.TheVariants.{Closed, Open}
use Rattle.raft_voter_world.specs.Cuts.{NoneLost, ServeSome}
use Rattle.raft_voter_world.specs.History.{Moment}
use Rattle.raft_voter_world.specs.History.Change.{closes, purges, arms, copies}
use Rattle.raft_voter_world.specs.History.Moment.{opened, crashed, kept, answered, cut_off, idle}
use Rattle.raft_voter_world.specs.Run.{IsRun, moments_of}
use Rattle.raft_voter_world.specs.Stores.{Disk, Upkeep}
use Rattle.raft_voter_log.specs.declared.files.LogFiles.{LogFiles}
use Rattle.raft_voter_log.specs.Sessions.{OnlyLoses}

-- A running store was closed, which left disk `d`, and no file call failed in the close.
pub record ClosesUndisturbed (s : EngineState) (d : OnDisk) : Type 0 where
  pub runs : has_failed s ≡ false
  pub calm : Fails s.pipes.disk d → ⊥

-- What may happen in these moments, the events of a run with their results:
-- - Stores are opened, serve rounds, are purged, have faults armed under them, are closed, and crash.
-- - Each open succeeds, and its voters are read.
-- - Each close is undisturbed (`ClosesUndisturbed`). Only the last moment may be any close.
-- - A crash under an open store finds a store that hasn't failed, and only loses writes.
-- - While no store is open, faults may be armed, the log copied, and any crash happen. Each round is cut off.
abbrev pub ClosesOrLoses : {S : Type 0} → (S → Config) → (S → EngineState) → Storage S LogFiles
    → List (Moment S LogFiles) → Type 0
ClosesOrLoses config shows storage [] = Unit {0}
ClosesOrLoses config shows (Closed files) (opened workers store voters place now ∷ ms) =
    ClosesOrLoses config shows (Open now) ms
ClosesOrLoses config shows (Open store) (answered round now ∷ ms) = ClosesOrLoses config shows (Open now) ms
ClosesOrLoses config shows (Open store) (cut_off round cause now ∷ ms) = ClosesOrLoses config shows (Open now) ms
ClosesOrLoses config shows (Open store) (kept (purges purge refusal) (Open now) ∷ ms) =
    ClosesOrLoses config shows (Open now) ms
ClosesOrLoses config shows (Open store) (kept (arms fault) (Open now) ∷ ms) =
    ClosesOrLoses config shows (Open now) ms
ClosesOrLoses config shows (Open store) (kept closes (Closed files) ∷ []) = Unit {0}
ClosesOrLoses config shows (Open store) (kept closes (Closed files) ∷ m ∷ ms) =
    ClosesUndisturbed (shows store) (disk_of files.files) × ClosesOrLoses config shows (Closed files) (m ∷ ms)
ClosesOrLoses config shows (Open store) (crashed gone left ∷ ms) =
    OnlyLoses (config store) (shows store) (disk_of left.files) × ClosesOrLoses config shows (Closed left) ms
ClosesOrLoses config shows (Closed files) (crashed gone left ∷ ms) = ClosesOrLoses config shows (Closed left) ms
ClosesOrLoses config shows (Closed files) (kept (arms fault) (Closed now) ∷ ms) =
    ClosesOrLoses config shows (Closed now) ms
ClosesOrLoses config shows (Closed files) (kept (copies target refusal) (Closed now) ∷ ms) =
    ClosesOrLoses config shows (Closed now) ms
ClosesOrLoses config shows (Closed files) (idle round now ∷ ms) = ClosesOrLoses config shows (Closed now) ms
ClosesOrLoses config shows storage ms = ⊥

-- Suppose a run has only moments as in `ClosesOrLoses`, and starts from files without a log. Then each store that it
-- opens serves voters of some world, and no open loses voters. Voters that never fail give exactly the replies in its
-- transcript.
abbrev pub ClosedRunsAskNothing : {S : Type 0} → Service S → Upkeep S → Disk S LogFiles → (S → Config) → (S → EngineState) → Type 0
ClosedRunsAskNothing {S} v u d config shows = (first : LogFiles) (events : List Event) (report : WorldReport LogFiles)
    → (run : IsRun v u d first events report) → IsBare first.config (disk_of first.files)
    → ClosesOrLoses config shows (Closed first) (moments_of run.turns ++ run.closing)
    → ServeSome v (moments_of run.turns) × NoneLost (moments_of run.turns ++ run.closing)
    × Explains report.transcript.rounds report.cuts
