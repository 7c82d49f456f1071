-- Two opens of the same `LogFiles`, with different numbers of recovery threads.
use Rattle.std.specs.Prelude.{ℕ, List}
use Rattle.raft_log_fs_memory.specs.Memory.{disk_of}
use Rattle.raft_log_fs_memory.specs.declared.memory.MemoryFileSystem.{MemoryFileSystem}
use Rattle.raft_voter_durability_laws.specs.raft_log_engine_laws.specs.EngineState.{EngineState}
use Rattle.raft_log_recovery_laws.specs.ByCalls.{home_of}
use Rattle.raft_voter_outline.specs.State.{State}
use Rattle.raft_voter.specs.Service.{CutRound}
use Rattle.raft_voter_log.specs.declared.files.LogFiles.{LogFiles}
use Rattle.raft_voter_log.specs.Instance.{OpensFiles}
use Rattle.raft_voter_log.specs.Leaving.{FilesLeave, SparesFiles}
use Rattle.raft_voter_log.specs.StoreWorkers.{AreAlike}

-- Suppose the files have voters that are possible after some round, as `FilesLeave` says, and no CRC collision. Then
-- two opens that succeed, with `workers` and with `others` recovery threads, give stores with the same voters, outlines
-- and lists of voters. `s` and `os` are of the first store, `t` and `us` of the second.
abbrev pub AnyWorkersOpenAlike : (MemoryFileSystem → List ℕ → ℕ → Type 0) → Type 0
AnyWorkersOpenAlike tells = (files : LogFiles) (cut : CutRound)
    (known : FilesLeave files.config (disk_of files.files) cut)
    → SparesFiles files.config (disk_of files.files) cut known (disk_of files.files)
    → (workers others : ℕ) (s t : EngineState) (os us : ℕ → State) → OpensFiles tells files workers s os
    → OpensFiles tells files others t us → AreAlike (home_of files.config) s t os us
