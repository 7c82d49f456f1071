-- Opening a log at rest step by step: the contents that the engine then has, and what an open that fails leaves.
use Rattle.std.specs.Prelude.{ℕ, ◌<◌, List, [], length}
use Rattle.raft_log_fs.specs.Disk.{Disk}
use Rattle.raft_log_fs.specs.Image.{IsSound}
use Rattle.raft_log_file_settings.specs.declared.config.Config.{Config}
use Rattle.raft_log_engine_laws.specs.raft_log_memtables.specs.declared.mem_tables.MemTables.{MemTables}
use Rattle.raft_log_dual_pipes.specs.OnDisk.{IsDurableAs}
use Rattle.raft_log_dual_pipes.specs.Pipes.{LogPipes, LogRecordValue}
use Rattle.raft_log_engine_laws.specs.EngineState.{log_in, LogDirectories, LogMap}
use Rattle.raft_log_engine_laws.specs.Holding.{IsRecoverableAs}
use Rattle.raft_log_recovery_laws.specs.Left.{IsCrashOf, RestsAfterSome}
use Rattle.raft_log_recovery_laws.specs.Opened.{HoldsFresh}
use Rattle.raft_log_recovery_laws.specs.ByCalls.{home_of, ForAllNaming, OpensByCalls}
use Rattle.raft_log_recovery_laws.specs.RefusedByCalls.{FailsToOpenByCalls}

-- If the open succeeds, the engine's log has the contents `m`, with nothing pending. If it fails or is abandoned, the
-- log's files can be opened with the contents `m`. `d` is the disk before the open.
pub record OpensByCallsAs {F : Type 0} (disk : F → Disk) (tells : F → List ℕ → ℕ → Type 0) (config : Config)
    (d : Disk) (m : LogMap) : Type 0 where
  pub answered : (v : LogPipes) (tables : MemTables) → OpensByCalls disk tells config d v tables
      → HoldsFresh (home_of config) v tables m
  pub refused : (new : Disk) → FailsToOpenByCalls disk tells config d new → IsRecoverableAs (home_of config) new m []

-- Opening a log that is at rest with the contents `m`, step by step, gives these contents. If the open fails, the log's
-- files can be opened with them.
abbrev pub RestingLogsOpenByCalls : {F : Type 0} → (F → Disk) → (F → List ℕ → ℕ → Type 0) → Type 0
RestingLogsOpenByCalls disk tells = (config : Config) (d : Disk) (m : LogMap) → IsSound d
    → IsDurableAs (log_in (home_of config)) d m → OpensByCallsAs disk tells config d m

-- Opening a crash image of what an engine left, step by step, gives the contents `m` after a prefix of the pending
-- batches. The prefix is the same for all settings that name the directories. This requires that there is no CRC
-- collision.
abbrev pub CrashedLogsOpenByCalls : {F : Type 0} → (F → Disk) → (F → List ℕ → ℕ → Type 0) → Type 0
CrashedLogsOpenByCalls disk tells = (home : LogDirectories) → 0 < length home.append → 0 < length home.rewrite
    → (d image : Disk) (m : LogMap) (pending : List LogRecordValue) → IsSound image
    → (left : IsRecoverableAs home d m pending) → IsCrashOf home left.1.lies.state d image
    → RestsAfterSome home image m pending
    (λ now. ForAllNaming home (λ config. OpensByCallsAs disk tells config image now))
