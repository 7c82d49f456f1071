-- What the example of a builder of pipes reads.
use Rattle.std.specs.Prelude.{◌≡◌, List}
use Rattle.raft_log_record_base.specs.declared.pipe_log.LogQueue.{LogQueue}
use Rattle.raft_log_fs.specs.Disk.{Disk}
use Rattle.raft_log_file_settings.specs.declared.config.Config.{Config}
use Rattle.raft_log_replay.specs.Machines.{Batch}
use Rattle.raft_log_recovery.specs.Recovering.{RecoversLog}
use Rattle.raft_log_recovery.specs.Scanning.{ScansLog}
use Rattle.raft_log_recovery.specs.declared.builder.DualPipesBuilder.{DualPipesBuilder}

-- A scan found the files of the log with the settings `config`. The replay machine `append` has read Append's files,
-- and `rewrite` those of Rewrite. Damaged files were truncated. `old` and `new` are the disk before and after.
pub record ReadsInto {M : Type 0} (reads : LogQueue → List Batch → M → Type 0) (config : Config)
    (append rewrite : M) (old new : Disk) : Type 0 where
  pub begun : DualPipesBuilder
  pub has : begun.config ≡ config
  pub found : DualPipesBuilder
  pub scanned : Disk
  pub scans : ScansLog begun found old scanned
  pub recovered : DualPipesBuilder
  pub recovers : RecoversLog reads append rewrite found recovered scanned new
