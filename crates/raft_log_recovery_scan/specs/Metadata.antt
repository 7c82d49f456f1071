-- The disk after a recovery has cleared the metadata that the file system kept for files deleted before.
use Rattle.std.specs.Prelude.{◌≡◌}
use Rattle.raft_log_fs.specs.Disk.{Disk}
use Rattle.raft_log_fs.specs.Causes.{IsLater}

-- no file, name or directory changed; file system calls may have failed, and the file system may have stopped
pub record ChangesNoFile (old new : Disk) : Type 0 where
  pub rest : new ≡ record old { stopped = new.stopped; failures = new.failures; kinds = new.kinds }
  pub later : IsLater old new
