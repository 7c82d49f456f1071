-- Why the example that saves a file fails.
use Rattle.std.specs.Prelude.{◌≡◌, ℕ, ◌⊎◌, List}
use Rattle.std.specs.declared.io.ErrorKind.{ErrorKind}
use Rattle.raft_log_fs.specs.Disk.{Disk}
use Rattle.raft_log_fs.specs.Causes.{Fails}
use Rattle.raft_log_fs.specs.Arguments.{WrongCreate}

-- Saving failed with `error`, for one of two reasons:
-- - The path is taken, or its directory doesn't exist; nothing changed.
-- - A file system call failed, or the file system has stopped.
abbrev pub FailsToSave : List ℕ → ErrorKind → Disk → Disk → Type 0
FailsToSave path error old new = (WrongCreate path old error × (new ≡ old)) ⊎ Fails old new
