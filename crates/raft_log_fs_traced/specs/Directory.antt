-- The disk of a file system over a device, and how its calls fail.
use Rattle.std.specs.Prelude.{◌≡◌, ◌⊎◌, ℕ, true, false, None, List, Result, Ok}
use Rattle.std.specs.Result.{IfErr, OnOk, MatchResult}
use Rattle.std.specs.declared.io.ErrorKind.{ErrorKind}
use Rattle.raft_log_fs.specs.Disk.{Disk}
use Rattle.raft_log_fs.specs.Calls.{IsToldAtStop, counted, at_stop}
use Rattle.raft_log_fs.specs.Arguments.{WrongHandle, WrongWriter, WrongListing, IsAfterStop}
use Rattle.raft_log_fs.specs.declared.handle.Handle.{Handle}
use Rattle.raft_log_fs.specs.declared.handle.Permission.TheVariants.{ReadWrite}
use Rattle.raft_log_fs_state.specs.Storage.{contents_of}
use Rattle.raft_log_fs_traced.specs.Device.{Trace}
use Rattle.raft_log_fs_traced.specs.Following.{shown}
use Rattle.raft_log_fs_traced.specs.declared.device.Device as device
use Rattle.raft_log_fs_traced.specs.declared.directory.DirectoryFileSystem.{DirectoryFileSystem}

-- the disk with `failures` as the count of failures, and `kinds` as the errors that were returned for them
abbrev pub with_failures : ℕ → List ErrorKind → Disk → Disk
with_failures failures kinds d = record d { failures = failures; kinds = kinds }

-- the count of failures has no room for one more: it is 2^64 - 1
abbrev pub CountIsFull : Disk → Type 0
CountIsFull d = d.failures ≡ 18446744073709551615

-- A failure of this kind was counted, and `error` is its kind. Or the count of failures had no room for it: then the
-- file system stopped, and `error` is the one for a stop at this kind. Nothing else changed.
abbrev pub FailsOnce : ErrorKind → ErrorKind → Disk → Disk → Type 0
FailsOnce kind error old new = ((error ≡ kind) × (new ≡ counted error old))
    ⊎ (IsToldAtStop kind error × CountIsFull old × (new ≡ at_stop old))

-- `result` is what a call returns after the device call `made`: the same value if that succeeded, otherwise the error
-- of a stop
abbrev pub IsToldOf : {T : Type 0} → Result T ErrorKind → Result T ErrorKind → Type 0
IsToldOf made result =
    MatchResult made (λ v. result ≡ Ok v) (λ kind. IfErr result (IsToldAtStop kind) × OnOk result ⊥)

-- the error of a call that needs a directory at `path`: the file system has stopped, or it runs and there is none
abbrev pub LacksDirectory : List ℕ → Disk → ErrorKind → Type 0
LacksDirectory path d error = IsAfterStop d error ⊎ ((d.stopped ≡ false) × WrongListing path d error)

-- the error of a call that needs the handle's file: the file system has stopped, or it runs and the file was deleted
abbrev pub LacksFile : Handle → Disk → ErrorKind → Type 0
LacksFile handle d error = IsAfterStop d error ⊎ ((d.stopped ≡ false) × WrongHandle handle d error)

-- The error of a call that writes. The file system has stopped, or it runs and the handle's file was deleted or is open
-- only for reading.
abbrev pub LacksWriter : Handle → Disk → ErrorKind → Type 0
LacksWriter handle d error = IsAfterStop d error ⊎ ((d.stopped ≡ false) × WrongWriter handle d error)

module _ {D : Type 0} (g : device.Ghosts D) where
  -- the disk of a file system over a device
  abbrev pub disk_of : DirectoryFileSystem D g → Disk
  disk_of system = shown (g.trace system.device) system.stopped system.failures system.kinds.told

  -- the trace of a file system's device: what the device had when it was opened, and the calls made on it since
  abbrev pub calls_of : DirectoryFileSystem D g → Trace
  calls_of system = g.trace system.device

  -- the file system runs, and its disk is the one of its model in memory, except for the count of failures and their
  -- kinds
  pub record Runs (system : DirectoryFileSystem D g) : Type 0 where
    pub running : system.stopped ≡ false
    pub same : disk_of system
        ≡ with_failures system.failures system.kinds.told (contents_of system.storage)

  -- the file system runs, and there is a directory at `path`
  pub record RunsWithDirectory (path : List ℕ) (system : DirectoryFileSystem D g) : Type 0 where
    pub runs : Runs system
    pub there : (contents_of system.storage).directories path ≡ true

  -- the file system runs, and the handle's file exists
  pub record RunsWithFile (handle : Handle) (system : DirectoryFileSystem D g) : Type 0 where
    pub runs : Runs system
    pub there : (contents_of system.storage).files handle.file ≡ None → ⊥

  -- the file system runs, the handle's file exists, and the handle may write
  pub record RunsWithWriter (handle : Handle) (system : DirectoryFileSystem D g) : Type 0 where
    pub file : RunsWithFile handle system
    pub writes : handle.permission ≡ ReadWrite
