-- What the calls of a file system in memory return and do, in more detail than the contracts of every file system.
-- `old` is the file system or the disk before the call, and `new` the one after it.
use Rattle.std.specs.Prelude.{◌≡◌, ◌⊎◌, ◌++◌, ℕ, true, false, None, List, [], ◌∷◌, Result}
use Rattle.std.specs.Result.{IfErr}
use Rattle.std.specs.declared.io.ErrorKind.{ErrorKind}
use Rattle.raft_log_fs.specs.Disk.{Change, Disk}
use Rattle.raft_log_fs.specs.Calls.{Changes, Creates, flushed}
use Rattle.raft_log_fs.specs.Arguments.{WrongHandle, WrongWriter, WrongListing, IsAfterStop}
use Rattle.raft_log_fs.specs.declared.handle.Handle.{Handle}
use Rattle.raft_log_fs.specs.declared.handle.Permission.TheVariants.{ReadWrite}
use Rattle.raft_log_fs_state.specs.declared.remainder.Remainder.{Remainder}
use Rattle.raft_log_fs_state.specs.Left.{left_disk}
use Rattle.raft_log_fs_memory.specs.declared.memory.MemoryFileSystem.{MemoryFileSystem}
use Rattle.raft_log_fs_state.specs.Order.{without_file}
use Rattle.raft_log_fs_memory.specs.Memory.{disk_of, unsynced, Kept, kept, without_named, with_moved}
use Rattle.raft_log_fs_memory.specs.Turns.{ArmedRefusalFell, ArmedPartFell, ArmedStopFell, HasSpaceFor, IsRefusedWhole, IsRefusedChange}

-- Why a call failed.

-- `result` is returned by a call that is done whole or not at all. If it is an error, the call failed as
-- `IsRefusedWhole` says. `wrong` gives the errors of wrong arguments. A call at which the file system stops may be done
-- and return an error. Then it changed the disk by `done`, and the unsynced changes are those of `order`.
abbrev pub RefusesWhole : {A : Type 0} → (Disk → ErrorKind → Type 0) → (Disk → Disk → Type 0)
    → (Kept → List (ℕ × Change)) → Result A ErrorKind → MemoryFileSystem → MemoryFileSystem → Type 0
RefusesWhole wrong done order result old new =
    IfErr result (λ error.
    IsRefusedWhole (done (disk_of old)) (order (kept old)) (wrong (disk_of old)) error old new)

-- if `result` is an error, this change of the handle's file failed as `IsRefusedChange` says
abbrev pub RefusesChange : {A : Type 0} → Handle → Change → Result A ErrorKind
    → MemoryFileSystem → MemoryFileSystem → Type 0
RefusesChange handle change result old new =
    IfErr result (λ error.
    IsRefusedChange handle.file change (WrongWriter handle (disk_of old)) error old new)

-- there is enough free space for `change` of the handle's file before the call
abbrev pub FindsSpace : Handle → Change → MemoryFileSystem → Type 0
FindsSpace handle change old = HasSpaceFor handle.file change old

-- An armed failure, full or partial, was due at this call, and nothing was done. The failure was counted, or the file
-- system stopped if the count was full.
abbrev pub HasRefused : ErrorKind → MemoryFileSystem → MemoryFileSystem → Type 0
HasRefused error old new = ArmedRefusalFell error old new ⊎ ArmedPartFell error old new

-- an armed failure or an armed stop was due at this call, and nothing was done
abbrev pub HasFallen : ErrorKind → MemoryFileSystem → MemoryFileSystem → Type 0
HasFallen error old new = HasRefused error old new ⊎ ArmedStopFell error old new

-- The unsynced changes of all files, in the order of the calls.

-- `change` of the handle's file was added as the last unsynced change of all files
abbrev pub AddsLast : Handle → Change → MemoryFileSystem → MemoryFileSystem → Type 0
AddsLast handle change old new = unsynced new ≡ unsynced old ++ (handle.file, change) ∷ []

-- the unsynced changes, as they are
abbrev pub order_of : Kept → List (ℕ × Change)
order_of old = old.unsynced

-- the unsynced changes without those of file `id`
abbrev pub order_without : ℕ → Kept → List (ℕ × Change)
order_without id old = without_file id old.unsynced

-- the unsynced changes without those of the file at `path`
abbrev pub order_without_named : List ℕ → Kept → List (ℕ × Change)
order_without_named path old = without_named (old.disk.names path) old.unsynced

-- the unsynced changes without those of the file that a rename replaces
abbrev pub order_without_replaced : List ℕ → List ℕ → Kept → List (ℕ × Change)
order_without_replaced from to old = with_moved (old.disk.names from) (old.disk.names to) old.unsynced

-- the changes of the file at `path` were removed from the unsynced ones
abbrev pub ForgetsNamed : List ℕ → MemoryFileSystem → MemoryFileSystem → Type 0
ForgetsNamed path old new = unsynced new ≡ order_without_named path (kept old)

-- the changes of the file that a rename replaced were removed from the unsynced ones
abbrev pub ForgetsReplaced : List ℕ → List ℕ → MemoryFileSystem → MemoryFileSystem → Type 0
ForgetsReplaced from to old new = unsynced new ≡ order_without_replaced from to (kept old)

-- What a call does.

-- an empty file was created at `path`, with the next number, which no file had
abbrev pub CreatesNext : List ℕ → Disk → Disk → Type 0
CreatesNext path old new = Creates path old.unused old new

-- all bytes of file `id` were synced
abbrev pub SyncsAll : ℕ → Disk → Disk → Type 0
SyncsAll id old new = Changes id flushed old new

-- What is checked before a call.

-- the file system runs, and there is a directory at `path`
abbrev pub RunsWithDirectory : List ℕ → Disk → Type 0
RunsWithDirectory path d = (d.stopped ≡ false) × (d.directories path ≡ true)

-- the error of a call that needs a directory at `path`: the file system has stopped, or it runs and there is none
abbrev pub LacksDirectory : List ℕ → Disk → ErrorKind → Type 0
LacksDirectory path d error = IsAfterStop d error ⊎ ((d.stopped ≡ false) × WrongListing path d error)

-- the file system runs, and the handle's file exists
abbrev pub RunsWithFile : Handle → Disk → Type 0
RunsWithFile handle d = (d.stopped ≡ false) × (d.files handle.file ≡ None → ⊥)

-- the error of a call that needs the handle's file: the file system has stopped, or it runs and the file was deleted
abbrev pub LacksFile : Handle → Disk → ErrorKind → Type 0
LacksFile handle d error = IsAfterStop d error ⊎ ((d.stopped ≡ false) × WrongHandle handle d error)

-- the file system runs, the handle's file exists, and the handle may write
abbrev pub RunsWithWriter : Handle → Disk → Type 0
RunsWithWriter handle d =
    (d.stopped ≡ false) × (d.files handle.file ≡ None → ⊥) × (handle.permission ≡ ReadWrite)

-- The error of a call that writes. The file system has stopped, or it runs and the handle's file was deleted or is open
-- only for reading.
abbrev pub LacksWriter : Handle → Disk → ErrorKind → Type 0
LacksWriter handle d error = IsAfterStop d error ⊎ ((d.stopped ≡ false) × WrongWriter handle d error)

-- `after` has the disk that a crash leaves of `system`; `what` chooses which unsynced changes are left
abbrev pub IsLeftOf : Remainder → MemoryFileSystem → MemoryFileSystem → Type 0
IsLeftOf what system after = disk_of after ≡ left_disk what (unsynced system) (disk_of system)
