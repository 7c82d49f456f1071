-- The disk that contracts see for a file system in memory, and the unsynced changes of all its files.
use Rattle.std.specs.Prelude.{◌≡◌, ℕ, ◌+◌, ◌<◌, ◌≤◌, ◌⊎◌, Bool, true, false, suc, cond, Option, Some, None, List, [], ◌∷◌}
use Rattle.std.proofs.Common.{nat_eq, nat_lt}
use Rattle.std.specs.declared.io.ErrorKind.{ErrorKind}
use Rattle.raft_log_fs.specs.Disk.{Change, Disk}
use Rattle.raft_log_fs.specs.Calls.{IsToldAtStop, counted, at_stop}
use Rattle.raft_log_fs_memory.specs.declared.memory.MemoryFileSystem.{MemoryFileSystem}
use Rattle.raft_log_fs_state.specs.Order.{without_file}
use Rattle.raft_log_fs_state.specs.Steps.{without_replaced}
use Rattle.raft_log_fs_state.specs.Storage.{contents_of, unsynced_of}

-- whether the byte at offset `place` of file `id` is marked as unreadable
abbrev pub is_denied : List (ℕ × ℕ) → ℕ → ℕ → Bool
is_denied [] id place = false
is_denied (mark ∷ marks) id place =
    cond (nat_eq mark.0 id) (cond (nat_eq mark.1 place) true (is_denied marks id place))
    (is_denied marks id place)

-- the disk of a file system in memory
abbrev pub disk_of : MemoryFileSystem → Disk
disk_of system = record (contents_of system.storage) {
  unreadable = is_denied system.denied.items;
  stopped = system.stopped;
  failures = system.failures;
  kinds = system.kinds.told;
}

-- one of the `count` bytes of file `id` from offset `start` on is marked as unreadable
pub record HasDenied (marks : List (ℕ × ℕ)) (id start count : ℕ) : Type 0 where
  pub place : ℕ
  pub from : start ≤ place
  pub below : place < start + count
  pub denied : is_denied marks id place ≡ true

-- none of the `count` bytes of file `id` from offset `start` on is marked as unreadable
abbrev pub HasNoDenied : List (ℕ × ℕ) → ℕ → ℕ → ℕ → Type 0
HasNoDenied marks id start count =
    (place : ℕ) → start ≤ place → place < start + count → is_denied marks id place ≡ false

-- the unsynced changes of all files in the order of the calls, each with its file's node number
abbrev pub unsynced : MemoryFileSystem → List (ℕ × Change)
unsynced system = unsynced_of system.storage

-- what a file system in memory holds: its disk, and the unsynced changes of all files in the order of the calls
pub record Kept : Type 0 where
  pub disk : Disk
  pub unsynced : List (ℕ × Change)

-- what a file system in memory holds now
abbrev pub kept : MemoryFileSystem → Kept
kept system = record { disk = disk_of system; unsynced = unsynced system }

-- the count of failures at which a file system stops: 2^64 - 1
abbrev pub most_failures : ℕ
most_failures = 18446744073709551615

-- The disk after one more failure, which returned `error`. If the count would reach 2^64 - 1, the file system stops
-- instead.
abbrev pub failed_once : ErrorKind → Disk → Disk
failed_once error d = cond (nat_lt (suc d.failures) most_failures) (counted error d) (at_stop d)

-- The error of a call that fails with one more failure of this kind, as in `failed_once`. It is `kind`, or the error of
-- a stop (`IsToldAtStop`) if the file system stops instead.
abbrev pub IsToldOnce : ErrorKind → ErrorKind → Disk → Type 0
IsToldOnce kind error d = ((suc d.failures < most_failures) × (error ≡ kind))
    ⊎ ((most_failures ≤ suc d.failures) × IsToldAtStop kind error)

-- the unsynced changes without those of the file with this number; for `None`, all of them
abbrev pub without_named : Option ℕ → List (ℕ × Change) → List (ℕ × Change)
without_named None changes = changes
without_named (Some id) changes = without_file id changes

-- The unsynced changes after file `id` was renamed. `replaced` is the file that had the new path, if there was one. If
-- it is another file than `id`, its changes are gone. If there is no file to rename, nothing changes.
abbrev pub with_moved : Option ℕ → Option ℕ → List (ℕ × Change) → List (ℕ × Change)
with_moved None replaced changes = changes
with_moved (Some id) replaced changes = without_replaced id replaced changes
