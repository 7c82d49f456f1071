-- How the record of calls encodes a call to the operating system: its kind, a file, an offset or a size, and a path or
-- bytes.
use Rattle.std.specs.Prelude.{ℕ, List, slice_index, ◌==◌, if◌then◌else◌}
use Rattle.raft_log_fs.specs.Disk.{Wrote, ShortenedTo, GrewTo}
use Rattle.raft_log_fs_traced.specs.Device.{DeviceCall, Created, Deleted, MadeDirectory, SyncedDirectory, Changed, Undone, Synced, WroteBack}

-- the call with this number as its kind; `file`, `number` (an offset or a size) and `text` (a path or bytes) are its
-- arguments
abbrev pub call_of_kind : ℕ → ℕ → ℕ → List ℕ → DeviceCall
call_of_kind kind file number text =
    if kind == 0 then Created text file
    else (if kind == 1 then Deleted text
    else (if kind == 2 then MadeDirectory text
    else (if kind == 3 then SyncedDirectory text
    else (if kind == 4 then Changed file (Wrote number text)
    else (if kind == 5 then Changed file (ShortenedTo number)
    else (if kind == 6 then Changed file (GrewTo number)
    else (if kind == 7 then Synced file
    else (if kind == 8 then WroteBack file number text
    else (if kind == 9 then Undone file (Wrote number text)
    else Undone file (GrewTo number))))))))))

-- the call that three numbers (its kind, a file, and an offset or a size) and `text` (a path or bytes) encode
abbrev pub call_of : List ℕ → List ℕ → DeviceCall
call_of numbers text =
    call_of_kind (slice_index numbers 0) (slice_index numbers 1) (slice_index numbers 2) text
