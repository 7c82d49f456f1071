-- The last file of a queue after a stop: how far it is read, and what the queue is afterwards.
use Rattle.std.specs.Prelude.{◌≡◌, ℕ, ◌+◌, Option, Some, None, List, [], length}
use Rattle.raft_log_fs.specs.Disk.{File}
use Rattle.raft_log_file_writer.specs.LawsChains.{Written, Reads, spelled}
use Rattle.raft_log_file_writer.specs.LogFormat.{Format, HasHeader}
use Rattle.raft_log_file_writer.specs.LogQueue.{LogFiles, recent}

-- The file with number `n` was read. `Some end`: it has a header, and its header and whole records end at this offset.
-- `None`: it begins with no header.
abbrev pub IsReadTo : {R : Type 0} → Format R → ℕ → Option ℕ → File → Type 0
IsReadTo {R} F n (Some end) file = (header : List ℕ) × (ws : List (Written R))
    × HasHeader F header file.content × Reads (F.IsFrame n header) (length header) ws file.content
    × (end ≡ length header + length (spelled ws))
IsReadTo F n None file = (header : List ℕ) → HasHeader F header file.content → ⊥

-- The queue after its last file was read. This file has `header`, all its records are durable, and `stale` are its
-- stale bytes.
abbrev pub reread : {R : Type 0} → List ℕ → List ℕ → LogFiles R → LogFiles R
reread header stale q =
    record q { header = header; stale = stale; durable = recent q; pending = [] }
