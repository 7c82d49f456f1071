-- Which bytes a log has at each location: those that were written there as the file's header and records. Below, `q` is
-- a queue, `s` and `t` are logs on disks, and `v` is what the memtables show of each group.
use Rattle.std.specs.Prelude.{◌≡◌, ℕ, ◌+◌, ◌-◌, ◌≤◌, Bool, true, false, cond, List, [], ◌∷◌, ◌++◌, length, take, drop, IsOk}
use Rattle.std.proofs.Common.{nat_eq}
use Rattle.raft_log_model_laws.specs.Groups.{Map}
use Rattle.raft_log_fs.specs.Disk.{Disk}
use Rattle.raft_log_file_writer.specs.LogQueue.{LogFiles}
use Rattle.raft_log_record_base.specs.declared.pipe_log.FileBlockHandle.{FileBlockHandle}
use Rattle.raft_log_record_frames.specs.Record.{block_of}
use Rattle.raft_log_active_file.specs.Queue.{past_bytes, settled, synced, whole}
use Rattle.raft_log_file_pipe.specs.Files.{Listed}
use Rattle.raft_log_file_pipe.specs.Reading.{IsReadAt}
use Rattle.raft_log_file_pipe.specs.declared.pipe_files.PipeFiles.{PipeFiles}
use Rattle.raft_log_machine_laws.specs.Calls.{Which}
use Rattle.raft_log_dual_pipes.specs.Queues.{QueueLayout, IsQueueLayout}
use Rattle.raft_log_dual_pipes.specs.State.{LogOnDisk, RunsQueue, Spanned, spanned_at}
use Rattle.raft_log_dual_pipes.specs.Steps.{next_log}
use Rattle.raft_log_dual_pipes.specs.Turning.{HasTaken, IsCutBack, IsOrGoesOn}
use Rattle.raft_log_extents.specs.declared.place.Place.{Place}
use Rattle.raft_log_memtable_index.specs.Shown.{Shown}
use Rattle.raft_log_memtable_index.specs.Bridge.{Located, located}
use Rattle.raft_log_memtables.specs.Views.{AreMeant}

-- `P` holds for each element of the list
abbrev pub Each : {A : Type 0} → (A → Type 0) → List A → Type 0
Each P [] = Unit {0}
Each P (x ∷ xs) = P x × Each P xs

-- all bytes that were written to the queue's file `n`: its header and its records
abbrev pub file_bytes : {R : Type 0} → LogFiles R → ℕ → List ℕ
file_bytes q n = cond (nat_eq n q.last) (whole q) (past_bytes (q.older n))

-- `len` bytes of `bytes`, from `offset` on
abbrev pub part : ℕ → ℕ → List ℕ → List ℕ
part offset len bytes = take len (drop offset bytes)

-- file `n` is in the queue's live range, and `len` bytes from `offset` on are inside what was written to it
pub record BlockLiesIn {R : Type 0} (q : Spanned R) (n offset len : ℕ) : Type 0 where
  pub first : q.first ≤ n
  pub last : n ≤ q.files.last
  pub inside : offset + len ≤ length (file_bytes q.files n)

-- the `len` bytes that were written to file `n` from `offset` on
abbrev pub block_at : {R : Type 0} → LogFiles R → ℕ → ℕ → ℕ → List ℕ
block_at q n offset len = part offset len (file_bytes q n)

-- the bytes of the entry at location `p`: its offset and length count within its block
abbrev pub entry_at : {R : Type 0} → LogFiles R → Place → List ℕ
entry_at q p = part p.entry_offset p.entry_len (block_at q p.file p.offset p.len)

-- The location `p` is that of an entry that was written to queue `q`. Its block was written to a file of the live
-- range, with a right checksum. The entry ends before that checksum.
pub record EntryLiesIn {R : Type 0} (q : Spanned R) (p : Place) : Type 0 where
  pub block : BlockLiesIn q p.file p.offset p.len
  pub whole : IsOk (block_of (block_at q.files p.file p.offset p.len))
  pub entry : p.entry_offset + p.entry_len ≤ p.len - 4

-- Append if the flag is true, else Rewrite
abbrev pub queue_in : {R : Type 0} → LogOnDisk R → Bool → Spanned R
queue_in s true = s.append
queue_in s false = s.rewrite

-- the bytes that were written to the log at the location of an entry
abbrev pub entries_at : {R : Type 0} → LogOnDisk R → Located → List ℕ
entries_at s l = entry_at (queue_in s l.appended).files l.place

-- the location is that of an entry that was written to the live range of its queue
abbrev pub IsStored : {R : Type 0} → LogOnDisk R → Located → Type 0
IsStored s l = EntryLiesIn (queue_in s l.appended) l.place

-- each location that the tables have for an entry is that of an entry that was written to the live range of its queue
abbrev pub AreStored : {R : Type 0} → LogOnDisk R → (ℕ → Shown) → Type 0
AreStored s v = (g : ℕ) → Each (IsStored s) (located (v g).rewritten (v g).places)

-- `p` has at least the files of `q`, and each file of `q` has the same bytes in `p`, perhaps with more after them
pub record KeepsBytes {R : Type 0} (q p : LogFiles R) : Type 0 where
  pub last : q.last ≤ p.last
  pub files : (n : ℕ) → n ≤ q.last → (more : List ℕ) × (file_bytes p n ≡ file_bytes q n ++ more)

-- The bytes that were written to a queue's files stay through an append, the truncation of a failed append, a rotation
-- and a sync. They also stay if nothing is done, and through several such steps.
pub record CallsKeepBytes (R : Type 0) : Type 0 where
  pub same : (q : LogFiles R) → KeepsBytes q q
  pub later : (q p r : LogFiles R) → KeepsBytes q p → KeepsBytes p r → KeepsBytes q r
  pub turned : (header : List ℕ) (kept : List Listed) (d : Disk) (q p : LogFiles R)
      → IsOrGoesOn header kept d q p → KeepsBytes q p
  pub taken : (header : List ℕ) (kept : List Listed) (d : Disk) (q p : LogFiles R)
      → HasTaken header kept d q p → KeepsBytes q p
  pub cut_back : (header : List ℕ) (kept : List Listed) (d : Disk) (q p : LogFiles R)
      → IsCutBack header kept d q p → KeepsBytes q p
  pub synced : (q : LogFiles R) → KeepsBytes q (synced q)
  pub settled : (q : LogFiles R) → KeepsBytes q (settled q)

-- From `s` to `t`, the files of both queues keep the bytes that were written to them. Neither live range begins at a
-- later file than before.
pub record KeepsLog {R : Type 0} (s t : LogOnDisk R) : Type 0 where
  pub append : KeepsBytes s.append.files t.append.files
  pub rewrite : KeepsBytes s.rewrite.files t.rewrite.files
  pub append_first : t.append.first ≤ s.append.first
  pub rewrite_first : t.rewrite.first ≤ s.rewrite.first

-- if a call on one queue keeps the bytes that were written to the queue's files, the log after the call (`next_log`)
-- keeps its bytes
abbrev pub CallsKeepLog : Type 0 → Type 0
CallsKeepLog R = (which : Which) (s : LogOnDisk R) (files : LogFiles R) (d : Disk)
    → KeepsBytes (spanned_at which s).files files → KeepsLog s (next_log which s files d)

-- If the log keeps its bytes from `s` to `t`, entries that the tables show stay in the log at their locations. If the
-- tables and the bytes of `s` gave the contents `m`, the tables and the bytes of `t` give them too.
abbrev pub StoredEntriesStay : Type 0 → Type 0
StoredEntriesStay R = (s t : LogOnDisk R) → KeepsLog s t → (v : ℕ → Shown) → AreStored s v
    → AreStored t v × ((m : Map (List ℕ) (List ℕ)) → AreMeant (entries_at s) v m → AreMeant (entries_at t) v m)

-- A pipe runs over the queue `q`, and a block's location is inside what was written to `q`. If a read of this location
-- succeeds, it returns the bytes that were written there.
abbrev pub StoredBlockIsRead : {R : Type 0} → QueueLayout R → Type 0
StoredBlockIsRead {R} layout = IsQueueLayout layout → (files : PipeFiles) (q : Spanned R) (d : Disk)
    → RunsQueue layout files q d → (block : FileBlockHandle)
    → BlockLiesIn q block.id.seq block.offset block.len → (bytes : List ℕ) → IsReadAt files block bytes d
    → bytes ≡ block_at q.files block.id.seq block.offset block.len
