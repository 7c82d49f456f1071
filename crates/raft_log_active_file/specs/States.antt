-- The states of a queue's last file between the file calls of a pipe. Each of them implies what a stop leaves of the
-- file.
use Rattle.std.specs.Prelude.{◌≡◌, ℕ, ◌++◌, List, [], length, take, drop}
use Rattle.raft_log_fs.specs.Disk.{File}
use Rattle.raft_log_file_writer.specs.LawsChains.{Written}
use Rattle.raft_log_file_writer.specs.KeepsSynced.{HoldsChain}
use Rattle.raft_log_file_writer.specs.LogFormat.{Format}
use Rattle.raft_log_file_writer.specs.LogQueue.{LogFiles, HeaderStands}
use Rattle.raft_log_active_file.specs.Queue.{whole}

-- The last file holds its records (`HoldsChain`). The records `more` count as pending too, as any part of them may be
-- on disk.
abbrev pub HoldsMore : {R : Type 0} → Format R → LogFiles R → List (Written R) → File → Type 0
HoldsMore F q more file = HoldsChain (F.IsFrame q.last q.header) (length q.header) q.stale q.durable
    (q.pending ++ more) file

-- The file is active: its content is its header, its records, and the stale bytes that these haven't overwritten. The
-- header is durable. `HoldsChain` says which records are durable and which are pending.
pub record IsActive {R : Type 0} (F : Format R) (q : LogFiles R) (file : File) : Type 0 where
  pub chain : HoldsChain (F.IsFrame q.last q.header) (length q.header) q.stale q.durable q.pending file
  pub headed : HeaderStands q.header file
  pub all : file.content ≡ whole q ++ drop (length (whole q)) q.stale

-- The file is as a failed write left it: it has its header and its records, and anything may follow. The record of that
-- write is in `more`, as the whole record may be on disk.
pub record IsFront {R : Type 0} (F : Format R) (q : LogFiles R) (more : List (Written R))
    (file : File) : Type 0 where
  pub chain : HoldsMore F q more file
  pub headed : HeaderStands q.header file
  pub front : take (length (whole q)) file.content ≡ whole q

-- The file was truncated after a failed write: it has exactly its header and its records. The truncation isn't synced
-- yet, so the record of that write (in `more`) still counts as pending.
pub record IsCut {R : Type 0} (F : Format R) (q : LogFiles R) (more : List (Written R))
    (file : File) : Type 0 where
  pub chain : HoldsMore F q more file
  pub headed : HeaderStands q.header file
  pub is : file.content ≡ whole q

-- the file has its number but not its header yet: its content is the stale bytes, and it holds no record
pub record IsNew {R : Type 0} (F : Format R) (q : LogFiles R) (file : File) : Type 0 where
  pub chain : HoldsChain (F.IsFrame q.last q.header) (length q.header) q.stale [] [] file
  pub is : file.content ≡ q.stale

-- The file has its number and its header, followed by the stale bytes that the header hasn't overwritten. It holds no
-- record, and the header may not be synced yet.
pub record IsHeaded {R : Type 0} (F : Format R) (q : LogFiles R) (file : File) : Type 0 where
  pub chain : HoldsChain (F.IsFrame q.last q.header) (length q.header) q.stale [] [] file
  pub is : file.content ≡ q.header ++ drop (length q.header) q.stale
