-- How the files of a queue change through the calls of its pipe.
use Rattle.std.specs.Prelude.{◌≡◌, ℕ, ◌⊎◌, List, [], ◌∷◌, ◌++◌, length}
use Rattle.raft_log_fs.specs.Disk.{Disk}
use Rattle.raft_log_file_writer.specs.LawsChains.{Written, spelled}
use Rattle.raft_log_file_writer.specs.LogQueue.{LogFiles, recent, rotated}
use Rattle.raft_log_record_base.specs.declared.pipe_log.FileBlockHandle.{FileBlockHandle}
use Rattle.raft_log_record_base.specs.declared.pipe_log.LogFileContext.{LogFileContext}
use Rattle.raft_log_active_file.specs.Queue.{with_more, with_room, settled}
use Rattle.raft_log_file_pipe.specs.Files.{Listed}
use Rattle.raft_log_file_pipe.specs.Exits.{IsStaleOfNext}
use Rattle.raft_log_dual_pipes.specs.State.{Spanned}

-- `p` is the queue `q` after a rotation. The last file of `p` has this header, and zeros may be allocated after it.
-- This file is the oldest one in `kept`, with its content on the disk `d` as stale bytes. If `kept` is empty, it is a
-- new file.
abbrev pub GoesOnInNext : {R : Type 0} → List ℕ → List Listed → Disk → LogFiles R → LogFiles R → Type 0
GoesOnInNext header kept d q p = (room : ℕ) × (stale : List ℕ) × IsStaleOfNext kept d stale
    × (p ≡ with_room room (rotated header stale q))

-- `p` is the queue `q`, unchanged or after a rotation
abbrev pub IsOrGoesOn : {R : Type 0} → List ℕ → List Listed → Disk → LogFiles R → LogFiles R → Type 0
IsOrGoesOn header kept d q p = (p ≡ q) ⊎ GoesOnInNext header kept d q p

-- `r` is the queue `q` with one more record at its end. Before that record was added, the queue may have rotated, and
-- zeros may have been allocated in its last file.
abbrev pub HasTaken : {R : Type 0} → List ℕ → List Listed → Disk → LogFiles R → LogFiles R → Type 0
HasTaken {R} header kept d q r = (p : LogFiles R) × IsOrGoesOn header kept d q p × (room : ℕ)
    × (w : Written R) × (r ≡ with_more (w ∷ []) (with_room room p))

-- A record with the value `said` is the last one of the queue's last file, at the location `block`. Its bytes are those
-- that `signed` gives for some file.
pub record HasLast {R : Type 0} (signed : LogFileContext → List ℕ) (said : R) (block : FileBlockHandle)
    (q : LogFiles R) : Type 0 where
  pub context : LogFileContext
  pub front : List (Written R)
  pub last : Written R
  pub records : recent q ≡ front ++ last ∷ []
  pub value : last.value ≡ said
  pub bytes : last.bytes ≡ signed context
  pub number : block.id.seq ≡ q.last
  pub offset : block.offset ≡ length (q.header ++ spelled front)
  pub len : block.len ≡ length last.bytes

-- A record's write failed, and the part that was written was truncated away. `r` is the queue `q` with all its records
-- synced. The queue may have rotated before the write, and once more after the truncation.
abbrev pub IsCutBack : {R : Type 0} → List ℕ → List Listed → Disk → LogFiles R → LogFiles R → Type 0
IsCutBack {R} header kept d q r = (p : LogFiles R) × IsOrGoesOn header kept d q p
    × (later : List Listed) × (between : Disk) × IsOrGoesOn header later between (settled p) r

-- the queue with `files` as its files; its live range begins at the same number
abbrev pub in_span : {R : Type 0} → Spanned R → LogFiles R → Spanned R
in_span q files = record { first = q.first; files = files }
