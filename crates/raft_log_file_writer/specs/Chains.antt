-- A chain of records in a file (records without gaps between them), and what each call of the file's writer does to it.
use Rattle.std.specs.Prelude.{◌≡◌, ℕ, ◌≤◌, Bool, true, Some, List, [], ◌∷◌, ◌++◌, length, take, drop}
use Rattle.std.specs.declared.io.ErrorKind.{ErrorKind}
use Rattle.raft_log_fs.specs.Disk.{File, Disk, at_rest, zeros}
use Rattle.raft_log_fs.specs.Image.{IsLeft}
use Rattle.raft_log_file_writer.specs.LawsChains.{Written, IsSelfDelimiting, spelled}
use Rattle.raft_log_file_writer.specs.KeepsSynced.{HoldsChain, HoldsAtLeast, StandsBehind}
use Rattle.raft_log_fs.specs.Exits.{Syncs, FailsToSync}
use Rattle.raft_log_fs.specs.declared.handle.Handle.{Handle}
use Rattle.raft_log_fs.specs.declared.handle.Permission.TheVariants.{ReadWrite}
use Rattle.raft_log_fs.specs.Touching.{HasFile}
use Rattle.raft_log_file_writer.specs.declared.writer.LogFileWriter.{LogFileWriter}
use Rattle.raft_log_file_writer.specs.Writer.{IsWritten, IsDurable, WritesNext, FailsToWriteNext, Closes, FailsToClose, TakesUp, FailsToTakeUp, needs_header}

-- if a file begins with durable `bytes`, what any stop leaves of the file begins with `bytes` too
abbrev pub DurableIsLeft : Type 0
DurableIsLeft = (bytes left : List ℕ) (file : File) → IsDurable bytes file → IsLeft file left
    → take (length bytes) left ≡ bytes

-- From `start` up to the writer's offset, the file has the records `durable` and `pending`. `more` are records whose
-- writes failed. Any part of `more` may follow the offset. The file holds the chain (`HoldsChain`) of all these
-- records.
pub record IsAtEnd {R : Type 0} (IsFrame : List ℕ → R → Type 0) (start : ℕ) (stale : List ℕ)
    (durable pending more : List (Written R))
    (writer : LogFileWriter) (d : Disk) : Type 0 where
  pub bytes : List ℕ
  pub written : IsWritten writer bytes d
  pub starts : start ≤ length bytes
  pub chain : drop start bytes ≡ spelled (durable ++ pending)
  pub holds : HasFile writer.handle.file (HoldsChain IsFrame start stale durable (pending ++ more)) d

-- From the offset `from` on, the file has only bytes of `stale`, each at its old offset. The file is no shorter than
-- `stale`.
pub record HasStaleFrom (from : ℕ) (stale : List ℕ) (file : File) : Type 0 where
  pub stands : StandsBehind from stale file.content
  pub covers : length stale ≤ length file.content

-- From `start` up to the writer's offset, the file has the records `durable` and `pending`. It holds the chain of these
-- records. Only stale bytes follow the offset: no record whose write failed left a part there.
abbrev pub IsReady : {R : Type 0} → (List ℕ → R → Type 0) → ℕ → List ℕ → List (Written R) → List (Written R)
    → LogFileWriter → Disk → Type 0
IsReady IsFrame start stale durable pending writer d = IsAtEnd IsFrame start stale durable pending [] writer d
    × HasFile writer.handle.file (HasStaleFrom writer.written stale) d

-- What the calls of a writer do to a chain. A call changes the writer `before` to `after`, and disk `old` to `new`.
-- - `written`: the record that was written is the last pending one. Zeros that were allocated count as stale.
-- - `refused`: the record whose write failed counts as the last pending one. The writer's offset is unchanged.
-- - `synced`: all records are durable.
-- - `not_synced`: the durable records are still durable; a prefix of the pending ones may be durable too.
-- - `closed`: from `start` on the file has exactly the durable and pending records, all durable now. Records whose
--   write failed are gone.
-- - `not_closed`: the durable records are still durable. Records whose write failed count as pending.
pub record ChainIsWritten {R : Type 0} (IsFrame : List ℕ → R → Type 0) (start : ℕ) (stale : List ℕ)
    (durable pending : List (Written R))
    (before after : LogFileWriter) (old new : Disk) : Type 0 where
  pub written : (w : Written R) (target : ℕ) → IsFrame w.bytes w.value
      → IsReady IsFrame start stale durable pending before old
      → WritesNext before after w.bytes target old new
      → (count : ℕ) × IsReady IsFrame start (stale ++ zeros count) durable (pending ++ w ∷ []) after new
  pub refused : (w : Written R) (target : ℕ) (error : ErrorKind) → IsFrame w.bytes w.value
      → IsReady IsFrame start stale durable pending before old
      → FailsToWriteNext before after w.bytes target error old new
      → IsAtEnd IsFrame start stale durable pending (w ∷ []) after new
  pub synced : IsReady IsFrame start stale durable pending before old → Syncs before.handle old new
      → IsReady IsFrame start stale (durable ++ pending) [] before new
  pub not_synced : (error : ErrorKind) → IsReady IsFrame start stale durable pending before old
      → FailsToSync before.handle error old new
      → HasFile before.handle.file (HoldsAtLeast IsFrame start stale durable pending) new
  pub closed : (more : List (Written R)) → IsAtEnd IsFrame start stale durable pending more before old
      → Closes before after old new
      → IsReady IsFrame start [] (durable ++ pending) [] after new
  pub not_closed : (more : List (Written R)) (error : ErrorKind)
      → IsAtEnd IsFrame start stale durable pending more before old
      → FailsToClose before after error old new
      → HasFile before.handle.file (HoldsAtLeast IsFrame start stale durable (pending ++ more)) new

-- each call of a writer has the effects of `ChainIsWritten` on each chain, if the frame relation is self-delimiting
abbrev pub WriterKeepsChain : {R : Type 0} → (List ℕ → R → Type 0) → Type 0
WriterKeepsChain {R} IsFrame = IsSelfDelimiting IsFrame
    → (start : ℕ) (stale : List ℕ) (durable pending : List (Written R))
    (before after : LogFileWriter) (old new : Disk)
    → ChainIsWritten IsFrame start stale durable pending before after old new

-- a file without records: it holds the empty chain, and all its bytes are stale
pub record HoldsNothing {R : Type 0} (IsFrame : List ℕ → R → Type 0) (start : ℕ) (stale : List ℕ) (file : File)
    : Type 0 where
  pub chain : HoldsChain IsFrame start stale [] [] file
  pub only : HasStaleFrom 0 stale file

-- A file whose bytes are all synced counts as one without records (`HoldsNothing`), if all its bytes are stale. This is
-- so for a new file and for a recycled one.
abbrev pub RestHoldsNothing : {R : Type 0} → (List ℕ → R → Type 0) → Type 0
RestHoldsNothing IsFrame = (start : ℕ) (content : List ℕ)
    → HoldsNothing IsFrame start content (at_rest content)

-- How a chain begins: a file without records gets its header, and is ready for its first record. If opening the writer
-- fails, the file holds the empty chain.
pub record ChainBegins {R : Type 0} (IsFrame : List ℕ → R → Type 0) (handle : Handle)
    (header stale : List ℕ) (reset : Bool) (old new : Disk) : Type 0 where
  pub begun : (writer : LogFileWriter) → handle.permission ≡ ReadWrite
      → TakesUp handle header reset writer old new
      → (count : ℕ) × IsReady IsFrame (length header) (stale ++ zeros count) [] [] writer new
  pub refused : (error : ErrorKind) → FailsToTakeUp handle header reset error old new
      → HasFile handle.file (HoldsChain IsFrame (length header) stale [] []) new

-- if the handle's file exists, opening a writer for it writes a header: the file is to be reset, or it is shorter than
-- the header
abbrev pub GetsHeader : Handle → List ℕ → Bool → Disk → Type 0
GetsHeader handle header reset d = (file : File) → d.files handle.file ≡ Some file
    → needs_header header reset file.content ≡ true

-- `ChainBegins` holds for each file without records that gets a header
abbrev pub WriterBeginsChain : {R : Type 0} → (List ℕ → R → Type 0) → Type 0
WriterBeginsChain {R} IsFrame = (handle : Handle) (header stale : List ℕ) (reset : Bool) (old new : Disk)
    → HasFile handle.file (HoldsNothing IsFrame (length header) stale) old → GetsHeader handle header reset old
    → ChainBegins IsFrame handle header stale reset old new
