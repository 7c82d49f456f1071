-- Laws on the files of a queue after a stop. They also hold if the queue's pipe has failed.
use Rattle.std.specs.Prelude.{◌≡◌, ℕ, ◌≤◌, false, Option, List, length}
use Rattle.raft_log_fs.specs.Disk.{Disk}
use Rattle.raft_log_fs.specs.Image.{IsImage, IsSound}
use Rattle.raft_log_fs.specs.Reading.{IsOpened}
use Rattle.raft_log_fs.specs.Touching.{HasFile}
use Rattle.raft_log_fs.specs.declared.handle.Permission.TheVariants.{ReadWrite}
use Rattle.raft_log_file_writer.specs.LogFormat.{Format, CanTellFormat}
use Rattle.raft_log_file_writer.specs.LogQueue.{LogFiles, IsLeftover, kept_to, NoChanceInLast, KeepsQueue}
use Rattle.raft_log_active_file.specs.Standing.{Names, Stands}
use Rattle.raft_log_active_file.specs.Reopening.{IsReadTo}
use Rattle.raft_log_active_file.specs.Layout.{FilePaths, path_of}
use Rattle.raft_log_active_file.specs.Rotation.{StandsWithRecords}
use Rattle.raft_log_file_pipe.specs.Files.{Listed, IsSpan, AllKept, IsPipe}
use Rattle.raft_log_file_pipe.specs.Opening.{IsFound, HasOwnHeader, first_number}
use Rattle.raft_log_file_pipe.specs.declared.pipe_files.PipeFiles.{PipeFiles}

-- What is read of a pipe's queue after a stop without a CRC collision.
-- - `standing`: if a pipe runs over the queue, the queue's last file holds its records (`StandsWithRecords`).
-- - `kept`: all records of such a queue's earlier files are read. Of its last file, the durable records and a prefix of
--   the pending ones are read.
-- - `restarts`: given `CanTellFormat`, the stop leaves the queue again, with these records, all durable.
pub record PipesAreKept {R : Type 0} (F : Format R) (own : List ℕ → Type 0) (paths : FilePaths) : Type 0 where
  pub standing : (base : Disk) (files : PipeFiles) (q : LogFiles R) (d : Disk)
      → IsPipe F own paths base files q d → StandsWithRecords F own base q d
  pub kept : (base : Disk) (q : LogFiles R) (d : Disk) → StandsWithRecords F own base q d → KeepsQueue F q d
  pub restarts : CanTellFormat F → (base : Disk) (q : LogFiles R) (d image : Disk) → StandsWithRecords F own base q d
      → IsImage d image → NoChanceInLast F q d image
      → (path : List ℕ) × (id : ℕ) × (N : Names) × (count : ℕ) × (count ≤ length q.pending)
      × Stands F own image (kept_to count q) path id (IsLeftover F (kept_to count q)) N image

-- These files of a queue were found on disk `d`. The last one has `number`, is open for writing, and was read up to
-- `end`. The earlier ones have consecutive numbers up to the one before `number`, and are at their paths. The files in
-- `kept` can be recycled.
pub record AreFoundOnDisk {R : Type 0} (F : Format R) (paths : FilePaths) (earlier : List Listed) (last : Listed)
    (end : Option ℕ) (kept : List Listed) (number : ℕ) (d : Disk) : Type 0 where
  pub number_is : last.seq ≡ number
  pub listed : last.reserved ≡ false
  pub opened : IsOpened (path_of paths last) ReadWrite last.handle d
  pub read : HasFile last.handle.file (IsReadTo F number end) d
  pub headed : HasOwnHeader F end last d
  pub span : IsSpan paths d.names (first_number earlier last) earlier number
  pub spares : AllKept F paths (first_number earlier last) d kept

-- Suppose the last file of a queue `q` holds its records on a sound disk, and a stop without a CRC collision leaves
-- `image`. Given `CanTellFormat`, a pipe may be opened over the files of the queue that are found on `image`
-- (`IsFound`). The queue on `image` has the durable records and, for some `count`, the first `count` pending ones.
abbrev pub PipesAreFound : {R : Type 0} → Format R → (List ℕ → Type 0) → FilePaths → Type 0
PipesAreFound {R} F own paths = CanTellFormat F → (base : Disk) (q : LogFiles R) (d image : Disk) → IsSound d
    → StandsWithRecords F own base q d → IsImage d image → NoChanceInLast F q d image
    → (earlier : List Listed) (last : Listed) (end : Option ℕ) (kept : List Listed)
    → AreFoundOnDisk F paths earlier last end kept q.last image
    → (count : ℕ) × (count ≤ length q.pending)
    × IsFound F own paths image earlier last end kept (kept_to count q) image
