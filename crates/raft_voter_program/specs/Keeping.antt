-- The files that a session leaves to keep, and the exit status if they are kept in a real directory. `old` and `new`
-- are the bytes that the writer has before and after, `None` if they aren't known.
use Rattle.std.specs.Prelude.{◌≡◌, ◌⊎◌, ℕ, List, [], ◌++◌, Option, None, Some, false, string_bytes}
use Rattle.std.specs.Option.{option_map}
use Rattle.raft_log_fs.specs.Disk.{Disk}
use Rattle.raft_log_fs_memory.specs.Memory.{disk_of}
use Rattle.raft_log_directory_copies.specs.Copies.{AreGathered}
use Rattle.raft_log_directory_copies.specs.declared.stored_file.StoredFile.{StoredFile}
use Rattle.raft_voter_log.specs.declared.files.LogFiles.{LogFiles}
use Rattle.raft_voter_session.specs.Told.{SessionContent}
use Rattle.raft_voter_program.specs.Leaving.{EndsLeaving}

-- `files` are all files in `directory`, with their bytes; none if the directory doesn't exist
abbrev pub AreFilesIn : Disk → List ℕ → List StoredFile → Type 0
AreFilesIn d directory files =
    AreGathered files directory d ⊎ ((d.directories directory ≡ false) × (files ≡ []))

-- `files` are all files in the log's second directory; none if it has no second one
abbrev pub AreSpilled : Disk → Option (List ℕ) → List StoredFile → Type 0
AreSpilled d None files = files ≡ []
AreSpilled d (Some directory) files = AreFilesIn d directory files

-- `kept` are the files in the log's main directory, and then those in its second one, the settings' `spill-dir`
pub record AreKept (log : LogFiles) (kept : List StoredFile) : Type 0 where
  pub main : List StoredFile
  pub spilled : List StoredFile
  pub first : AreFilesIn (disk_of log.files) (string_bytes log.config.dir) main
  pub second : AreSpilled (disk_of log.files) (option_map string_bytes log.config.spill_dir) spilled
  pub whole : kept ≡ main ++ spilled

-- `status` is the exit status of a program whose session had the status `told`. The two are the same if there were no
-- files to keep. If there were, the exit status may be 3 instead, which says that keeping them failed.
abbrev pub IsToldOrUnkept : Option LogFiles → ℕ → ℕ → Type 0
IsToldOrUnkept None told status = status ≡ told
IsToldOrUnkept (Some files) told status = (status ≡ told) ⊎ (status ≡ 3)

-- the session ended, and `status` is that of the session; if it left files to keep, `status` may be 3 instead, which
-- says that keeping them failed
abbrev pub EndsKept :
    (Option LogFiles → SessionContent → List ℕ → ℕ → Type 0)
    → List ℕ → Option (List ℕ) → Option (List ℕ) → ℕ → Type 0
EndsKept Writes input old new status = (left : Option LogFiles) × (told : ℕ)
    × EndsLeaving Writes left input old new told × IsToldOrUnkept left told status
