-- What a crash leaves of a log on a disk, and what a recovery may read of it. Numbered files are the log's files as the
-- model sees them: each has a number and records.
use Rattle.std.specs.Prelude.{◌≡◌, ℕ, ◌≤◌, List, [], ◌∷◌, map}
use Rattle.raft_log_model_laws.specs.Item.{Record}
use Rattle.raft_log_machine_laws.specs.Files.{LogFile}
use Rattle.raft_log_fs.specs.Disk.{Disk}
use Rattle.raft_log_fs.specs.Image.{IsImage, IsSound}
use Rattle.raft_log_file_writer.specs.LogFormat.{Format}
use Rattle.raft_log_file_writer.specs.LogQueue.{Found, NoChanceInLast, ReadsFrom}
use Rattle.raft_log_active_file.specs.Bridge.{logged}
use Rattle.raft_log_machine_laws.specs.Model.{Files}
use Rattle.raft_log_machine_laws.specs.DirectoryImages.{Readings, Allows, empty_file}
use Rattle.raft_log_dual_pipes.specs.Queues.{TwoQueues, AreTwoQueues}
use Rattle.raft_log_dual_pipes.specs.State.{LogOnDisk, HoldsBoth, Ties}

-- A crash of the log `s` may leave the log `image`. The disk of `image` is a crash image of the disk of `s`, without a
-- CRC collision in the last file of either queue. Each queue's live range begins at the same number as in `s`.
pub record IsLeftByCrash {R E V : Type 0} (log : TwoQueues R E V) (s image : LogOnDisk R) : Type 0 where
  pub disk : IsImage s.disk image.disk
  pub append : NoChanceInLast log.append.format s.append.files s.disk image.disk
  pub rewrite : NoChanceInLast log.rewrite.format s.rewrite.files s.disk image.disk
  pub append_first : image.append.first ≡ s.append.first
  pub rewrite_first : image.rewrite.first ≡ s.rewrite.first

-- `files` are the numbered files for what was found of a queue, from the file number `s` on. If nothing was found, `s`
-- is 1, and `files` are one empty file with this number.
abbrev pub IsReadAs : {R E V : Type 0} → (R → Record E V) → ℕ → List (Found R) → List (LogFile E V) → Type 0
IsReadAs says s [] files = (s ≡ 1) × (files ≡ empty_file ∷ [])
IsReadAs says s (f ∷ fs) files = files ≡ map (logged says) (f ∷ fs)

-- A recovery may begin at the file number `s`, and then reads `files`, up to the queue's last file. `s` isn't above
-- `first`, the first number of the live range.
abbrev pub MayRead : {R E V : Type 0} → (R → Record E V) → Format R → ℕ → Disk → ℕ → List (LogFile E V)
    → Type 0
MayRead {R} says F first d s files =
    (s ≤ first) × (found : List (Found R)) × ReadsFrom F d s found × IsReadAs says s found files

-- what a crash may leave of a log on a disk, and what a recovery may then read of each queue
abbrev pub readings_of : {R E V : Type 0} → TwoQueues R E V → Readings (LogOnDisk R) E V
readings_of log = record {
  leaves = λ s image. IsLeftByCrash log s image;
  rewrite = λ image s files. MayRead log.says log.rewrite.format image.rewrite.first image.disk s files;
  append = λ image s files. MayRead log.says log.append.format image.append.first image.disk s files;
}

-- After any crash of the log `s` without a CRC collision (`IsLeftByCrash`), a recovery reads the records of the
-- numbered files `f`. It reads them from the file on at which it begins. Only a suffix of each queue's unsynced records
-- may be missing.
abbrev pub AllowsIn : {R E V : Type 0} → TwoQueues R E V → LogOnDisk R → Files E V → Type 0
AllowsIn log s f = Allows (readings_of log) s f

-- Suppose that the disk is sound, and that the last file of each queue holds its records. Then a recovery after a crash
-- reads the records of the log's numbered files, as `AllowsIn` says.
abbrev pub HeldIsAllowed : {R E V : Type 0} → TwoQueues R E V → Type 0
HeldIsAllowed {R} {E} {V} log = AreTwoQueues log → (s : LogOnDisk R) (f : Files E V)
    → IsSound s.disk → HoldsBoth log s → Ties log s f → AllowsIn log s f
