-- What the examples of one pipe do. `before` and `after` are the pipe's files, `old` and `new` the disk.
use Rattle.std.specs.Prelude.{ℕ, List}
use Rattle.raft_log_record_base.specs.declared.pipe_log.FileBlockHandle.{FileBlockHandle}
use Rattle.raft_log_record_base.specs.declared.pipe_log.LogFileContext.{LogFileContext}
use Rattle.raft_log_fs.specs.Disk.{Disk}
use Rattle.raft_log_file_writer.specs.LogFormat.{Format}
use Rattle.raft_log_active_file.specs.Layout.{FilePaths}
use Rattle.raft_log_file_format.specs.Header.{header_bytes}
use Rattle.raft_log_file_pipe.specs.Appending.{AppendsAt}
use Rattle.raft_log_file_pipe.specs.Exits.{Rotates, SyncsPipe}
use Rattle.raft_log_file_pipe.specs.Purging.{Purges}
use Rattle.raft_log_file_pipe.specs.declared.pipe_files.PipeFiles.{PipeFiles}
use Rattle.raft_log_file_pipe.specs.declared.single_pipe.PipeSettings.{PipeSettings}

-- a record was appended at `place`, signed for its file, and then the pipe was synced
pub record Saves {R : Type 0} (F : Format R) (own : List ℕ → Type 0) (paths : FilePaths)
    (settings : PipeSettings) (signed : LogFileContext → List ℕ) (before after : PipeFiles)
    (place : FileBlockHandle) (old new : Disk) : Type 0 where
  pub between : Disk
  pub written : AppendsAt F own paths settings.new_files settings.queue signed before after place old between
  pub synced : SyncsPipe F own paths after between new

-- the pipe rotated, and then all files before the active one left its live range
pub record KeepsLastAlone {R : Type 0} (F : Format R) (own : List ℕ → Type 0) (paths : FilePaths)
    (settings : PipeSettings) (before after : PipeFiles) (old new : Disk) : Type 0 where
  pub middle : PipeFiles
  pub between : Disk
  pub turned : Rotates F own paths (header_bytes settings.new_files.format) before middle old between
  pub purged : Purges F own paths settings.capacity middle.active.seq middle after between new
