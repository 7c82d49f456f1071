-- On any disk, a pipe writes to the file that it lists as the active one, and this file then has what was written.
use Rattle.std.specs.Prelude.{◌≡◌, List, ℕ}
use Rattle.raft_log_fs.specs.Disk.{Disk}
use Rattle.raft_log_fs.specs.Touching.{HasFile}
use Rattle.raft_log_record_base.specs.declared.pipe_log.LogQueue.{LogQueue}
use Rattle.raft_log_record_base.specs.declared.pipe_log.FileBlockHandle.{FileBlockHandle}
use Rattle.raft_log_record_base.specs.declared.pipe_log.LogFileContext.{LogFileContext}
use Rattle.raft_log_file_format.specs.declared.header.LogFileFormat.{LogFileFormat}
use Rattle.raft_log_file_writer.specs.Reader.{AreBytesAt}
use Rattle.raft_log_active_file.specs.Layout.{FilePaths}
use Rattle.raft_log_file_pipe.specs.Appending.{context_of}
use Rattle.raft_log_file_pipe.specs.Doing.{AppendsBy, OpensPipeBy, TurnsPipeBy}
use Rattle.raft_log_file_pipe.specs.declared.found_files.FoundFiles.{FoundFiles}
use Rattle.raft_log_file_pipe.specs.declared.new_files.NewFiles.{NewFiles}
use Rattle.raft_log_file_pipe.specs.declared.pipe_files.PipeFiles.{PipeFiles}

-- the pipe's writer has the handle of the file that the pipe lists as the active one
abbrev pub WritesItsLast : PipeFiles → Type 0
WritesItsLast files = files.writer.handle ≡ files.active.handle

-- the active file has the bytes of the record that an append wrote, at the location that the append returned
abbrev pub StandsAt : LogQueue → (LogFileContext → List ℕ) → PipeFiles → FileBlockHandle → Disk → Type 0
StandsAt queue signed files block d = (block.id ≡ record { queue = queue; seq = files.active.seq })
    × HasFile files.active.handle.file
    (AreBytesAt block.offset block.len (signed (context_of queue files))) d

-- On any disk, a pipe's writer has the active file open after an open and after a rotation. If the writer has the
-- active file open before an append, it has it open after the append too. The active file then has the record at the
-- location that was returned.
pub record PipesWriteTheirLast (paths : FilePaths) : Type 0 where
  pub opened : (format : LogFileFormat) (found : FoundFiles) (files : PipeFiles) (old new : Disk)
      → OpensPipeBy paths format found files old new → WritesItsLast files
  pub turned : (format : LogFileFormat) (before after : PipeFiles) (old new : Disk)
      → TurnsPipeBy paths format before after old new → WritesItsLast after
  pub appended : (begin : NewFiles) (queue : LogQueue) (signed : LogFileContext → List ℕ)
      (before after : PipeFiles) (block : FileBlockHandle) (old new : Disk) → WritesItsLast before
      → AppendsBy paths begin queue signed before after block old new
      → WritesItsLast after × StandsAt queue signed after block new
