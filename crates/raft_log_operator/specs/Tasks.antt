-- What a task of the command-line tool does to a disk.
use Rattle.std.specs.Prelude.{◌≡◌, ℕ, false, List, String, string_bytes}
use Rattle.std.specs.Option.{option_map}
use Rattle.std.specs.declared.alloc.Global.{Global}
use Rattle.raft_log_fs.specs.Disk.{Disk}
use Rattle.raft_log_file_settings.specs.Settings.{Settings, default_settings, directories_of}
use Rattle.raft_log_offline.specs.Forks.{FailsToFork, Forks}
use Rattle.raft_log_record_base.specs.declared.pipe_log.FileId.{FileId}
use Rattle.raft_log_open.specs.Unpadding.{FailsToUnpad, Unpads}
use Rattle.raft_log_command_line.specs.declared.command.Task.{Task}
use Rattle.raft_log_command_line.specs.declared.command.Task.TheVariants.{Fork, Unpad}
use Rattle.raft_log_operator.specs.declared.fault.CommandFault.{CommandFault}
use Rattle.raft_log_operator.specs.declared.fault.CommandFault.TheVariants.{Log, Output}
use Rattle.raft_log_command_line.specs.declared.place.Place.{Place}

-- the default settings for a log in these directories, except that no file is recycled
abbrev pub kept_settings : Place → Settings
kept_settings place = record default_settings {
  dir = string_bytes place.directory;
  spill_dir = option_map string_bytes place.spill_directory;
  enable_log_recycle = false;
}

-- the log in these directories was copied into the directory `target`
abbrev pub Copies : Place → String Global → Disk → Disk → Type 0
Copies place target old new =
    (copied : List (List ℕ)) × Forks (kept_settings place) (string_bytes target) copied old new

-- Why copying the log failed. `Log`: making the copy failed. `Output`: the log was copied, and writing the output
-- failed.
abbrev pub FailsToCopy : Place → String Global → CommandFault → Disk → Disk → Type 0
FailsToCopy place target (Log error) old new = FailsToFork (kept_settings place) (string_bytes target) error old new
FailsToCopy place target (Output _) old new = Copies place target old new
FailsToCopy place target _ old new = ⊥

-- in the log of these directories, the files that have padding were rewritten without it
abbrev pub TakesPadding : Place → Disk → Disk → Type 0
TakesPadding place old new =
    (written : List FileId) × Unpads (directories_of (kept_settings place)) written old new

-- Why removing the padding failed. `Log`: rewriting the files failed. `Output`: they were rewritten, and writing the
-- output failed.
abbrev pub FailsToTakePadding : Place → CommandFault → Disk → Disk → Type 0
FailsToTakePadding place (Log error) old new = FailsToUnpad (directories_of (kept_settings place)) error old new
FailsToTakePadding place (Output _) old new = TakesPadding place old new
FailsToTakePadding place _ old new = ⊥

-- what a task did to the disk if it succeeded: only `Fork` and `Unpad` change it
abbrev pub Does : Place → Task → Disk → Disk → Type 0
Does place (Fork target) old new = Copies place target old new
Does place Unpad old new = TakesPadding place old new
Does place _ old new = new ≡ old

-- what a task did to the disk if it failed with this fault: only `Fork` and `Unpad` may change it
abbrev pub FailsToDo : Place → Task → CommandFault → Disk → Disk → Type 0
FailsToDo place (Fork target) fault old new = FailsToCopy place target fault old new
FailsToDo place Unpad fault old new = FailsToTakePadding place fault old new
FailsToDo place _ fault old new = new ≡ old
