-- What a crash may leave of a file after a change of it found no space and was undone.
use Rattle.std.specs.Prelude.{ℕ, List, length, ◌↔◌}
use Rattle.raft_log_fs.specs.Disk.{Change, ShortenedTo, File}
use Rattle.raft_log_fs.specs.Image.{IsLeft, IsSoundFile}
use Rattle.raft_log_fs.specs.Calls.{with_change}
use Rattle.raft_log_fs_traced.specs.Device.{undone_change}

-- For a change that was tried and undone, the trace's disk lists only the change (`undone_change`). On the device more
-- was done: the change left some `content`, and then the file was truncated to its old length. By either description, a
-- crash may leave the same bytes.
abbrev pub UndoneIsAsCut : Type 0
UndoneIsAsCut = (file : File) (change : Change) (content bytes : List ℕ) → IsSoundFile file
    → IsLeft (undone_change change file) bytes
    ↔ IsLeft (with_change (ShortenedTo (length file.content)) file.content (with_change change content file)) bytes
