-- A reader's window: the part of a file's bytes that it keeps in memory.
use Rattle.std.specs.Prelude.{◌≡◌, ◌+◌, ◌≤◌, length, IsTrue}
use Rattle.raft_log_fs.specs.Disk.{Disk}
use Rattle.raft_log_file_reader.specs.Window.{IsPart}
use Rattle.raft_log_file_reader.specs.Source.{bytes_of}
use Rattle.raft_log_file_reader.specs.declared.source.Source.{Source}
use Rattle.raft_log_file_reader.specs.declared.window.Window.{Window}

-- `source.size` is the size of the file, and the window ends within the file. If the window's reads were honest, it has
-- the bytes that the file has from `window.start` on.
pub record HoldsPart (source : Source) (d : Disk) (window : Window) : Type 0 where
  pub size : source.size ≡ length (bytes_of source d)
  pub inside : window.start + length window.bytes.items ≤ source.size
  pub part : IsTrue window.receipt.honest → IsPart window.start window.bytes.items (bytes_of source d)
