-- Files are synced, one after another.
use Rattle.std.specs.Prelude.{◌≡◌, List, [], ◌∷◌, ◌++◌}
use Rattle.std.specs.declared.io.ErrorKind.{ErrorKind}
use Rattle.raft_log_fs.specs.Disk.{Disk}
use Rattle.raft_log_fs.specs.Exits.{FailsToSync, Syncs}
use Rattle.raft_log_active_file.specs.declared.format.File.{File}

-- each of these files was synced, in order
abbrev pub SyncsEach : List File → Disk → Disk → Type 0
SyncsEach [] old new = new ≡ old
SyncsEach (file ∷ files) old new =
    (mid : Disk) × Syncs file.handle old mid × SyncsEach files mid new

-- the sync of one of these files failed; the files before it were synced
pub record FailsToSyncEach (files : List File) (kind : ErrorKind) (old new : Disk) : Type 0 where
  pub before : List File
  pub file : File
  pub behind : List File
  pub split : files ≡ before ++ file ∷ behind
  pub between : Disk
  pub synced : SyncsEach before old between
  pub fails : FailsToSync file.handle kind between new
