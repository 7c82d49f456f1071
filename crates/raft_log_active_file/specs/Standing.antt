-- The files of a queue on a disk, in each state that they go through, also inside a call. There is one relation for all
-- these states; its parameter `P` says in which state the last file is.
use Rattle.std.specs.Prelude.{◌≡◌, ℕ, ◌<◌, ◌≤◌, ◌⊎◌, false, Option, Some, None, List}
use Rattle.raft_log_fs.specs.Disk.{File, Disk, HasDirectory}
use Rattle.raft_log_file_writer.specs.LogFormat.{Format}
use Rattle.raft_log_file_writer.specs.LogQueue.{LogFiles, IsPast}
use Rattle.raft_log_fs.specs.Touching.{HasFile, TouchesOnlyNames}

-- for each path, the node number of the file that it names; `None` if it names no file
abbrev pub Names : Type 0
Names = List ℕ → Option ℕ

-- no file has two paths
abbrev pub HaveOneName : Names → Type 0
HaveOneName N = (a b : List ℕ) (id : ℕ) → N a ≡ Some id → N b ≡ Some id → a ≡ b

-- for each number below `end`, at most one file is at the paths of this number
abbrev pub HaveOneFile : {R : Type 0} → Format R → ℕ → Names → Type 0
HaveOneFile F end N = (m i j : ℕ) (a b : List ℕ) → m < end → F.IsPath m a → F.IsPath m b
    → N a ≡ Some i → N b ≡ Some j → i ≡ j

-- a file can be created at `path`, or renamed to it: no directory has the path, and its parent directory exists
pub record IsPlace (path : List ℕ) (d : Disk) : Type 0 where
  pub apart : d.directories path ≡ false
  pub home : HasDirectory path d

-- all paths of the queue's files are its own; it may own others, of files that it keeps for recycling
abbrev pub OwnsPaths : {R : Type 0} → Format R → (List ℕ → Type 0) → Type 0
OwnsPaths F own = (m : ℕ) (path : List ℕ) → m < F.limit → F.IsPath m path → own path

-- The files of a queue are on the disk `d`, whose names are `N`.
-- - `at`, `named`, `file`: the last file is at `path`, has the node number `id`, and `P` holds for it.
-- - `alone`, `none`: no other file has the last file's number, and no file has a higher number.
-- - `older`: a file with a lower number is finished: it has exactly its header and records, all synced.
-- - `single`: no two files with lower numbers have the same number.
-- - `others`: since `base`, only the queue's own paths and files have changed.
pub record Stands {R : Type 0} (F : Format R) (own : List ℕ → Type 0) (base : Disk) (q : LogFiles R)
    (path : List ℕ) (id : ℕ) (P : File → Type 0) (N : Names) (d : Disk) : Type 0 where
  pub names : d.names ≡ N
  pub bound : q.last < F.limit
  pub at : F.IsPath q.last path
  pub named : N path ≡ Some id
  pub alone : (other : List ℕ) (j : ℕ) → F.IsPath q.last other → N other ≡ Some j → j ≡ id
  pub none : (m : ℕ) (other : List ℕ) → q.last < m → m < F.limit → F.IsPath m other → N other ≡ None
  pub headed : F.IsHeader q.header
  pub places : (m : ℕ) (other : List ℕ) → m < F.limit → F.IsPath m other → IsPlace other d
  pub file : HasFile id P d
  pub older : (m j : ℕ) (other : List ℕ) → m < q.last → F.IsPath m other → N other ≡ Some j
      → HasFile j (IsPast F m (q.older m)) d
  pub single : HaveOneFile F q.last N
  pub others : TouchesOnlyNames own base d
