-- What the example of a consistency check finds.
use Rattle.std.specs.Prelude.{◌≡◌, ◌↔◌, ℕ, Bool, IsTrue, List, None}
use Rattle.raft_log_fs.specs.Disk.{Disk}
use Rattle.raft_log_offline.specs.Directory.{ChecksDirectory}
use Rattle.raft_log_offline.specs.Findings.{finding_of}

-- The log in the directory `path` was checked. `whole` is true exactly if no group's entries have a hole in either
-- queue.
pub record FindsNoHole (path : List ℕ) (whole : Bool) (old new : Disk) : Type 0 where
  pub findings : List (ℕ × ℕ)
  pub checks : ChecksDirectory path findings old new
  pub tells : IsTrue whole ↔ ((group : ℕ) → finding_of checks.checks.append checks.checks.rewrite group ≡ None)
