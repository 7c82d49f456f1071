-- A caller of `fork`, which copies a closed log: what it does if it succeeds.
use Rattle.std.specs.Prelude.{◌≡◌, ℕ, List, length}
use Rattle.raft_log_fs.specs.Disk.{Disk}
use Rattle.raft_log_file_settings.specs.Settings.{Settings}
use Rattle.raft_log_offline.specs.Forks.{Forks}

-- the log was copied into the directory `target`, and the copy has `count` files
pub record BacksUp (s : Settings) (target : List ℕ) (count : ℕ) (old new : Disk) : Type 0 where
  pub paths : List (List ℕ)
  pub forks : Forks s target paths old new
  pub counts : count ≡ length paths
