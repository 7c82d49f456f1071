-- Zeros at the end of a file's bytes.
use Rattle.std.specs.Prelude.{◌≡◌, ℕ, ◌≤◌, List, length, take}
use Rattle.raft_log_fs.specs.Disk.{grown}

-- there are at least `count` bytes, and all those after the first `count` are zeros
abbrev pub HasZerosBehind : ℕ → List ℕ → Type 0
HasZerosBehind count bytes = (count ≤ length bytes) × (bytes ≡ grown (length bytes) (take count bytes))
