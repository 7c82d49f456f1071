-- The paths of a queue's files: which paths a file may have, and which of these the code builds.
use Rattle.std.specs.Prelude.{◌≡◌, ℕ, ◌-◌, ◌^◌, ◌⊎◌, List, [], ◌∷◌, ◌++◌, codes, min, length, slice_index_or, Contains}
use Rattle.raft_log_record_base.specs.declared.pipe_log.LogQueue.{LogQueue}
use Rattle.raft_log_fs.specs.Disk.{IsPlain}
use Rattle.raft_log_file_format.specs.Name.{IsNamed, number_text, suffix_of}
use Rattle.raft_log_active_file.specs.Layout.{has_sign, plain_place}

-- `path` is one of these directories, a slash, and a name without a slash that has this number and this suffix
pub record IsPathWith (suffix : List ℕ) (directories : List (List ℕ)) (n : ℕ) (path : List ℕ) : Type 0 where
  pub directory : List ℕ
  pub listed : Contains directories directory
  pub name : List ℕ
  pub named : IsNamed suffix name n
  pub plain : IsPlain name
  pub joined : path ≡ directory ++ 47 ∷ name

-- the suffix of the reserved names, under which a queue keeps files for recycling
abbrev pub reserved_suffix_of : LogQueue → List ℕ
reserved_suffix_of queue = suffix_of queue ++ codes ".reserved"

-- a queue's own paths: those of its numbers, and those of reserved names
abbrev pub IsOwnPath : LogQueue → List (List ℕ) → List ℕ → Type 0
IsOwnPath queue directories path = (n : ℕ) × (IsPathWith (suffix_of queue) directories n path
    ⊎ IsPathWith (reserved_suffix_of queue) directories n path)

-- The directory of a place (`plain_place`). If the list has no such directory, it is the main one, the first of the
-- list.
abbrev pub directory_at : List (List ℕ) → ℕ → List ℕ
directory_at directories place =
    slice_index_or directories (plain_place (length directories) place) (slice_index_or directories 0 [])

-- the path that the code builds for the queue's file with number `n` in the directory of this place
abbrev pub numbered_path : LogQueue → List (List ℕ) → ℕ → ℕ → List ℕ
numbered_path queue directories place n = directory_at directories place
    ++ 47 ∷ (number_text (has_sign (length directories) place) n ++ suffix_of queue)

-- The path that the code builds for a file that a queue keeps for recycling under a reserved name. A number of more
-- than sixteen digits gets the path of the greatest number with sixteen digits.
abbrev pub reserved_path : LogQueue → List (List ℕ) → ℕ → ℕ → List ℕ
reserved_path queue directories place n =
    numbered_path queue directories place (min n (10 ^ 16 - 1)) ++ codes ".reserved"
