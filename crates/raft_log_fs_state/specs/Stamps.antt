-- The stamps of changes. A change's stamp is the number of changes, of any file, that were made before it. The stamps
-- give each change's position among the unsynced ones. What a crash leaves of a change depends on this position.
use Rattle.std.specs.Prelude.{ℕ, suc, zero, Option, Some, None, List, [], ◌∷◌, ◌++◌, length}
use Rattle.std.specs.List.{filter}
use Rattle.std.proofs.Common.{map, nat_lt}
use Rattle.raft_log_fs_state.specs.declared.remainder.Remainder.{Remainder}
use Rattle.raft_log_fs_state.specs.Changes.{Made}
use Rattle.raft_log_fs_state.specs.Held.{Held, held_of, resting}
use Rattle.raft_log_fs_state.specs.declared.change.Stamped.{Stamped}
use Rattle.raft_log_fs_state.specs.declared.files.Stored.{Stored}
use Rattle.std.specs.List.Sorted.{IsPermutation}
use Rattle.raft_log_fs_state.specs.Left.{left_by}

-- the stamps of changes as they are stored
abbrev pub stamps_on : List Stamped → List ℕ
stamps_on changes = map (λ (u : Stamped). u.stamp) changes

-- the stamps of a file's changes
abbrev pub stamps_in : List Made → List ℕ
stamps_in made = map (λ (m : Made). m.stamp) made

-- the stamps of a file's changes; none if the file doesn't exist
abbrev pub file_stamps : Option Held → List ℕ
file_stamps None = []
file_stamps (Some file) = stamps_in file.changes

-- the stamps of the changes of the files with a node number below `count`
abbrev pub stamps_of : (ℕ → Option Held) → ℕ → List ℕ
stamps_of files zero = []
stamps_of files (suc id) = stamps_of files id ++ file_stamps (files id)

-- how many of `stamps` are below `stamp`: the position of the change that has `stamp`
abbrev pub place_in : List ℕ → ℕ → ℕ
place_in stamps stamp = length (filter (λ other. nat_lt other stamp) stamps)

-- `stamps` are the stamps of all changes of all files, in any order
abbrev pub HasAllStamps : List (Option Stored) → List ℕ → Type 0
HasAllStamps files stamps = IsPermutation (stamps_of (held_of files) (length files)) stamps

-- The content `old` with what a crash left of a file's changes. `what` chooses this by each change's position among the
-- unsynced changes of all files, which `place` gives for the change's stamp.
abbrev pub left_own : Remainder → (ℕ → ℕ) → List Made → List ℕ → List ℕ
left_own what place [] old = old
left_own what place (m ∷ ms) old = left_own what place ms (left_by what (place m.stamp) m.change old)

-- what a crash leaves of a file's bytes, if `stamps` are the stamps of the unsynced changes of all files
abbrev pub left_of_file : Remainder → List ℕ → Held → List ℕ
left_of_file what stamps file = left_own what (place_in stamps) file.changes file.synced

-- a file as the restart finds it: it has the bytes that the crash left, and all of them count as synced; `place` gives
-- the position of each stamp
abbrev pub left_held : Remainder → (ℕ → ℕ) → Held → Held
left_held what place file = resting (left_own what place file.changes file.synced)
