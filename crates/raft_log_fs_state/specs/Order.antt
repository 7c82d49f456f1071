-- The unsynced changes of all files in the order of the calls, each with its file's node number. The order is that of
-- the stamps: a change's stamp is the number of changes, of any file, that were made before it.
use Rattle.std.specs.Prelude.{◌≡◌, ℕ, ◌<◌, ◌≤◌, not, zero, suc, Option, Some, None, List, [], ◌∷◌, ◌++◌}
use Rattle.std.specs.List.{filter}
use Rattle.std.proofs.Common.{map, nat_eq}
use Rattle.raft_log_fs.specs.Disk.{Change}
use Rattle.raft_log_fs_state.specs.Changes.{Made}
use Rattle.raft_log_fs_state.specs.Held.{Held}

-- the changes that have this stamp, of the file with node number `id`
abbrev pub with_stamp : ℕ → ℕ → Option Held → List (ℕ × Change)
with_stamp stamp id None = []
with_stamp stamp id (Some file) =
    map (λ (m : Made). (id, m.change)) (filter (λ (m : Made). nat_eq m.stamp stamp) file.changes)

-- the changes that have this stamp, of the files with a node number below `count`
abbrev pub stamped : ℕ → (ℕ → Option Held) → ℕ → List (ℕ × Change)
stamped stamp files zero = []
stamped stamp files (suc id) = stamped stamp files id ++ with_stamp stamp id (files id)

-- the changes that have a stamp below `next`, of the files with a node number below `count`, by rising stamp
abbrev pub in_order : ℕ → (ℕ → Option Held) → ℕ → List (ℕ × Change)
in_order zero files count = []
in_order (suc stamp) files count = in_order stamp files count ++ stamped stamp files count

-- the changes of file `id` in this list, in the same order
abbrev pub changes_of : ℕ → List (ℕ × Change) → List Change
changes_of id unsynced = map (λ (u : ℕ × Change). u.1) (filter (λ (u : ℕ × Change). nat_eq u.0 id) unsynced)

-- the list without the changes of file `id`
abbrev pub without_file : ℕ → List (ℕ × Change) → List (ℕ × Change)
without_file id unsynced = filter (λ (u : ℕ × Change). not (nat_eq u.0 id)) unsynced

-- the stamps of these changes rise strictly, from `low` or more, and are below `next`
abbrev pub Rises : ℕ → ℕ → List Made → Type 0
Rises low next [] = Unit {0}
Rises low next (m ∷ ms) = (low ≤ m.stamp) × (m.stamp < next) × Rises (suc m.stamp) next ms

-- the stamps of each file's changes rise strictly and are below `next`, and no two files share a stamp
pub record AreStamped (next : ℕ) (files : ℕ → Option Held) : Type 0 where
  pub rise : (id : ℕ) (file : Held) → files id ≡ Some file → Rises 0 next file.changes
  pub alone : (a b stamp : ℕ) → (with_stamp stamp a (files a) ≡ [] → ⊥)
      → (with_stamp stamp b (files b) ≡ [] → ⊥) → a ≡ b
