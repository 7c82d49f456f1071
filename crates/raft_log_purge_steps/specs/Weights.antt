-- The weight of a group: how many bytes a step of a purge copies of it. With a gate, a step copies what the group has
-- in files of Append up to `gate`. Without one, it copies what the group has in Rewrite.
use Rattle.std.specs.Prelude.{◌≡◌, ◌⊎◌, ◌+◌, ◌-◌, ◌^◌, ◌<◌, ◌≤◌, ℕ, min, List, [], ◌∷◌, Option, Some, None, length, take, sum_by}
use Rattle.raft_log_record_items.specs.declared.entry.EntryIndex.{EntryIndex}
use Rattle.raft_log_record_items.specs.Placed.{run_len}
use Rattle.raft_log_memtable_index.specs.Listing.{ListsAll, asked_bytes}
use Rattle.raft_log_memtable_index.specs.Shown.{Shown}
use Rattle.raft_log_memtable.specs.Reads.{appended_entries, rewritten_entries}
use Rattle.raft_log_memtable.specs.Stats.{plus}

-- the entries that a step copies of the group with this table
abbrev pub copied_entries : Option ℕ → Shown → List EntryIndex
copied_entries None v = rewritten_entries v
copied_entries (Some gate) v = appended_entries v gate

-- for each key, the bytes of its value, if a step copies it
abbrev pub copied_values : Option ℕ → Shown → List ℕ → Option (List ℕ)
copied_values gate v k = asked_bytes gate (v.held k)

-- the bytes of these keys and values
abbrev pub pairs_len : List (List ℕ × List ℕ) → ℕ
pairs_len pairs = sum_by (λ e. length e.0 + length e.1) pairs

-- The group with this table weighs `n`: the entries, keys and values that a step copies have `n` bytes together, or
-- more if `n` is 2 ^ 64 - 1.
abbrev pub Weighs : Option ℕ → Shown → ℕ → Type 0
Weighs gate v n = (pairs : List (List ℕ × List ℕ)) × ListsAll (copied_values gate v) pairs
    × (n ≡ min (run_len (copied_entries gate v) + pairs_len pairs) (2 ^ 64 - 1))

-- these groups weigh `n` together, or more if `n` is 2 ^ 64 - 1; `v` has their tables
abbrev pub WeighTogether : Option ℕ → (ℕ → Shown) → List ℕ → ℕ → Type 0
WeighTogether gate v [] n = n ≡ 0
WeighTogether gate v (g ∷ gs) n =
    (one rest : ℕ) × Weighs gate (v g) one × WeighTogether gate v gs rest × (n ≡ plus one rest)

-- The budget pays for the first `count` of these groups. If there are any groups, `count` is at least 1.
-- - `within`: there is at most one, or without the last one they weigh less than the budget.
-- - `reaches`: they are all groups, or they weigh at least the budget together.
pub record IsAffordable (gate : Option ℕ) (budget : ℕ) (v : ℕ → Shown) (groups : List ℕ) (count : ℕ) : Type 0 where
  pub few : count ≤ length groups
  pub some : 0 < length groups → 0 < count
  pub before : ℕ
  pub weighs : WeighTogether gate v (take (count - 1) groups) before
  pub within : (count ≤ 1) ⊎ (before < budget)
  pub total : ℕ
  pub reached : WeighTogether gate v (take count groups) total
  pub reaches : (count ≡ length groups) ⊎ (budget ≤ total)
