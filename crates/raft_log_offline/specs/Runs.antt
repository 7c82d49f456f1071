-- Runs of entries in the records of a queue, and where indexes are missing between them.
use Rattle.std.specs.Prelude.{◌≡◌, ℕ, ◌+◌, ◌<◌, ◌≤◌, ◌==◌, nat_lt, Bool, if◌then◌else◌, List, [], ◌∷◌, ◌++◌, flat_map, Option, Some, None}
use Rattle.raft_log_record_items.specs.declared.entry.EntryIndex.{EntryIndex}
use Rattle.raft_log_record_items.specs.declared.item.LogItem.{LogItem}
use Rattle.raft_log_record_items.specs.declared.item.LogItemContent.{LogItemContent}
use Rattle.raft_log_record_items.specs.declared.item.LogItemContent.TheVariants as contents
use Rattle.raft_log_replay.specs.Machines.{Batch}

-- the entries of a group in one item, by the indexes of the first and the last
pub record Run : Type 0 where
  pub first : ℕ
  pub last : ℕ

-- the index of the last of these entries, or `i` if there are none
abbrev pub last_index : ℕ → List EntryIndex → ℕ
last_index i [] = i
last_index i (e ∷ es) = last_index e.index es

-- the run of these entries, or none if there are no entries
abbrev pub run_in : List EntryIndex → List Run
run_in [] = []
run_in (e ∷ es) = record { first = e.index; last = last_index e.index es } ∷ []

-- the run of this content, or none if it has no entries
abbrev pub run_of_content : LogItemContent → List Run
run_of_content (contents.EntryIndexes entries) = run_in entries
run_of_content _ = []

-- the run of this item, or none if it has no entries or is of another group
abbrev pub run_of_item : ℕ → LogItem → List Run
run_of_item group item = if item.raft_group_id == group then run_of_content item.content else []

-- the runs of a group in the items of one batch, in order
abbrev pub runs_in : ℕ → List LogItem → List Run
runs_in group items = flat_map (run_of_item group) items

-- the runs of a group in the items of these batches, in order
abbrev pub runs_of : ℕ → List Batch → List Run
runs_of group batches = flat_map (λ batch. runs_in group batch.items) batches

-- whether indexes are missing between `run` and `next`
abbrev pub leaves_hole : Run → Run → Bool
leaves_hole run next = nat_lt (run.last + 1) next.first

-- the last index of the first run after which indexes are missing before the next run
abbrev pub finding : List Run → Option ℕ
finding [] = None
finding (run ∷ []) = None
finding (run ∷ next ∷ runs) = if leaves_hole run next then Some run.last else finding (next ∷ runs)

-- no indexes are missing between one run and the next
abbrev pub HasNoHole : List Run → Type 0
HasNoHole [] = Unit {0}
HasNoHole (run ∷ []) = Unit {0}
HasNoHole (run ∷ next ∷ runs) = (next.first ≤ run.last + 1) × HasNoHole (next ∷ runs)

-- the first missing indexes between two runs come after index `end`
pub record IsFirstHole (runs : List Run) (end : ℕ) : Type 0 where
  pub before : List Run
  pub run : Run
  pub next : Run
  pub behind : List Run
  pub split : runs ≡ before ++ run ∷ next ∷ behind
  pub whole : HasNoHole (before ++ run ∷ [])
  pub missing : run.last + 1 < next.first
  pub end_is : run.last ≡ end
