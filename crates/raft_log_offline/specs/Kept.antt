-- What a checker keeps of each group: the first and the last index of its runs of entries, and its finding. The finding
-- is the last index before the group's first hole.
use Rattle.std.specs.BTreeMap.{get}
use Rattle.std.specs.Option.{option_or}
use Rattle.std.specs.Ordering.{nat_cmp}
use Rattle.std.specs.Prelude.{◌≡◌, ℕ, ◌+◌, ◌==◌, false, nat_lt, if◌then◌else◌, List, [], ◌∷◌, ◌++◌, Option, Some, None}
use Rattle.raft_log_record_base.specs.declared.errors.Error.{Error}
use Rattle.raft_log_record_base.specs.declared.errors.Error.TheVariants as errors
use Rattle.raft_log_record_base.specs.declared.pipe_log.LogQueue.{LogQueue}
use Rattle.raft_log_record_items.specs.declared.item.LogItem.{LogItem}
use Rattle.raft_log_replay.specs.Machines.{Batch}
use Rattle.raft_log_offline.specs.Runs.{Run, finding, run_of_item, runs_in, runs_of}
use Rattle.raft_log_offline.specs.declared.group_runs.GroupRuns.{GroupRuns}
use Rattle.raft_log_offline.specs.declared.checker.ConsistencyChecker.{ConsistencyChecker}

-- the last index of the last of these runs; `run` is the first of them
abbrev pub last_end : Run → List Run → ℕ
last_end run [] = run.last
last_end run (next ∷ runs) = last_end next runs

-- what is kept of a group's runs, if there are any: the first index, the last index, and the finding
abbrev pub kept : List Run → Option GroupRuns
kept [] = None
kept (run ∷ runs) = Some (record {
  first = run.first;
  last = last_end run runs;
  hole_after = finding (run ∷ runs);
})

-- the last index of the earlier runs, if indexes are missing between it and the first index of the later ones
abbrev pub hole_between : GroupRuns → GroupRuns → Option ℕ
hole_between earlier later = if nat_lt (earlier.last + 1) later.first then Some earlier.last else None

-- What is kept of earlier and then later runs. The finding is the first of these that exists: the finding of the
-- earlier runs, the hole between the two, the finding of the later runs.
abbrev pub followed : GroupRuns → GroupRuns → GroupRuns
followed earlier later = record {
  first = earlier.first;
  last = later.last;
  hole_after = option_or earlier.hole_after (option_or (hole_between earlier later) later.hole_after);
}

-- what is kept of earlier and then later runs; there may be no earlier ones, no later ones, or neither
abbrev pub both_kept : Option GroupRuns → Option GroupRuns → Option GroupRuns
both_kept None later = later
both_kept (Some earlier) None = Some earlier
both_kept (Some earlier) (Some later) = Some (followed earlier later)

-- what the checker keeps of a group
abbrev pub kept_of : ConsistencyChecker → ℕ → Option GroupRuns
kept_of checker group = get nat_cmp checker.groups group

-- for each group, the checker keeps the first and the last index and the finding of its runs in these batches; the
-- queue doesn't matter
abbrev pub KeepsRuns : LogQueue → List Batch → ConsistencyChecker → Type 0
KeepsRuns queue batches checker = (group : ℕ) → kept_of checker group ≡ kept (runs_of group batches)

-- later runs were added to what the checker keeps of this group; the other groups are unchanged
pub record FollowsIn (old new : ConsistencyChecker) (group : ℕ) (later : GroupRuns) : Type 0 where
  pub both : kept_of new group ≡ both_kept (kept_of old group) (Some later)
  pub others : (other : ℕ) → (group == other) ≡ false → kept_of new other ≡ kept_of old other

-- what the checker `later` keeps of each group was added to what `old` keeps
abbrev pub FollowsAll : ConsistencyChecker → ConsistencyChecker → ConsistencyChecker → Type 0
FollowsAll old later new =
    (group : ℕ) → kept_of new group ≡ both_kept (kept_of old group) (kept_of later group)

-- batches are rejected only with `Memory`
abbrev pub IsOutOfMemory : LogQueue → List Batch → Error → Type 0
IsOutOfMemory queue batches error = error ≡ errors.Memory

-- the run of this item, if it has any, was added to what the checker keeps of its group
abbrev pub TakesItem : LogItem → ConsistencyChecker → ConsistencyChecker → Type 0
TakesItem item old new =
    (group : ℕ) → kept_of new group ≡ both_kept (kept_of old group) (kept (run_of_item group item))

-- the runs of these items were added to what the checker keeps of each group
abbrev pub TakesRuns : List LogItem → ConsistencyChecker → ConsistencyChecker → Type 0
TakesRuns items old new =
    (group : ℕ) (before : List Run) → kept_of old group ≡ kept before
    → kept_of new group ≡ kept (before ++ runs_in group items)
