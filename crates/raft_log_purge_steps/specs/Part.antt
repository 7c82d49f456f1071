-- A step of a purge of Append. `s` and `t` are the engine's states before and after it.
use Rattle.std.specs.Prelude.{◌≡◌, ◌==◌, ℕ, nat_lt, true, false, List, Option, Some, length, take}
use Rattle.std.specs.List.{list_any}
use Rattle.raft_log_record_items.specs.declared.item.LogItem.{LogItem}
use Rattle.raft_log_memtables.specs.declared.mem_tables.MemTables.{MemTables}
use Rattle.raft_log_memtables.specs.Owing.{AreOwed}
use Rattle.raft_log_memtables.specs.Tables.{shown_of}
use Rattle.raft_log_memtables.specs.Walking.{ListsGroups}
use Rattle.raft_log_purge_copy.specs.raft_log_engine_laws.specs.EngineState.{EngineState}
use Rattle.raft_log_purge_policy.specs.Watermarks.{watermarks_of}
use Rattle.raft_log_purge_policy.specs.declared.rounds.Rounds.{Rounds}
use Rattle.raft_log_purge_policy.specs.Picking.{answers_at, count_of, rewrites_at}
use Rattle.raft_log_purge.specs.Expired.{CountsRound, DeletesFirst, RewritesPicked}
use Rattle.raft_log_purge_steps.specs.declared.step.PurgeStep.{PurgeStep}
use Rattle.raft_log_purge_steps.specs.Weights.{IsAffordable}

-- Append was purged in part. The rules pick `groups`, by the tables `before` and the files before the step. The budget
-- pays for the first `count` of these groups.
-- - `deletes`: if no tombstone was owed, files left Append's live range before anything was written.
-- - `rewrites`: the owed tombstones were written, these `count` groups were rewritten, and files left Append's live
--   range.
-- - `left`: more is due if groups are left.
-- - `waits`, `counts`: the counts of purges in a row are updated only if no group is left.
pub record PurgesPart (held : Option ℕ) (budget : ℕ) (before after : MemTables) (old new : Rounds)
    (step : PurgeStep) (s t : EngineState) : Type 0 where
  pub answered : ListsGroups (answers_at (Some (watermarks_of s.pipes)) false before) step.answered.items
  pub groups : List ℕ
  pub picked : ListsGroups (rewrites_at (watermarks_of s.pipes) (count_of old) before) groups
  pub count : ℕ
  pub fits : IsAffordable (Some (watermarks_of s.pipes).rewrite) budget (shown_of before) groups count
  pub left : step.more ≡ nat_lt count (length groups)
  pub waits : step.more ≡ true → new ≡ old
  pub counts : step.more ≡ false → CountsRound (watermarks_of s.pipes) before old new
  pub marks : List LogItem
  pub owed : AreOwed before marks
  pub freed : EngineState
  pub deletes : DeletesFirst held before marks s freed
  pub rewrites : RewritesPicked (λ g. list_any (λ k. k == g) (take count groups))
      (watermarks_of s.pipes).rewrite held after freed t
