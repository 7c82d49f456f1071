-- Some groups are restated, and then files of Rewrite go.
use Rattle.std.proofs.Common.{◌≡◌, ◌==◌, ℕ, Bool, true, false, List, [], length, take, Option, None, inl, inr, refl, sym, ap, subst, ◌∙◌}
use Rattle.std.specs.Prelude.{Result, Ok, Err, IfErr, IfOk, OnErr, OnOk}
use Rattle.std.specs.List.{list_any}
use Rattle.raft_log_record_base.specs.declared.errors.Error.{Error}
use Rattle.raft_log_memtable.specs.declared.global_stats.GlobalStats.{GlobalStats}
use Rattle.raft_log_memtables.specs.declared.mem_tables.MemTables.{MemTables}
use Rattle.raft_log_memtables.specs.Tables.{shown_of}
use Rattle.raft_log_memtables.specs.Walking.{ListsGroups}
use Rattle.raft_log_purge_copy.specs.raft_log_engine_laws.specs.EngineState.{EngineState}
use Rattle.raft_log_purge_copy.specs.Restated.{RestatesEach}
use Rattle.raft_log_purge_copy.specs.Syncing.{CountsEach}
use Rattle.raft_log_purge_copy.proofs.Public.{later_on, reason_after}
use Rattle.raft_log_purge.specs.Garbage.{CountsGarbage}
use Rattle.raft_log_purge.specs.RewriteQueue.{FailsToRewriteRewrite}
use Rattle.raft_log_purge.specs.declared.expired_files.PurgeCounts.{PurgeCounts}
use Rattle.raft_log_purge.proofs.Public.{is_none}
use Rattle.raft_log_purge_steps.specs.declared.step.PurgeStep.{PurgeStep}
use Rattle.raft_log_purge_steps.specs.Compacting.{EndsCompaction, GoesOnCompacting, RestatesSome, StopsCompacting, SyncsAndDeletes, needs_up_to}
use Rattle.raft_log_purge_steps.specs.Weights.{IsAffordable}

module _ (groups : List ℕ) (s restated : EngineState) (r : RestatesEach groups s restated) where
  some_restated : CountsEach s.pipes restated.pipes → (m : MemTables) (t : EngineState) → SyncsAndDeletes m restated t → RestatesSome groups m s t
  some_restated handed m t deletes = record {
    restated = restated;
    restates = r;
    handed = handed;
    deletes = deletes;
    alive = deletes.alive;
    later = later_on s.pipes.disk restated.pipes.disk t.pipes.disk r.later deletes.later;
    settles = λ home log h. deletes.settles home log (r.holds home log h);
  }

  not_deleted : (error : Error) (t : EngineState) → FailsToRewriteRewrite error restated t → FailsToRewriteRewrite error s t
  not_deleted error t fails = record {
    counts = fails.counts ∙ r.counts;
    tells = λ lived. fails.tells (r.alive lived);
    later = later_on s.pipes.disk restated.pipes.disk t.pipes.disk r.later fails.later;
    remains = λ home m h. fails.remains home m (r.holds home m h);
    cause = λ home m h. reason_after home m error s restated t r.later (fails.cause home m (r.holds home m h));
  }

  pub whole_some : CountsEach s.pipes restated.pipes → (m : MemTables) (t : EngineState) (q : Result (Unit {0}) Error) → OnOk q (SyncsAndDeletes m restated t) → OnOk q (RestatesSome groups m s t)
  whole_some handed m t (Ok x) deletes = some_restated handed m t deletes
  whole_some handed m t (Err e) deletes = tt

  pub whole_undeleted : (t : EngineState) (q : Result (Unit {0}) Error) → IfErr q (λ error. FailsToRewriteRewrite error restated t) → IfErr q (λ error. FailsToRewriteRewrite error s t)
  whole_undeleted t (Ok x) fails = tt
  whole_undeleted t (Err e) fails = not_deleted e t fails

-- The groups.

-- no group needs a file up to this one
none_needs : (file : ℕ) (m : MemTables) (groups : List ℕ) → groups ≡ [] → ListsGroups (needs_up_to file m) groups → (g : ℕ) → needs_up_to file m g ≡ false
none_needs file m groups none lists g = sym (lists.exact g) ∙ ap (λ (l : List ℕ). list_any (λ k. k == g) l) none

-- The end.
module _ (file budget : ℕ) (from to : Option ℕ) (m : MemTables) (old new : PurgeCounts) (s t : EngineState) (groups : List ℕ) (b : Bool) (is : b ≡ (length groups == 0)) (empty : b ≡ true) (lists : ListsGroups (needs_up_to file m) groups) where
  pub whole_ended : (q : Result PurgeStep Error) → new.rounds ≡ old.rounds → IfOk q (λ step. EndsCompaction to m old.stats new.stats step s t) → IfOk q (λ step. GoesOnCompacting file budget from to m m old new step s t)
  whole_ended (Ok step) rounds ends =
      let none = none_needs file m groups ((is_none groups b is).0 empty) lists in
      inr (record { none = none; ends = ends; tables = refl; rounds = rounds; past = λ home log h low. ends.deletes.least home log h file low none })
  whole_ended (Err e) rounds ends = tt

pub whole_unended : (file budget : ℕ) (from to : Option ℕ) (m : MemTables) (old new : PurgeCounts) (s t : EngineState) (q : Result PurgeStep Error) → t.tables ≡ s.tables → new.rounds ≡ old.rounds → OnErr q (new.stats ≡ old.stats) → OnErr q (to ≡ from)
    → OnErr q (StopsCompacting file budget from to m old new s t)
whole_unended file budget from to m old new s t (Ok step) tables rounds stats still = tt
whole_unended file budget from to m old new s t (Err e) tables rounds stats still = record { still = still; rounds = rounds; stats = inl (tables, stats) }

-- The groups that a step takes, as the code has them.
module _ (file budget : ℕ) (before : MemTables) (groups part : List ℕ) (count : ℕ) (first : part ≡ take count groups) (lists : ListsGroups (needs_up_to file before) groups) where
  pub some_counted : (after : MemTables) (old new : GlobalStats) → CountsGarbage file (shown_of after) part old new → CountsGarbage file (shown_of after) (take count groups) old new
  some_counted after old new counts = subst (λ (l : List ℕ). CountsGarbage file (shown_of after) l old new) first counts

  pub continued : (b : Bool) (from : Option ℕ) (after : MemTables) (old new : PurgeCounts) (step : PurgeStep) (s t : EngineState) → b ≡ (length groups == 0) → b ≡ false → IsAffordable None budget (shown_of before) groups count → RestatesSome part after s t
      → CountsGarbage file (shown_of after) part old.stats new.stats → new.rounds ≡ old.rounds → step.answered.items ≡ [] → step.more ≡ true → GoesOnCompacting file budget from from before after old new step s t
  continued b from after old new step s t is full fits restates counts rounds none more = inl (record {
    groups = groups;
    some = (is_none groups b is).1 full;
    count = count;
    takes = record { listed = lists; fits = fits };
    restates = subst (λ (l : List ℕ). RestatesSome l after s t) first restates;
    stats = some_counted after old.stats new.stats counts;
    rounds = rounds;
    still = refl;
    none = none;
    more = more;
  })
