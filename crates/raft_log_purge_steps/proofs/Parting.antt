-- A step of a purge of Append that leaves no group is a whole one.
use Rattle.std.proofs.Common.{◌≡◌, ◌<◌, ◌≤◌, ℕ, nat_lt, true, false, List, length, take, Option, Some, sym, ap, subst, ◌∙◌}
use Rattle.std.proofs.lemmas.Bool.{false≢true}
use Rattle.std.proofs.lemmas.List.{take_all}
use Rattle.raft_log_model_laws.proofs.Public.{from_lt_false, lt_false, lt_true}
use Rattle.raft_log_record_items.specs.declared.item.LogItem.{LogItem}
use Rattle.raft_log_memtables.specs.declared.mem_tables.MemTables.{MemTables}
use Rattle.raft_log_memtables.specs.Tables.{shown_of}
use Rattle.raft_log_memtables.specs.Walking.{ListsGroups}
use Rattle.raft_log_purge_copy.specs.raft_log_engine_laws.specs.EngineState.{EngineState}
use Rattle.raft_log_purge_copy.proofs.Public.{among}
use Rattle.raft_log_purge_policy.specs.Watermarks.{watermarks_of}
use Rattle.raft_log_purge_policy.specs.declared.rounds.Rounds.{Rounds}
use Rattle.raft_log_purge_policy.specs.declared.watermarks.Watermarks.{Watermarks}
use Rattle.raft_log_purge_policy.specs.Picking.{answers_at, count_of, rewrites_at}
use Rattle.raft_log_purge.specs.declared.expired.PickedGroups.{PickedGroups}
use Rattle.raft_log_purge.specs.Expired.{CountsRound, DeletesFirst, PicksGroups, PurgesAppend, RewritesPicked}
use Rattle.raft_log_purge.proofs.Public.{listed_picked}
use Rattle.raft_log_purge_steps.specs.declared.step.PurgeStep.{PurgeStep}
use Rattle.raft_log_purge_steps.specs.Part.{PurgesPart}
use Rattle.raft_log_purge_steps.specs.Weights.{IsAffordable}

pub last_part : (held : Option ℕ) (budget : ℕ) (before after : MemTables) (old new : Rounds) (step : PurgeStep) (s t : EngineState) → PurgesPart held budget before after old new step s t → step.more ≡ false → PurgesAppend held false before after old new step.answered.items s t
last_part held budget before after old new step s t p done =
    let high = from_lt_false p.count (length p.groups) (sym p.left ∙ done) in
    let gate = (watermarks_of s.pipes).rewrite in
    let all = subst (λ (l : List ℕ). RewritesPicked (among l) gate held after p.freed t) (take_all p.count p.groups high) p.rewrites in record {
      answered = p.answered;
      rounds = p.counts done;
      marks = p.marks;
      owed = p.owed;
      freed = p.freed;
      deletes = p.deletes;
      rewrites = listed_picked p.groups (rewrites_at (watermarks_of s.pipes) (count_of old) before) gate held after p.freed t p.picked all;
    }

-- what a test of the code says

pub less_is : (a b : ℕ) {C : Type 0} → a < b → nat_lt a b ≡ false → C
less_is a b less fails = absurd (false≢true (sym fails ∙ lt_true a b less))

pub not_less_is : (a b : ℕ) {C : Type 0} → b ≤ a → nat_lt a b ≡ true → C
not_less_is a b most holds = absurd (false≢true (sym (lt_false a b most) ∙ holds))

-- A step, put together of what its parts told.
module _ (held : Option ℕ) (budget : ℕ) (before after : MemTables) (old : Rounds) (picked : PickedGroups) (marks : Watermarks) (s freed t : EngineState) (is : marks ≡ watermarks_of s.pipes) (picks : PicksGroups marks false before old picked)
    (groups : List ℕ) (same : groups ≡ picked.rewritten.items) (count : ℕ) (fits : IsAffordable (Some marks.rewrite) budget (shown_of before) groups count) (part : List ℕ) (first : part ≡ take count groups) (items : List LogItem) (too : items ≡ picked.marks.items)
    (deletes : DeletesFirst held before items s freed) (rewrites : RewritesPicked (among part) marks.rewrite held after freed t) where
  pub part_purged : (new : Rounds) (step : PurgeStep) → step.answered.items ≡ picked.answered.items → step.more ≡ nat_lt count (length groups) → (step.more ≡ true → new ≡ old) → (step.more ≡ false → new ≡ picked.rounds)
      → PurgesPart held budget before after old new step s t
  part_purged new step asked more waits counted =
      let all = subst (λ (w : Watermarks). PicksGroups w false before old picked) is picks in
      let paid = subst (λ (l : List ℕ). IsAffordable (Some marks.rewrite) budget (shown_of before) l count) same fits in
      let listed = subst (λ (l : List ℕ). RewritesPicked (among l) marks.rewrite held after freed t) (first ∙ ap (take count) same) rewrites in record {
        answered = subst (ListsGroups (answers_at (Some (watermarks_of s.pipes)) false before)) (sym asked) all.answered;
        groups = picked.rewritten.items;
        picked = all.rewritten;
        count = count;
        fits = subst (λ (w : Watermarks). IsAffordable (Some w.rewrite) budget (shown_of before) picked.rewritten.items count) is paid;
        left = more ∙ ap (λ (l : List ℕ). nat_lt count (length l)) same;
        waits = waits;
        counts = λ no. subst (λ (r : Rounds). CountsRound (watermarks_of s.pipes) before old r) (sym (counted no)) all.rounds;
        marks = picked.marks.items;
        owed = all.owed;
        freed = freed;
        deletes = subst (λ (l : List LogItem). DeletesFirst held before l s freed) too deletes;
        rewrites = subst (λ (w : Watermarks). RewritesPicked (among (take count picked.rewritten.items)) w.rewrite held after freed t) is listed;
      }
