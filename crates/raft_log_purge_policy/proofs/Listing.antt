-- Of the groups that are listed those that pass a test.
use Rattle.std.proofs.Common.{◌≡◌, ◌+◌, ◌<◌, ◌==◌, ◌&&◌, ◌||◌, ℕ, ◌++◌, [], ◌∷◌, Bool, true, false, if◌then◌else◌, List, length, take, get_or, Option, Some, None, is_some, option_map, refl, sym, ap, subst, ◌∙◌, arith}
use Rattle.std.specs.Prelude.{Result, Ok, Err, IfOk}
use Rattle.std.specs.BTreeMap.{get}
use Rattle.std.specs.List.{filter, list_any}
use Rattle.std.specs.List.Sorted.{IsStrictlySortedBy}
use Rattle.std.specs.Ordering.{nat_cmp}
use Rattle.std.proofs.lemmas.Bool.{false≢true}
use Rattle.std.proofs.lemmas.List.Elements.{filter_more}
use Rattle.std.proofs.lemmas.List.Folds.{list_any_more}
use Rattle.std.proofs.lemmas.List.Kept.{IsStrictlySortedBy-filter}
use Rattle.std.proofs.lemmas.Map.Views.{any-filter_same}
use Rattle.raft_log_model_laws.proofs.Public.{at_bool}
use Rattle.raft_log_memtables.specs.declared.group_table.GroupTable.{GroupTable}
use Rattle.raft_log_memtables.specs.declared.mem_tables.MemTables.{MemTables}
use Rattle.raft_log_memtables.specs.Tables.{has_table, raw_of}
use Rattle.raft_log_memtable.specs.Table.{Raw}
use Rattle.raft_log_memtables.specs.Walking.{ListsGroups}
use Rattle.raft_log_purge_policy.specs.declared.picking.GroupLists.{GroupLists}
use Rattle.raft_log_purge_policy.specs.declared.watermarks.Watermarks.{Watermarks}
use Rattle.raft_log_purge_policy.specs.Behind.{round_behind}
use Rattle.raft_log_purge_policy.specs.Picking.{answers_at, answers_in, asks_at, asks_in, rewrites_at, rewrites_in, ListsPicked, PicksOf}

both_pass : (a b : Bool) → (a ≡ true → b ≡ true) → (a && b) ≡ a
both_pass true b h = h refl
both_pass false b h = refl

picked : (p has : ℕ → Bool) (gs : List ℕ) → ((g : ℕ) → p g ≡ true → has g ≡ true) → ListsGroups has gs → ListsGroups p (filter p gs)
picked p has gs known lists = record {
  rising = IsStrictlySortedBy-filter nat_cmp p gs lists.rising;
  exact = λ g.
      any-filter_same (λ k. k == g) p (p g) (λ k is. let here : k ≡ g = grind (arith, is) in ap p here) gs
      ∙ (ap (λ (b : Bool). p g && b) (lists.exact g) ∙ both_pass (p g) (has g) (known g));
}

asked_has_table : (marks : Watermarks) (o : Option GroupTable) → asks_in marks (option_map (λ t. t.table) o) ≡ true → is_some o ≡ true
asked_has_table marks None h = absurd (false≢true h)
asked_has_table marks (Some t) h = refl

rewritten_has_table : (marks : Watermarks) (n : ℕ) (o : Option GroupTable) → rewrites_in marks n (option_map (λ t. t.table) o) ≡ true → is_some o ≡ true
rewritten_has_table marks n None h = absurd (false≢true h)
rewritten_has_table marks n (Some t) h = refl

answered_has_table : (marks : Option Watermarks) (restated : Bool) (o : Option GroupTable) → answers_in marks restated (option_map (λ t. t.table) o) ≡ true → is_some o ≡ true
answered_has_table marks restated None h = absurd (false≢true h)
answered_has_table marks restated (Some t) h = refl

-- One group more is asked.

or_true : (a : Bool) → (a || true) ≡ true
or_true true = refl
or_true false = refl

or_false : (a : Bool) → (a || false) ≡ a
or_false true = refl
or_false false = refl

pub asked_more : (xs : List ℕ) (i d x : ℕ) → i < length xs → x ≡ get_or xs i d → (old new before : ℕ → ℕ) → ((g : ℕ) → old g ≡ round_behind (list_any (λ k. k == g) (take i xs)) (before g))
    → ((g : ℕ) → new g ≡ (if x == g then round_behind true (before x) else old g)) → (g : ℕ) → new g ≡ round_behind (list_any (λ k. k == g) (take (i + 1) xs)) (before g)
asked_more xs i d x lt is old new before so_far now g =
    let a = list_any (λ k. k == g) (take i xs) in
    let more : list_any (λ k. k == g) (take (i + 1) xs) ≡ (a || (x == g)) = list_any_more (λ k. k == g) xs i d lt ∙ ap (λ (y : ℕ). a || (y == g)) (sym is) in
    now g
    ∙ (at_bool (x == g) (λ b. (x == g) ≡ b → (if b then round_behind true (before x) else old g) ≡ round_behind (a || b) (before g))
    (λ _ same.
    let here : x ≡ g = grind (arith, same) in
    ap (λ (k : ℕ). round_behind true (before k)) here ∙ ap (λ (b : Bool). round_behind b (before g)) (sym (or_true a)))
    (λ _ apart. so_far g ∙ ap (λ (b : Bool). round_behind b (before g)) (sym (or_false a))) refl
    ∙ ap (λ (b : Bool). round_behind b (before g)) (sym more))

-- what was picked of all groups

pub all_picked : {A E : Type 0} (r : Result A E) (items : A → List ℕ) (p has : ℕ → Bool) (gs now : List ℕ) → now ≡ gs → ((g : ℕ) → p g ≡ true → has g ≡ true) → ListsGroups has gs → IfOk r (λ a. items a ≡ filter p now)
    → IfOk r (λ a. ListsGroups p (items a))
all_picked (Ok a) items p has gs now same known lists is = subst (ListsGroups p) (sym (is ∙ ap (filter p) same)) (picked p has gs known lists)
all_picked (Err e) items p has gs now same known lists is = tt

pub asked_known : (marks : Watermarks) (m : MemTables) (g : ℕ) → asks_at marks m g ≡ true → has_table m g ≡ true
asked_known marks m g = asked_has_table marks (get nat_cmp m.groups g)

pub answered_known : (marks : Option Watermarks) (restated : Bool) (m : MemTables) (g : ℕ) → answers_at marks restated m g ≡ true → has_table m g ≡ true
answered_known marks restated m g = answered_has_table marks restated (get nat_cmp m.groups g)

pub rewritten_known : (marks : Watermarks) (counts : ℕ → ℕ) (m : MemTables) (g : ℕ) → rewrites_at marks counts m g ≡ true → has_table m g ≡ true
rewritten_known marks counts m g = rewritten_has_table marks (counts g) (get nat_cmp m.groups g)

pub all_are_picked : (marks : Watermarks) (counts : ℕ → ℕ) (restated : Bool) (m : MemTables) (gs : List ℕ) (lists : GroupLists) → ListsGroups (has_table m) gs → PicksOf marks counts restated m gs lists
    → ListsPicked marks counts restated m lists
all_are_picked marks counts restated m gs lists all of = record {
  asked = subst (ListsGroups (asks_at marks m)) (sym of.asked) (picked (asks_at marks m) (has_table m) gs (asked_known marks m) all);
  rewritten = subst (ListsGroups (rewrites_at marks counts m)) (sym of.rewritten) (picked (rewrites_at marks counts m) (has_table m) gs (rewritten_known marks counts m) all);
  answered = subst (ListsGroups (answers_at (Some marks) restated m)) (sym of.answered) (picked (answers_at (Some marks) restated m) (has_table m) gs (answered_known (Some marks) restated m) all);
}

-- one group more

pub picked_more : (p : ℕ → Bool) (xs : List ℕ) (i d x : ℕ) → i < length xs → x ≡ get_or xs i d → (old new : List ℕ) (b : Bool) → old ≡ filter p (take i xs) → b ≡ p x → new ≡ old ++ (if b then x ∷ [] else []) → new ≡ filter p (take (i + 1) xs)
picked_more p xs i d x lt is old new b so_far test pushed =
    pushed
    ∙ (ap (λ (l : List ℕ). l ++ (if b then x ∷ [] else [])) so_far
    ∙ (ap (λ (c : Bool). filter p (take i xs) ++ (if c then x ∷ [] else [])) test
    ∙ (ap (λ (y : ℕ). filter p (take i xs) ++ (if p y then y ∷ [] else [])) is ∙ sym (filter_more p xs i d lt))))

-- Nobody is answered where Append isn't purged, and Rewrite wasn't rewritten.

no_group_twice : IsStrictlySortedBy nat_cmp []
unfolding IsStrictlySortedBy
no_group_twice = tt

answered_for_nothing : (o : Option Raw) → false ≡ answers_in None false o
answered_for_nothing None = refl
answered_for_nothing (Some t) = refl

pub nobody_answered : (marks : Option Watermarks) (restated : Bool) (m : MemTables) (gs : List ℕ) → is_some marks ≡ false → restated ≡ false → gs ≡ [] → ListsGroups (answers_at marks restated m) gs
nobody_answered None false m gs none not is =
    subst (λ (l : List ℕ). ListsGroups (answers_at None false m) l) (sym is) (record { rising = no_group_twice; exact = λ g. answered_for_nothing (raw_of m g) })
nobody_answered None true m gs none not is = absurd (false≢true (sym not))
nobody_answered (Some marks) restated m gs none not is = absurd (false≢true (sym none))
