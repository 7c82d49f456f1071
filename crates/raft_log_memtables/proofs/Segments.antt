-- Tables of all groups come over others, one group after another.
use Rattle.std.proofs.Common.{◌≡◌, ℕ, ◌==◌, ◌⊎◌, Bool, true, false, ◌&&◌, ◌||◌, not, List, [], ◌∷◌, map, Option, Some, None, refl, sym, ap, ap₂, subst, ◌∙◌, inl, inr, arith}
use Rattle.std.specs.BTreeMap.{get, is_at}
use Rattle.std.specs.List.{AllByRecursion, IsDistinct}
use Rattle.std.specs.Map.{lookup}
use Rattle.std.specs.Ordering.{is_eq, nat_cmp, eq_by_cmp}
use Rattle.raft_log_model_laws.proofs.Public.{if_false, if_true}
use Rattle.raft_log_record_base.specs.declared.errors.Error.{Error}
use Rattle.raft_log_memtable_index.specs.Shown.{Shown, span}
use Rattle.raft_log_memtable_index.specs.Bridge.{unmarked}
use Rattle.raft_log_memtable_index.specs.Replayed.{Replayed, joined, merged, LeavesHole}
use Rattle.raft_log_memtable.specs.Room.{with_room_of}
use Rattle.raft_log_memtable_index.proofs.Public.{rewrite_alone}
use Rattle.raft_log_memtable.specs.Table.{replay_of}
use Rattle.raft_log_memtable.proofs.Public.{joined_last}
use Rattle.raft_log_memtables.specs.declared.group_table.GroupTable.{GroupTable}
use Rattle.raft_log_memtables.specs.declared.mem_tables.MemTables.{MemTables}
use Rattle.raft_log_memtables.specs.Tables.{counts, counts_in, replayed_in, replayed_of, shown_in, shown_of, promise_of, IsAtRest}
use Rattle.raft_log_memtables.specs.Replaying.{StaysAt}
use Rattle.raft_log_memtables.specs.Joining.{JoinRefused, JoinsAll, JoinsAt, JoinsOne, JoinsSome, MergesAll, MergesAt, MergesOne, MergesSome, SameAt, TableRefused, UnmarkedAt}
use Rattle.raft_log_memtables.proofs.Ready.{by_group, same_or_apart}
use Rattle.raft_log_memtables.proofs.Rereading.{table_is}

-- the table of a group among these
abbrev pub found : List (ℕ × GroupTable) → ℕ → Option GroupTable
found es g = lookup (is_at (nat_cmp g)) es

-- no group comes twice
abbrev pub AllOnce : List (ℕ × GroupTable) → Type 0
AllOnce [] = Unit {0}
AllOnce (e ∷ es) = (found es e.0 ≡ None) × AllOnce es

none_later : (k : ℕ) (es : List (ℕ × GroupTable)) → AllByRecursion (λ y. is_eq (nat_cmp k y) ≡ false) (map (λ e. e.0) es) → found es k ≡ None
none_later k [] h = refl
none_later k (e ∷ es) h = if_false (is_eq (nat_cmp k e.0)) (Some e.1) (found es k) h.0 ∙ none_later k es h.1

pub once_each : (es : List (ℕ × GroupTable)) → IsDistinct (eq_by_cmp nat_cmp) (map (λ e. e.0) es) → AllOnce es
unfolding IsDistinct
once_each [] h = tt
once_each (e ∷ es) h = (none_later e.0 es h.0, once_each es h.1)

pub found_first : (e : ℕ × GroupTable) (es : List (ℕ × GroupTable)) → found (e ∷ es) e.0 ≡ Some e.1
found_first e es = if_true (is_eq (nat_cmp e.0 e.0)) (Some e.1) (found es e.0) (itself e.0)
  where
    itself : (n : ℕ) → is_eq (nat_cmp n n) ≡ true
    itself n = grind (arith)

pub found_later : (e : ℕ × GroupTable) (es : List (ℕ × GroupTable)) (g : ℕ) → (e.0 == g) ≡ false → found (e ∷ es) g ≡ found es g
found_later e es g apart = if_false (is_eq (nat_cmp g e.0)) (Some e.1) (found es g) (differ e.0 g apart)
  where
    differ : (a b : ℕ) → (a == b) ≡ false → is_eq (nat_cmp b a) ≡ false
    differ a b h = grind (arith, h)

none_some : {A : Type 0} {o : Option GroupTable} {t : GroupTable} → o ≡ None → o ≡ Some t → A
none_some none some = absurd (let clash : None ≡ Some _ = sym none ∙ some in let never : ⊥ = cc in never)

-- a group's table is still to come, and the group is as it was; or it came, if the group has one
abbrev pub ToComeOr : (S D : ℕ → Type 0) → (all rest : List (ℕ × GroupTable)) → ℕ → Type 0
ToComeOr S D all rest g = ((found rest g ≡ found all g) × S g) ⊎ ((found rest g ≡ None) × D g)

module _ (S D : ℕ → Type 0) (all : List (ℕ × GroupTable)) (e : ℕ × GroupTable) (es : List (ℕ × GroupTable)) where
  -- the first of those that are left is one that is to come
  pub first_to_come : ((g : ℕ) → ToComeOr S D all (e ∷ es) g) → (found all e.0 ≡ Some e.1) × S e.0
  first_to_come h = elim (h e.0) [
    | inl left ↦ (sym left.0 ∙ found_first e es, left.1)
    | inr done ↦ none_some done.0 (found_first e es)
  ]

  pub one_came : (S' D' : ℕ → Type 0) → AllOnce (e ∷ es) → ((g : ℕ) → (e.0 == g) ≡ false → S g → S' g) → ((g : ℕ) → (e.0 == g) ≡ false → D g → D' g)
      → (found all e.0 ≡ Some e.1 → S e.0 → D' e.0) → ((g : ℕ) → ToComeOr S D all (e ∷ es) g) → (g : ℕ) → ToComeOr S' D' all es g
  one_came S' D' once stay keep come h g =
      by_group e.0 g (same_or_apart e.0 g)
      (λ _ is. subst (λ (k : ℕ). ToComeOr S' D' all es k) is (let first = first_to_come h in inr (once.0, come first.0 first.1)))
      (λ apart. elim (h g) [
        | inl left ↦ inl (sym (found_later e es g apart) ∙ left.0, stay g apart left.1)
        | inr done ↦ inr (sym (found_later e es g apart) ∙ done.0, keep g apart done.1)
      ])

and_true : (b : Bool) → b ≡ (b && true)
and_true true = refl
and_true false = refl

-- Segments, one behind the other.
module _ (old newer m : MemTables) where
  -- some groups have what both segments come to, and these are left
  abbrev pub Joining : List (ℕ × GroupTable) → Type 0
  Joining rest = AllOnce rest × ((g : ℕ) → ToComeOr (StaysAt old m) (JoinsAt old newer m) newer.groups.entries rest g)

  pub all_joined : Joining [] → JoinsAll old newer m
  all_joined h g = elim (h.1 g) [
    | inr done ↦ done.1
    | inl left ↦
        let none : get nat_cmp newer.groups g ≡ None = sym left.0 in
        let nothing = ap replayed_in none in
        record {
          read = left.1.0 ∙ sym (joined_last (replayed_of old g)) ∙ ap (joined (replayed_of old g)) (sym nothing);
          counting = left.1.1 ∙ and_true (counts old g) ∙ ap (λ o. counts_in o || (counts old g && not (shown_in o).cleaned)) (sym none);
          fits = λ hole. let some = hole.1 in absurd (omega (arith, subst (λ (z : Replayed). LeavesHole (shown_of old g) z) nothing hole));
        }
  ]

  module _ (e : ℕ × GroupTable) (es : List (ℕ × GroupTable)) (k : MemTables) where
    pub join_stops : Joining (e ∷ es) → ((g : ℕ) → StaysAt m k g) → JoinsSome old newer k
    join_stops h stays g = elim (h.1 g) [
      | inl left ↦ inl ((stays g).0 ∙ left.1.0, (stays g).1 ∙ left.1.1)
      | inr done ↦ inr (record { read = (stays g).0 ∙ done.1.read; counting = (stays g).1 ∙ done.1.counting; fits = done.1.fits })
    ]

    same_shown : StaysAt old m e.0 → shown_of m e.0 ≡ shown_of old e.0
    same_shown s = sym (table_is m e.0) ∙ ap (λ z. z.table) s.0 ∙ table_is old e.0

    hole_there : found newer.groups.entries e.0 ≡ Some e.1 → StaysAt old m e.0 → LeavesHole (shown_of m e.0) (replay_of e.1.table) ≡ LeavesHole (shown_of old e.0) (replayed_of newer e.0)
    hole_there is s = ap₂ (λ v z. LeavesHole v z) (same_shown s) (sym (ap replayed_in is))

    pub join_refused : (error : Error) → Joining (e ∷ es) → TableRefused (shown_of m e.0) (replay_of e.1.table) error → JoinRefused old newer error
    join_refused error h refused =
        let first = first_to_come (StaysAt old m) (JoinsAt old newer m) newer.groups.entries e es h.1 in
        elim refused [
          | inl hole ↦ inl (hole.0, (e.0, subst (λ (t : Type 0). t) (hole_there first.0 first.1) hole.1))
          | inr memory ↦ inr memory
        ]

pub join_one : (old newer m k : MemTables) (e : ℕ × GroupTable) (es : List (ℕ × GroupTable)) → Joining old newer m (e ∷ es) → JoinsOne m k e.0 e.1 → Joining old newer k es
join_one old newer m k e es h one = (
  h.0.1,
  one_came (StaysAt old m) (JoinsAt old newer m) newer.groups.entries e es (StaysAt old k) (JoinsAt old newer k) h.0
      (λ g apart s. ((one.others g apart).0 ∙ s.0, (one.others g apart).1 ∙ s.1))
      (λ g apart d. record { read = (one.others g apart).0 ∙ d.read; counting = (one.others g apart).1 ∙ d.counting; fits = d.fits })
      (λ is s. record {
        read = one.read ∙ ap₂ joined s.0 (sym (ap replayed_in is));
        counting = one.counting ∙ ap₂ (λ o b. counts_in o || (b && not (shown_in o).cleaned)) (sym is) s.1;
        fits = λ hole. one.fits (subst (λ (t : Type 0). t) (sym (hole_there old newer m e es k is s)) hole);
      }) h.1,
)

-- Append over Rewrite.
module _ (old append m : MemTables) where
  -- some groups have what both queues come to, and these are left
  abbrev pub Merging : List (ℕ × GroupTable) → Type 0
  Merging rest = AllOnce rest × ((g : ℕ) → ToComeOr (UnmarkedAt old m) (MergesAt old append m) append.groups.entries rest g)

  pub all_merged : Merging [] → MergesAll old append m
  all_merged h g = elim (h.1 g) [
    | inr done ↦ done.1
    | inl left ↦
        let none : get nat_cmp append.groups g ≡ None = sym left.0 in
        record {
          shows = left.1.0 ∙ sym (rewrite_alone (shown_of old g)) ∙ ap (merged (shown_of old g)) (sym (ap replayed_in none));
          counting = left.1.1 ∙ and_true (counts old g) ∙ ap (λ o. counts_in o || (counts old g && not (shown_in o).cleaned)) (sym none);
        }
  ]

  pub merge_stops : (rest : List (ℕ × GroupTable)) (k : MemTables) → Merging rest → ((g : ℕ) → SameAt m k g) → MergesSome old append k
  merge_stops rest k h same g = elim (h.1 g) [
    | inl left ↦ inl ((same g).0 ∙ left.1.0, (same g).1 ∙ left.1.1)
    | inr done ↦ inr (record { shows = (same g).0 ∙ done.1.shows; counting = (same g).1 ∙ done.1.counting })
  ]

merged_unmarked : (v : Shown) (z : Replayed) → merged (unmarked v) z ≡ merged v z
merged_unmarked v z = refl

pub merge_one : (old append m k : MemTables) (e : ℕ × GroupTable) (es : List (ℕ × GroupTable)) → Merging old append m (e ∷ es) → MergesOne m k e.0 e.1 → Merging old append k es
merge_one old append m k e es h one = (
  h.0.1,
  one_came (UnmarkedAt old m) (MergesAt old append m) append.groups.entries e es (UnmarkedAt old k) (MergesAt old append k) h.0
      (λ g apart s. ((one.others g apart).0 ∙ s.0, (one.others g apart).1 ∙ s.1))
      (λ g apart d. record { shows = (one.others g apart).0 ∙ d.shows; counting = (one.others g apart).1 ∙ d.counting })
      (λ is s. record {
        shows = one.shows ∙ ap₂ merged s.0 (sym (ap replayed_in is)) ∙ merged_unmarked (shown_of old e.0) (replayed_of append e.0);
        counting = one.counting ∙ ap₂ (λ o b. counts_in o || (b && not (shown_in o).cleaned)) (sym is) s.1;
      }) h.1,
)

-- nothing is prepared once the marks are cleared, where nothing was
pub unmarked_rests : (old m : MemTables) → ((g : ℕ) → shown_of m g ≡ unmarked (shown_of old g)) → ((g : ℕ) → promise_of m g ≡ with_room_of (promise_of old g) (shown_of old g)) → IsAtRest old → IsAtRest m
unmarked_rests old m shows same rest g = ap (λ q. q.ends) (same g) ∙ rest g ∙ ap span (sym (shows g))
