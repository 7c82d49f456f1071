-- What groups weigh, one after another, until a budget is spent.
use Rattle.std.proofs.Common.{◌≡◌, ◌⊎◌, ◌+◌, ◌-◌, ◌^◌, ◌<◌, ◌≤◌, ℕ, min, List, [], ◌∷◌, ◌++◌, length, take, get_or, Option, inl, inr, refl, sym, ap, subst, ◌∙◌, arith}
use Rattle.std.proofs.lemmas.List.{take_more}
use Rattle.raft_log_record_items.specs.declared.entry.EntryIndex.{EntryIndex}
use Rattle.raft_log_record_items.specs.Placed.{run_len}
use Rattle.raft_log_memtable_index.specs.Listing.{ListsAll}
use Rattle.raft_log_memtable_index.specs.Shown.{Shown}
use Rattle.raft_log_memtable.specs.Stats.{plus}
use Rattle.raft_log_purge_steps.specs.Weights.{IsAffordable, WeighTogether, Weighs, copied_entries, copied_values, pairs_len}

-- One group.

pub weighs_so : (gate : Option ℕ) (v : Shown) (es now : List EntryIndex) (pairs also : List (List ℕ × List ℕ)) (n : ℕ) → now ≡ es → also ≡ pairs → es ≡ copied_entries gate v → ListsAll (copied_values gate v) pairs
    → n ≡ min (run_len now + pairs_len also) (2 ^ 64 - 1) → Weighs gate v n
weighs_so gate v es now pairs also n same too is lists sum =
    (pairs, lists, sum ∙ (ap (λ (l : List EntryIndex). min (run_len l + pairs_len also) (2 ^ 64 - 1)) (same ∙ is) ∙ ap (λ (l : List (List ℕ × List ℕ)). min (run_len (copied_entries gate v) + pairs_len l) (2 ^ 64 - 1)) too))

-- One group more.

weigh_more : (gate : Option ℕ) (v : ℕ → Shown) (gs : List ℕ) (g n one : ℕ) → WeighTogether gate v gs n → Weighs gate (v g) one → WeighTogether gate v (gs ++ g ∷ []) (plus n one)
weigh_more gate v [] g n one none weighs = (one, 0, weighs, refl, omega (arith, none))
weigh_more gate v (x ∷ gs) g n one (first, rest, there, others, sum) weighs =
    (first, plus rest one, there, weigh_more gate v gs g rest one others weighs, omega (arith, sum))

first_more : (gate : Option ℕ) (v : ℕ → Shown) (xs : List ℕ) (i d n one new : ℕ) → i < length xs → WeighTogether gate v (take i xs) n → Weighs gate (v (get_or xs i d)) one → new ≡ plus n one → WeighTogether gate v (take (i + 1) xs) new
first_more gate v xs i d n one new lt so_far weighs is =
    subst (λ (l : List ℕ). WeighTogether gate v l new) (sym (take_more xs i d lt))
    (subst (WeighTogether gate v (take i xs ++ get_or xs i d ∷ [])) (sym is) (weigh_more gate v (take i xs) (get_or xs i d) n one so_far weighs))

-- the first `i` groups are paid for, and the budget isn't spent
pub record SpendsTo (gate : Option ℕ) (budget : ℕ) (v : ℕ → Shown) (groups : List ℕ) (i count spent : ℕ) : Type 0 where
  pub counted : count ≡ i
  pub before : ℕ
  pub weighs : WeighTogether gate v (take (i - 1) groups) before
  pub within : (i ≤ 1) ⊎ (before < budget)
  pub reached : WeighTogether gate v (take i groups) spent
  pub low : (i ≡ 0) ⊎ (spent < budget)

pub spends_none : (gate : Option ℕ) (budget : ℕ) (v : ℕ → Shown) (groups : List ℕ) → SpendsTo gate budget v groups 0 0 0
spends_none gate budget v groups = record { counted = refl; before = 0; weighs = refl; within = inl (omega arith); reached = refl; low = inl refl }

module _ (gate : Option ℕ) (budget : ℕ) (v : ℕ → Shown) (groups : List ℕ) (i count spent : ℕ) (so : SpendsTo gate budget v groups i count spent) where
  -- what was spent before one group more
  within_more : (i + 1 ≤ 1) ⊎ (spent < budget)
  within_more = elim so.low as (λ _. (i + 1 ≤ 1) ⊎ (spent < budget)) [
    | inl none ↦ inl (omega (arith, none))
    | inr low ↦ inr low
  ]

  pub spends_more : (d one new : ℕ) → i < length groups → Weighs gate (v (get_or groups i d)) one → new ≡ plus spent one → new < budget → SpendsTo gate budget v groups (i + 1) (count + 1) new
  spends_more d one new lt weighs is below = record {
    counted = omega (arith, so.counted);
    before = spent;
    weighs = (let same : i ≡ i + 1 - 1 = omega arith in subst (λ (n : ℕ). WeighTogether gate v (take n groups) spent) same so.reached);
    within = within_more;
    reached = first_more gate v groups i d spent one new lt so.reached weighs is;
    low = inr below;
  }

  pub pays_here : (d one new : ℕ) → i < length groups → Weighs gate (v (get_or groups i d)) one → new ≡ plus spent one → budget ≤ new → IsAffordable gate budget v groups (count + 1)
  pays_here d one new lt weighs is high = record {
    few = omega (arith, so.counted, lt);
    some = λ more. omega arith;
    before = spent;
    weighs = (let same : i ≡ count + 1 - 1 = omega (arith, so.counted) in subst (λ (n : ℕ). WeighTogether gate v (take n groups) spent) same so.reached);
    within = (let same : i ≡ count = sym so.counted in subst (λ (n : ℕ). (n + 1 ≤ 1) ⊎ (spent < budget)) same within_more);
    total = new;
    reached = (let same : i + 1 ≡ count + 1 = omega (arith, so.counted) in subst (λ (n : ℕ). WeighTogether gate v (take n groups) new) same (first_more gate v groups i d spent one new lt so.reached weighs is));
    reaches = inr high;
  }

  pub pays_all : i ≡ length groups → IsAffordable gate budget v groups count
  pays_all all =
      let same : i ≡ count = sym so.counted in record {
        few = omega (arith, same, all);
        some = λ more. omega (arith, same, all, more);
        before = so.before;
        weighs = subst (λ (n : ℕ). WeighTogether gate v (take (n - 1) groups) so.before) same so.weighs;
        within = subst (λ (n : ℕ). (n ≤ 1) ⊎ (so.before < budget)) same so.within;
        total = spent;
        reached = subst (λ (n : ℕ). WeighTogether gate v (take n groups) spent) same so.reached;
        reaches = inl (omega (arith, same, all));
      }
