-- What is told of each group, one after another.
use Rattle.std.proofs.Common.{◌≡◌, ℕ, ◌==◌, List, [], ◌∷◌, ◌++◌, Option, Some, None, Result, Ok, Err, IfOk, refl, sym, ap, subst, ◌∙◌, append-nil}
use Rattle.std.proofs.lemmas.Cmp.{nat_cmp_total}
use Rattle.std.proofs.lemmas.Map.Lookups.{exact_unsigned}
use Rattle.std.proofs.lemmas.Map.Views.{btree_map_get_iff}
use Rattle.std.specs.BTreeMap.{BTreeMap, IsOrdered}
use Rattle.std.specs.Option.{option_and_then, option_or}
use Rattle.std.specs.Ordering.{nat_cmp}
use Rattle.raft_log_offline.specs.declared.group_runs.GroupRuns.{GroupRuns}
use Rattle.raft_log_offline.specs.declared.checker.ConsistencyChecker.{ConsistencyChecker}
use Rattle.raft_log_offline.specs.Findings.{Lists, NotesFinding, TellsOver, found_among, told_by, told_over}
use Rattle.raft_log_offline.proofs.Holes.{by_test}
use Rattle.raft_log_offline.proofs.Keeping.{equal_if}
use Rattle.raft_log_offline.proofs.Groups.{AllOnce, found, found_first, found_later}

-- what is told of a group among these
abbrev pub told_among : List (ℕ × GroupRuns) → ℕ → Option ℕ
told_among es g = option_and_then (λ k. k.hole_after) (found es g)

-- with what is left, of each group is told what is to be
pub record Telling (checker : ConsistencyChecker) (old now : BTreeMap ℕ ℕ) (rest : List (ℕ × GroupRuns)) : Type 0 where
  pub once : AllOnce rest
  pub comes : (g : ℕ) → told_over (told_among rest) (found_among now) g ≡ told_over (told_by checker) (found_among old) g

pub telling_begins : (checker : ConsistencyChecker) (old : BTreeMap ℕ ℕ) (rest : List (ℕ × GroupRuns)) → rest ≡ checker.groups.entries → AllOnce checker.groups.entries → Telling checker old old rest
telling_begins checker old rest all once = record { once = subst AllOnce (sym all) once; comes = λ g. ap (λ es. told_over (told_among es) (found_among old) g) all }

pub tells_one : (checker : ConsistencyChecker) (old now next : BTreeMap ℕ ℕ) (e : ℕ × GroupRuns) (es : List (ℕ × GroupRuns)) → Telling checker old now (e ∷ es)
    → NotesFinding e.0 e.1.hole_after now next → Telling checker old next es
tells_one checker old now next e es h one = record {
  once = h.once.1;
  comes = λ g. by_test (e.0 == g)
      (λ t. subst (λ (j : ℕ). told_over (told_among es) (found_among next) j ≡ told_over (told_by checker) (found_among old) j) (equal_if e.0 g t)
      (ap (λ o. option_or (option_and_then (λ k. k.hole_after) o) (found_among next e.0)) h.once.0 ∙ one.one
      ∙ ap (λ o. option_or (option_and_then (λ k. k.hole_after) o) (found_among now e.0)) (sym (found_first e es)) ∙ h.comes e.0))
      (λ t. ap (λ o. option_or (told_among es g) o) (one.others g t)
      ∙ ap (λ o. option_or (option_and_then (λ k. k.hole_after) o) (found_among now g)) (sym (found_later e es g t)) ∙ h.comes g);
}

pub tells_all : (checker : ConsistencyChecker) (old now : BTreeMap ℕ ℕ) (rest : List (ℕ × GroupRuns)) → rest ≡ [] → Telling checker old now rest → TellsOver (told_by checker) old now
tells_all checker old now rest none h g = ap (λ es. told_over (told_among es) (found_among now) g) (sym none) ∙ h.comes g

-- the entries of a map are what is found in it
pub lists_map : (m : BTreeMap ℕ ℕ) (findings rest : List (ℕ × ℕ)) → IsOrdered nat_cmp m → rest ≡ [] → findings ++ rest ≡ m.entries → Lists (found_among m) findings
lists_map m findings rest ordered none all =
    subst (Lists (found_among m)) (sym all ∙ ap (λ es. findings ++ es) none ∙ append-nil findings)
    (record { rising = ordered; exact = λ g end. let iff = btree_map_get_iff nat_cmp_total exact_unsigned m ordered g end in (iff.1, iff.0) })

-- the same findings, otherwise told
pub lists_same : (p q : ℕ → Option ℕ) → ((g : ℕ) → p g ≡ q g) → (findings : List (ℕ × ℕ)) → Lists p findings → Lists q findings
lists_same p q same findings h = record {
  rising = h.rising;
  exact = λ g end. let iff = h.exact g end in (λ k. sym (same g) ∙ iff.0 k, λ k. iff.1 (same g ∙ k));
}

none_behind : (o : Option ℕ) → option_or o None ≡ o
none_behind None = refl
none_behind (Some x) = refl

pub lists_told : {T E : Type 0} (items : T → List (ℕ × ℕ)) (p q : ℕ → Option ℕ) → ((g : ℕ) → p g ≡ q g) → (r : Result T E) → IfOk r (λ t. Lists p (items t)) → IfOk r (λ t. Lists q (items t))
lists_told items p q same (Ok t) h = lists_same p q same (items t) h
lists_told items p q same (Err e) h = h

pub none_in_empty : (m : BTreeMap ℕ ℕ) → m.entries ≡ [] → (g : ℕ) → found_among m g ≡ None
none_in_empty m empty g = ap (λ es. found es g) empty

pub list_begins : (findings entries all : List (ℕ × ℕ)) → findings ≡ [] → entries ≡ all → findings ++ entries ≡ all
list_begins findings entries all none is = ap (λ xs. xs ++ entries) none ∙ is

-- findings over none
pub tells_alone : (p : ℕ → Option ℕ) (old new : BTreeMap ℕ ℕ) → ((g : ℕ) → found_among old g ≡ None) → TellsOver p old new → (g : ℕ) → found_among new g ≡ p g
tells_alone p old new none tells g = tells g ∙ ap (option_or (p g)) (none g) ∙ none_behind (p g)

-- findings over findings over none
pub tells_both : (p q : ℕ → Option ℕ) (old mid new : BTreeMap ℕ ℕ) → ((g : ℕ) → found_among old g ≡ None) → TellsOver q old mid → TellsOver p mid new → (g : ℕ) → found_among new g ≡ told_over p q g
tells_both p q old mid new none first second g = second g ∙ ap (option_or (p g)) (tells_alone q old mid none first g)
