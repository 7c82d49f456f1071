-- What is kept of each group comes behind what was, one group after another.
use Rattle.std.proofs.Common.{◌≡◌, ℕ, ◌==◌, true, false, List, [], ◌∷◌, map, Option, Some, None, refl, sym, ap, subst, ◌∙◌, arith}
use Rattle.std.specs.BTreeMap.{is_at}
use Rattle.std.specs.List.{AllByRecursion, IsDistinct}
use Rattle.std.specs.Map.{lookup}
use Rattle.std.specs.Ordering.{is_eq, nat_cmp, eq_by_cmp}
use Rattle.raft_log_offline.specs.declared.group_runs.GroupRuns.{GroupRuns}
use Rattle.raft_log_offline.specs.declared.checker.ConsistencyChecker.{ConsistencyChecker}
use Rattle.raft_log_offline.specs.Kept.{FollowsAll, FollowsIn, both_kept, kept_of}
use Rattle.raft_log_offline.proofs.Holes.{by_test, if_not, if_so}
use Rattle.raft_log_offline.proofs.Keeping.{equal_if, nothing_behind}

-- what is kept of a group among these
abbrev pub found : {V : Type 0} → List (ℕ × V) → ℕ → Option V
found es g = lookup (is_at (nat_cmp g)) es

-- no group comes twice
abbrev pub AllOnce : {V : Type 0} → List (ℕ × V) → Type 0
AllOnce [] = Unit {0}
AllOnce (e ∷ es) = (found es e.0 ≡ None) × AllOnce es

module _ {V : Type 0} where
  none_later : (k : ℕ) (es : List (ℕ × V)) → AllByRecursion (λ y. is_eq (nat_cmp k y) ≡ false) (map (λ e. e.0) es) → found es k ≡ None
  none_later k [] h = refl
  none_later k (e ∷ es) h = if_not (is_eq (nat_cmp k e.0)) (Some e.1) (found es k) h.0 ∙ none_later k es h.1

  pub once_each : (es : List (ℕ × V)) → IsDistinct (eq_by_cmp nat_cmp) (map (λ e. e.0) es) → AllOnce es
  unfolding IsDistinct
  once_each [] h = tt
  once_each (e ∷ es) h = (none_later e.0 es h.0, once_each es h.1)

  pub found_first : (e : ℕ × V) (es : List (ℕ × V)) → found (e ∷ es) e.0 ≡ Some e.1
  found_first e es = if_so (is_eq (nat_cmp e.0 e.0)) (Some e.1) (found es e.0) (alike e.0)
    where
      alike : (n : ℕ) → is_eq (nat_cmp n n) ≡ true
      alike n = grind (arith)

  pub found_later : (e : ℕ × V) (es : List (ℕ × V)) (g : ℕ) → (e.0 == g) ≡ false → found (e ∷ es) g ≡ found es g
  found_later e es g apart = if_not (is_eq (nat_cmp g e.0)) (Some e.1) (found es g) (differ e.0 g apart)
    where
      differ : (a b : ℕ) → (a == b) ≡ false → is_eq (nat_cmp b a) ≡ false
      differ a b h = grind (arith, h)

-- with what is left of the later ones, each group comes to what it is to
pub record Following (old later now : ConsistencyChecker) (rest : List (ℕ × GroupRuns)) : Type 0 where
  pub once : AllOnce rest
  pub comes : (g : ℕ) → both_kept (kept_of now g) (found rest g) ≡ both_kept (kept_of old g) (kept_of later g)

pub begins : (old later : ConsistencyChecker) (rest : List (ℕ × GroupRuns)) → rest ≡ later.groups.entries → AllOnce later.groups.entries → Following old later old rest
begins old later rest all once = record { once = subst AllOnce (sym all) once; comes = λ g. ap (λ es. both_kept (kept_of old g) (found es g)) all }

pub follows_one : (old later now next : ConsistencyChecker) (e : ℕ × GroupRuns) (es : List (ℕ × GroupRuns)) → Following old later now (e ∷ es) → FollowsIn now next e.0 e.1
    → Following old later next es
follows_one old later now next e es h one = record {
  once = h.once.1;
  comes = λ g. by_test (e.0 == g)
      (λ t. subst (λ (j : ℕ). both_kept (kept_of next j) (found es j) ≡ both_kept (kept_of old j) (kept_of later j)) (equal_if e.0 g t)
      (ap (λ o. both_kept (kept_of next e.0) o) h.once.0 ∙ nothing_behind (kept_of next e.0) ∙ one.both
      ∙ ap (λ o. both_kept (kept_of now e.0) o) (sym (found_first e es)) ∙ h.comes e.0))
      (λ t. ap (λ o. both_kept o (found es g)) (one.others g t) ∙ ap (λ o. both_kept (kept_of now g) o) (sym (found_later e es g t)) ∙ h.comes g);
}

pub follows_all : (old later now : ConsistencyChecker) (rest : List (ℕ × GroupRuns)) → rest ≡ [] → Following old later now rest → FollowsAll old later now
follows_all old later now rest none h g = sym (nothing_behind (kept_of now g)) ∙ ap (λ es. both_kept (kept_of now g) (found es g)) (sym none) ∙ h.comes g
