-- Each step keeps the rule: there is one history.
use Rattle.std.proofs.Common.{◌≡◌, ◌≢◌, ℕ, zero, suc, List, [], ◌∷◌, ◌++◌, length, set, true, false, true≢false, refl, sym, ap, ◌∙◌, subst, ⊎_elim, append_assoc}
use Rattle.std.proofs.lemmas.List.{append-nil}
use mathlib.Core.Option.{some, some-ne-none, some-injective}
use lib.ListN.{get_elem?}
use Rattle.crossbeam_utils.specs.Register.{Turns, Forks, Merges}
use Rattle.atomic_table.proofs.Lists.{at_set, at_snoc, set_again}
use Rattle.raft_log_shared.specs.declared.served.Served.{Served}
use Rattle.raft_log_shared.specs.declared.rule.View.{View}
use Rattle.raft_log_shared.specs.History.{HasPart, IsOneHistory, IsTrue, Notes, Finds, knows, claims_part, spent, with_claim}

off : false ≡ true → ⊥
off e = true≢false (sym e)

-- A part of a history.

-- a part stays one where records are added
grown : (all more : List Served) (first : ℕ) (part : List Served) → HasPart all first part → HasPart (all ++ more) first part
grown all more first part h = record {
  before = h.before;
  later = h.later ++ more;
  is = ap (λ (l : List Served). l ++ more) h.is ∙ append_assoc h.before (part ++ h.later) more
      ∙ ap (λ (l : List Served). h.before ++ l) (append_assoc part h.later more);
  at = h.at;
}

-- the records that were added last are one
pub added : (all part : List Served) → HasPart (all ++ part) (length all) part
added all part = record { before = all; later = []; is = ap (λ (l : List Served). all ++ l) (sym (append-nil part)); at = refl }

-- The rule.

true_set : (seat : ℕ) (log now : List Served) (views : List View) (by : ℕ) (w : View)
    → ((j : ℕ) (u : View) → j ≢ by → get_elem? views j ≡ some u → IsTrue seat now j u) → IsTrue seat now by w
    → (j : ℕ) (u : View) → get_elem? (set views by w) j ≡ some u → IsTrue seat now j u
true_set seat log now views by w others mine j u e =
    ⊎_elim
    (λ (x : (j ≡ by) × (w ≡ u)). subst (λ (y : ℕ × View). IsTrue seat now y.0 y.1) (λ i. (sym x.0 i, x.1 i)) mine)
    (λ (x : (j ≢ by) × (get_elem? views j ≡ some u)). others j u x.0 x.1)
    (at_set views by j w u e)

pub begins : (words : List ℕ) → IsOneHistory words (knows [] ∷ [])
begins words = (0, [], one)
  where
    one : (by : ℕ) (v : View) → get_elem? (knows [] ∷ []) by ≡ some v → IsTrue 0 [] by v
    one zero v e = subst (IsTrue 0 [] 0) (some-injective _ _ e) ((λ _. (refl, refl)), (λ c. absurd (off c)))
    one (suc by) v e = absurd (some-ne-none v (sym e))

notes : (by : ℕ) (all part : List Served) → Turns IsOneHistory by (knows all) (λ x. x) (Notes part)
notes by all part words views h at =
    let mine = (h.2 by (knows all) at).0 refl in
    let w = knows (all ++ part) in
    let log = h.1 ++ part in (
      w,
      (
        h.0,
        log,
        true_set h.0 h.1 log views by w
            (λ j u apart e. ((λ k. absurd (apart (((h.2 j u e).0 k).0 ∙ sym mine.0))), (λ c. grown h.1 part u.first u.part ((h.2 j u e).1 c))))
            ((λ _. (mine.0, ap (λ l. l ++ part) mine.1)), (λ c. absurd (off c))),
      ),
      refl,
    )

pub finds : (by : ℕ) (v : View) → v.keeps ≡ true → Turns IsOneHistory by v (λ x. x) Finds
finds by v keeps words views h at =
    let mine = h.2 by v at in
    let known = mine.0 keeps in
    let w = knows v.all in
    (w, (h.0, h.1, true_set h.0 h.1 h.1 views by w (λ j u apart e. h.2 j u e) ((λ _. known), (λ c. absurd (off c)))), (refl, λ c. subst (λ l. HasPart l v.first v.part) (sym known.1) (mine.1 c)))

gives : (by : ℕ) (all : List Served) (first : ℕ) (part : List Served) → HasPart all first part
    → Forks IsOneHistory by (knows all) (knows all) (claims_part first part)
gives by all first part has words views h at =
    let mine = (h.2 by (knows all) at).0 refl in (
      h.0,
      h.1,
      λ j u e. ⊎_elim
          (λ was. h.2 j u (subst (λ l. get_elem? l j ≡ some u) (set_again views by (knows all) at) was))
          (λ (same : claims_part first part ≡ u). subst (IsTrue h.0 h.1 j) same ((λ k. absurd (off k)), (λ _. subst (λ l. HasPart l first part) mine.1 has)))
          (at_snoc (set views by (knows all)) (claims_part first part) u j e),
    )

takes_in : (by : ℕ) (all : List Served) (other : ℕ) (u : View) → Merges IsOneHistory by (knows all) other u (with_claim (knows all) u) spent
takes_in by all other u words views h at apart there =
    let w = with_claim (knows all) u in
    let mine = (h.2 by (knows all) at).0 refl in
    let theirs = ⊎_elim (λ (t : (other ≡ by) × (w ≡ u)). absurd (apart t.0)) (λ (t : (other ≢ by) × (get_elem? views other ≡ some u)). h.2 other u t.1) (at_set views by other w u there) in
    (h.0, h.1, true_set h.0 h.1 h.1 (set views by w) other spent (λ j v _ e. true_set h.0 h.1 h.1 views by w (λ i y _ e'. h.2 i y e') ((λ _. mine), theirs.1) j v e) ((λ k. absurd (off k)), (λ c. absurd (off c))))

moves : (by first : ℕ) (part : List Served) → Forks IsOneHistory by (claims_part first part) spent (claims_part first part)
moves by first part words views h at =
    let mine = (h.2 by (claims_part first part) at).1 refl in (
      h.0,
      h.1,
      λ j u e. ⊎_elim
          (λ was. true_set h.0 h.1 h.1 views by spent (λ i y _ e'. h.2 i y e') ((λ k. absurd (off k)), (λ c. absurd (off c))) j u was)
          (λ (same : claims_part first part ≡ u). subst (IsTrue h.0 h.1 j) same ((λ k. absurd (off k)), (λ _. mine)))
          (at_snoc (set views by spent) (claims_part first part) u j e),
    )

shares : (by first : ℕ) (part : List Served) → Forks IsOneHistory by (claims_part first part) (claims_part first part) (claims_part first part)
shares by first part words views h at =
    let v = claims_part first part in
    let mine = (h.2 by v at).1 refl in (
      h.0,
      h.1,
      λ j u e. ⊎_elim
          (λ was. h.2 j u (subst (λ l. get_elem? l j ≡ some u) (set_again views by v at) was))
          (λ (same : v ≡ u). subst (IsTrue h.0 h.1 j) same ((λ k. absurd (off k)), (λ _. mine)))
          (at_snoc (set views by v) v u j e),
    )

-- The moves, of a view that is known.

pub notes_as : (by : ℕ) (v : View) (part : List Served) → v ≡ knows v.all → Turns IsOneHistory by v (λ x. x) (Notes part)
notes_as by v part is = subst (λ (u : View). Turns IsOneHistory by u (λ x. x) (Notes part)) (sym is) (notes by v.all part)

pub gives_as : (by : ℕ) (v : View) (all : List Served) (first : ℕ) (part : List Served) → v ≡ knows all → HasPart all first part
    → Forks IsOneHistory by v v (claims_part first part)
gives_as by v all first part is has =
    subst (λ (u : View). Forks IsOneHistory by u u (claims_part first part)) (sym is) (gives by all first part has)

pub takes_in_as : (by : ℕ) (v : View) (other : ℕ) (u : View) → v ≡ knows v.all → Merges IsOneHistory by v other u (with_claim v u) spent
takes_in_as by v other u is =
    subst (λ (x : View). Merges IsOneHistory by x other u (with_claim x u) spent) (sym is) (takes_in by v.all other u)

pub moves_as : (by : ℕ) (v : View) (first : ℕ) (part : List Served) → v ≡ claims_part first part → Forks IsOneHistory by v spent v
moves_as by v first part is = subst (λ (u : View). Forks IsOneHistory by u spent u) (sym is) (moves by first part)

pub shares_as : (by : ℕ) (v : View) (first : ℕ) (part : List Served) → v ≡ claims_part first part → Forks IsOneHistory by v v v
shares_as by v first part is = subst (λ (u : View). Forks IsOneHistory by u u u) (sym is) (shares by first part)
