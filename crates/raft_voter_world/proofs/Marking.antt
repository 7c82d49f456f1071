-- Groups whose voters differ are marked, and a round is taken until none do.
use Rattle.std.proofs.Common.{◌≡◌, ◌≢◌, ℕ, ◌+◌, ◌<◌, ◌≤◌, ◌==◌, ◌||◌, Bool, true, false, inl, inr, List, [], ◌∷◌, length, drop, slice_index_or, ap, refl, sym, subst, ◌∙◌, arith}
use Rattle.std.proofs.Math.Path.{fun_ext}
use Rattle.std.proofs.lemmas.Bool.Decides.{nat_tests}
use Rattle.std.proofs.lemmas.Bool.{eqb-true, eq-eqb, false≢true, cases_lt}
use Rattle.std.proofs.lemmas.Grind.{common_steps}
use Rattle.std.specs.BTreeMap.{is_at}
use Rattle.std.specs.BTreeSet.{BTreeSet, btree_set_len, contains}
use Rattle.std.specs.Ordering.{nat_cmp}
use Rattle.raft_voter_messages.specs.declared.request.Request.{Request}
use Rattle.raft_voter_outline.specs.State.{fresh}
use Rattle.raft_voter.specs.Rounds.{World, after, after_one, is_among, taken_from}
use Rattle.raft_voter.specs.Service.{CutRound}
use Rattle.raft_voter.specs.Voters.{is_listed}
use Rattle.raft_voter.proofs.Public.{taken_none, taken_past}
use Rattle.raft_voter_world.specs.Differing.{Leave, Marks}
use Rattle.raft_voter_world.specs.Places.{IsLeastPlace, world_at}

-- Marks.

by_eq : (g x : ℕ) (P : Type 0) → (g ≡ x → P) → ((g ≡ x → ⊥) → P) → P
by_eq g x P same apart = go (g == x) refl
  where
    go : (b : Bool) → (g == x) ≡ b → P
    go true e = same (eqb-true g x e)
    go false e = apart (λ h. false≢true (sym e ∙ eq-eqb g x h))

-- what is marked where the set is as it was
kept_mark : (W X : World) (d e : BTreeSet ℕ) (g : ℕ) → contains nat_cmp e g ≡ contains nat_cmp d g → Marks W X d g → Marks W X e g
kept_mark W X d e g same m = record { differ = λ h. m.differ (sym same ∙ h); same = λ h. m.same (sym same ∙ h) }

-- one group more is marked
pub mark_more : (W X : World) (d e : BTreeSet ℕ) (x g : ℕ) → Marks W X e x → ((h : ℕ) → (h ≡ x → ⊥) → contains nat_cmp e h ≡ contains nat_cmp d h) → Marks W X d g → Marks W X e g
mark_more W X d e x g m others old =
    by_eq g x (Marks W X e g) (λ is. subst (λ (h : ℕ). Marks W X e h) (sym is) m) (λ apart. kept_mark W X d e g (others g apart) old)

pub leave_more : (W X : World) (a d e : BTreeSet ℕ) (x g : ℕ) → Marks W X e x → ((h : ℕ) → (h ≡ x → ⊥) → contains nat_cmp e h ≡ contains nat_cmp d h) → Leave W X a d g → Leave W X a e g
leave_more W X a d e x g m others old =
    by_eq g x (Leave W X a e g) (λ is. inr (subst (λ (h : ℕ). Marks W X e h) (sym is) m)) (λ apart. go old (others g apart))
  where
    go : Leave W X a d g → contains nat_cmp e g ≡ contains nat_cmp d g → Leave W X a e g
    go (inl was) same = inl (same ∙ was)
    go (inr n) same = inr (kept_mark W X d e g same n)

-- what is so of each of some groups is so of one that is listed
pub of_listed : (gs : List ℕ) (g : ℕ) (P : ℕ → Type 0) → ((k : ℕ) → k < length gs → P (slice_index_or gs k 0)) → is_listed gs g ≡ true → P g
of_listed [] g P each listed = absurd (false≢true listed)
of_listed (x ∷ gs) g P each listed =
    go (is_at (nat_cmp g) x) refl (λ later. of_listed gs g P (λ k below. next k (each (k + 1) (omega (arith, below)))) later)
  where
    next : (k : ℕ) → P (slice_index_or (x ∷ gs) (k + 1) 0) → P (slice_index_or gs k 0)
    next k h =
        let is : slice_index_or (x ∷ gs) (k + 1) 0 ≡ slice_index_or gs k 0 = grind (arith, common_steps) in
        subst P is h

    go : (b : Bool) → is_at (nat_cmp g) x ≡ b → (is_listed gs g ≡ true → P g) → P g
    go true e rest =
        let is : x ≡ g = grind (arith, common_steps) in
        subst P is (each 0 (omega arith))
    go false e rest =
        let later : is_listed gs g ≡ true = grind (arith, common_steps) in
        rest later

-- groups that are listed nowhere have fresh voters
pub all_marked : (W X : World) (a d e : BTreeSet ℕ) (here there : List ℕ) → ((g : ℕ) → contains nat_cmp a g ≡ false)
    → ((g : ℕ) → is_listed here g ≡ false → W g ≡ fresh) → ((g : ℕ) → is_listed there g ≡ false → X g ≡ fresh)
    → ((g : ℕ) → is_listed here g ≡ true → Marks W X d g) → ((g : ℕ) → Leave W X a d g)
    → ((g : ℕ) → is_listed there g ≡ true → Marks W X e g) → ((g : ℕ) → Leave W X d e g) → (g : ℕ) → Marks W X e g
all_marked W X a d e here there none blank blank' marked left marked' left' g = second (left' g)
  where
    outside : contains nat_cmp e g ≡ contains nat_cmp d g → contains nat_cmp d g ≡ contains nat_cmp a g → (b c : Bool) → is_listed here g ≡ b → is_listed there g ≡ c → Marks W X e g
    outside same was true c h t = kept_mark W X d e g same (marked g h)
    outside same was false true h t = marked' g t
    outside same was false false h t = record { differ = λ f. absurd (false≢true (sym (same ∙ was ∙ none g) ∙ f)); same = λ f. blank g h ∙ sym (blank' g t) }

    first : contains nat_cmp e g ≡ contains nat_cmp d g → Leave W X a d g → Marks W X e g
    first same (inl was) = outside same was (is_listed here g) (is_listed there g) refl refl
    first same (inr m) = kept_mark W X d e g same m

    second : Leave W X d e g → Marks W X e g
    second (inl same) = first same (left g)
    second (inr m) = m

-- Worlds.

-- where no group is marked the worlds are one
pub none_differ : (W X : World) (d : BTreeSet ℕ) → ((g : ℕ) → Marks W X d g) → btree_set_len d ≡ 0 → W ≡ X
none_differ W X d marked empty = fun_ext (λ g. (marked g).same (none_in d.keys empty g))
  where
    none_in : (ks : List ℕ) → length ks ≡ 0 → (g : ℕ) → is_listed ks g ≡ false
    none_in [] e g = refl
    none_in (k ∷ ks) e g = absurd (omega (arith, e))

at_itself : (k : ℕ) → is_at (nat_cmp k) k ≡ true
at_itself k = grind (arith, common_steps)

-- where some group is they are two
pub some_differ : (W X : World) (d : BTreeSet ℕ) → ((g : ℕ) → Marks W X d g) → (btree_set_len d ≡ 0 → ⊥) → X ≡ W → ⊥
some_differ W X d marked some one = go d.keys refl
  where
    go : (ks : List ℕ) → d.keys ≡ ks → ⊥
    go [] e = some (ap length e)
    go (k ∷ ks) e =
        let here : contains nat_cmp d k ≡ true = ap (λ (xs : List ℕ). is_listed xs k) e ∙ ap (λ b. b || is_listed ks k) (at_itself k) in
        (marked k).differ here (ap (λ (Z : World). Z k) (sym one))

-- A round that is taken request by request: at this place these voters stand, and those that differ from the shown
-- ones are marked; no place before fits.
pub record IsPartway (cut : CutRound) (X : World) (place : ℕ) (Y : World) (d : BTreeSet ℕ) : Type 0 where
  pub reached : (end : ℕ) → place ≤ end → after Y (taken_from place end cut.refused (drop place cut.requests)) ≡ world_at cut end
  pub marked : (g : ℕ) → Marks Y X d g
  pub before : (j : ℕ) → j < place → X ≢ world_at cut j

pub begins : (cut : CutRound) (X : World) (d : BTreeSet ℕ) → ((g : ℕ) → Marks cut.before X d g) → IsPartway cut X 0 cut.before d
begins cut X d marked = record { reached = λ end past. refl; marked = marked; before = λ j below. absurd (omega (arith, below)) }

-- the voters at the place
stands : (cut : CutRound) (X Y : World) (place : ℕ) (d : BTreeSet ℕ) → IsPartway cut X place Y d → Y ≡ world_at cut place
stands cut X Y place d p =
    sym (ap (after Y) (taken_none (drop place cut.requests) place place cut.refused (omega arith))) ∙ p.reached place (omega arith)

pub found_here : (cut : CutRound) (X Y : World) (place : ℕ) (d : BTreeSet ℕ) → IsPartway cut X place Y d → place ≤ length cut.requests → btree_set_len d ≡ 0 → IsLeastPlace cut X place
found_here cut X Y place d p within empty = record { within = within; fits = sym (none_differ Y X d p.marked empty) ∙ stands cut X Y place d p; least = p.before }

pub found_last : (cut : CutRound) (X Y : World) (place : ℕ) (d : BTreeSet ℕ) → IsPartway cut X place Y d → place ≡ length cut.requests → btree_set_len d ≡ 0 → IsLeastPlace cut X (length cut.requests)
found_last cut X Y place d p last empty = subst (λ (n : ℕ). IsLeastPlace cut X n) last (found_here cut X Y place d p (omega (arith, last)) empty)

-- nor does this one
pub not_here : (cut : CutRound) (X Y : World) (place : ℕ) (d : BTreeSet ℕ) → IsPartway cut X place Y d → (btree_set_len d ≡ 0 → ⊥) → (j : ℕ) → j < place + 1 → X ≢ world_at cut j
not_here cut X Y place d p some j below = elim (cases_lt j place) [
  | inl earlier ↦ p.before j earlier
  | inr last ↦
      let is : j ≡ place = omega (arith, below, last) in
      λ one. some_differ Y X d p.marked some (one ∙ ap (world_at cut) is ∙ sym (stands cut X Y place d p))
]

pub skipped : (cut : CutRound) (X Y : World) (place : ℕ) (d : BTreeSet ℕ) (q : ℕ × Request) → IsPartway cut X place Y d → (btree_set_len d ≡ 0 → ⊥)
    → drop place cut.requests ≡ q ∷ drop (place + 1) cut.requests → is_among cut.refused place ≡ true → IsPartway cut X (place + 1) Y d
skipped cut X Y place d q p some more refused = record {
  reached = λ end past.
      let same : taken_from place end cut.refused (q ∷ drop (place + 1) cut.requests) ≡ taken_from (place + 1) end cut.refused (drop (place + 1) cut.requests) = grind (arith, nat_tests) in
      ap (after Y) (sym (ap (taken_from place end cut.refused) more ∙ same)) ∙ p.reached end (omega (arith, past));
  marked = p.marked;
  before = not_here cut X Y place d p some;
}

pub taken_one : (cut : CutRound) (X Y Z : World) (place : ℕ) (d e : BTreeSet ℕ) (q : ℕ × Request) → IsPartway cut X place Y d → (btree_set_len d ≡ 0 → ⊥)
    → drop place cut.requests ≡ q ∷ drop (place + 1) cut.requests → is_among cut.refused place ≡ false → Z ≡ after_one Y q
    → Marks Z X e q.0 → ((h : ℕ) → (h ≡ q.0 → ⊥) → contains nat_cmp e h ≡ contains nat_cmp d h) → IsPartway cut X (place + 1) Z e
taken_one cut X Y Z place d e q p some more free is m others = record {
  reached = λ end past.
      ap (λ (V : World). after V (taken_from (place + 1) end cut.refused (drop (place + 1) cut.requests))) is
      ∙ taken_past cut.requests place end q cut.refused Y more free (omega (arith, past))
      ∙ p.reached end (omega (arith, past));
  marked = λ g. by_eq g q.0 (Marks Z X e g) (λ here. subst (λ (h : ℕ). Marks Z X e h) (sym here) m) (λ apart. elsewhere g apart);
  before = not_here cut X Y place d p some;
}
  where
    elsewhere : (g : ℕ) → (g ≡ q.0 → ⊥) → Marks Z X e g
    elsewhere g apart =
        let off : (g == q.0) ≡ false = grind (arith, common_steps) in
        let stays : after_one Y q g ≡ Y g = grind (arith) in
        let voter : Z g ≡ Y g = ap (λ (V : World). V g) is ∙ stays in
        let old = p.marked g in
        record {
          differ = λ h. λ same. old.differ (sym (others g apart) ∙ h) (sym voter ∙ same);
          same = λ h. voter ∙ old.same (sym (others g apart) ∙ h);
        }
