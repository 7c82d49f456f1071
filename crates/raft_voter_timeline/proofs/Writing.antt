-- Which rounds write, from what their requests change.
use Rattle.std.proofs.Common.{◌≡◌, ℕ, ◌||◌, Bool, true, false, if◌then◌else◌, List, [], ◌∷◌, ◌++◌, Option, Some, append-nil, append_assoc, refl, sym, ap, subst, inl, inr, ◌∙◌}
use Rattle.std.specs.Prelude.{◌⊎◌, ◌&&◌, ◌+◌, OnSome, drop, nat_lt, not}
use Rattle.std.specs.Borrow.{MutBor}
use Rattle.std.specs.Bool.{Decides}
use Rattle.raft_voter_messages.specs.declared.request.Request.{Request}
use Rattle.raft_voter_messages.specs.declared.round.Round.{Round}
use Rattle.raft_voter_outline.specs.declared.outlines.Outlines.{Outlines}
use Rattle.raft_voter_outline.specs.Decisions.{OutlineBecomes}
use Rattle.raft_voter_outline.specs.Kept.{kept_of, kept_or_fresh, outlines_in}
use Rattle.raft_voter_outline.specs.Lending.{HasOutline}
use Rattle.raft_voter_outline.specs.Outlines.{Outlined}
use Rattle.raft_voter_outline.specs.State.{State}
use Rattle.raft_voter.specs.Rounds.{World, after, after_one, fresh_world, is_among, taken_below, taken_from}
use Rattle.raft_voter_timeline.specs.Marks.{cuts_behind, taken_up_to}
use Rattle.raft_voter_timeline.specs.Writes.{AreOutlines, AreWrites, StepsOutlines, Takes, TakesIf}

-- One request.

abbrev neither : {A : Type 0} → A ⊎ ⊥ → A
neither (inl a) = a
neither (inr b) = absurd b

-- Outlines that are lent, or put.

pub kept_is : (outlines : Outlines) (g : ℕ) (o : Outlined) → kept_of outlines g ≡ Some o → o.voter ≡ outlines_in outlines g
kept_is outlines g o is = sym (ap kept_or_fresh is)

pub has_lent : (r : Option (MutBor Outlined)) (o : MutBor Outlined) {P : Type 0} → r ≡ Some o → OnSome r P → P
has_lent r o {P} is has = subst (λ (x : Option (MutBor Outlined)). OnSome x P) is has

pub steps_lent : (q : ℕ × Request) (old new : Outlines) (o w : Outlined) → kept_of old q.0 ≡ Some o → HasOutline q.0 old new w → OutlineBecomes o.voter q.1 w.voter
    → StepsOutlines (outlines_in old) (outlines_in new) q
steps_lent q old new o w is has becomes = record {
  own = subst (λ (v : State). OutlineBecomes v q.1 (outlines_in new q.0)) (kept_is old q.0 o is) (subst (λ (v : State). OutlineBecomes o.voter q.1 v) (sym has.own) becomes);
  others = has.others;
}

-- Requests one after another.

either : {A B : Type 0} (first more : Bool) → Decides first (A ⊎ ⊥) → Decides more B → Decides (more || first) (A ⊎ B)
either first true a b = (λ t. inr (b.0 refl), λ any. refl)
either true false a b = (λ t. inl (neither (a.0 refl)), λ any. refl)
either false false a b = (λ never. absurd (cc), λ any. elim any [ inl x ↦ a.1 (inl x) | inr y ↦ b.1 y ])

pub takes_more : (os ms us : ℕ → State) (q : ℕ × Request) (qs : List (ℕ × Request)) (first more : Bool) → Takes os ms (q ∷ []) first → Takes ms us qs more → Takes os us (q ∷ qs) (more || first)
takes_more os ms us q qs first more one rest W are =
    let a = one W are in
    let b = rest (after_one W q) a.1 in (either first more a.0 b.0, b.1)

pub takes_nothing : (os : ℕ → State) → Takes os os [] false
takes_nothing os W are = ((λ never. absurd (cc), λ none. absurd none), are)

pub or_false : (b : Bool) → (b || false) ≡ b
or_false true = refl
or_false false = refl

pub or_assoc : (a b c : Bool) → ((a || b) || c) ≡ (a || (b || c))
or_assoc true b c = refl
or_assoc false b c = refl

pub changed : (os us : ℕ → State) (q : ℕ × Request) (taken wrote more : Bool) → taken ≡ true → more ≡ true → Takes os us (q ∷ []) more → TakesIf os us q taken wrote true
changed os us q taken wrote more is true_is takes = record {
  changed = true;
  takes = rw is (subst (λ (b : Bool). Takes os us (q ∷ []) b) true_is takes);
  now_is = refl;
}

-- one request and those after it
later_decides : {B : Type 0} (first more : Bool) → (first ≡ true → ⊥) → Decides more B → Decides (more || first) B
later_decides first true none b = (λ t. b.0 refl, λ any. refl)
later_decides true false none b = absurd (none refl)
later_decides false false none b = b

takes_then : (os ms us : ℕ → State) (q : ℕ × Request) (qs : List (ℕ × Request)) (taken first more : Bool)
    → Takes os ms (if taken then q ∷ [] else []) first → Takes ms us qs more → Takes os us (if taken then q ∷ qs else qs) (more || first)
takes_then os ms us q qs true first more one rest W are = takes_more os ms us q qs first more one rest W are
takes_then os ms us q qs false first more one rest W are =
    let a = one W are in
    let b = rest W a.1 in (later_decides first more a.0.0 b.0, b.1)

-- a loop over a round's requests, past one of them
pub takes_on : (first os ms : ℕ → State) (q : ℕ × Request) (qs all : List (ℕ × Request)) (i up_to : ℕ) (refused : List ℕ) (taken wrote now : Bool)
    → taken ≡ (nat_lt i up_to && not (is_among refused i)) → drop i qs ≡ q ∷ drop (i + 1) qs → TakesIf os ms q taken wrote now
    → ((us : ℕ → State) (more : Bool) → Takes os us (taken_from i up_to refused (drop i qs)) more → Takes first us all (more || wrote))
    → (us : ℕ → State) (more : Bool) → Takes ms us (taken_from (i + 1) up_to refused (drop (i + 1) qs)) more → Takes first us all (more || now)
takes_on first os ms q qs all i up_to refused taken wrote now is more_is step so_far us more rest =
    let rs = taken_from (i + 1) up_to refused (drop (i + 1) qs) in
    let both : Takes os us (if taken then q ∷ rs else rs) (more || step.changed) = takes_then os ms us q rs taken step.changed more step.takes rest in
    let here : Takes os us (taken_from i up_to refused (drop i qs)) (more || step.changed) =
    subst (λ (l : List (ℕ × Request)). Takes os us (taken_from i up_to refused l) (more || step.changed)) (sym more_is)
    (subst (λ (b : Bool). Takes os us (if b then q ∷ rs else rs) (more || step.changed)) is both) in
    subst (λ (b : Bool). Takes first us all b) (or_assoc more step.changed wrote ∙ ap (λ b. more || b) (sym step.now_is)) (so_far us (more || step.changed) here)

-- Rounds one after another.

-- the remaining rounds complete the result
abbrev pub Completes : List Round → List ℕ → List Bool → World → List Round → List ℕ → Type 0
Completes all first writes W rounds cuts = (more : List Bool) → AreWrites W rounds cuts more → AreWrites fresh_world all first (writes ++ more)

pub writes_more : (all : List Round) (i : ℕ) (round : Round) (first cuts later : List ℕ) (os us : ℕ → State) (W : World) (writes pushed : List Bool) (wrote : Bool) (requests : List (ℕ × Request)) (refused : List ℕ) (up_to : ℕ)
    → drop i all ≡ round ∷ drop (i + 1) all → requests ≡ round.requests → refused ≡ round.refused → up_to ≡ taken_up_to round cuts → later ≡ cuts_behind round cuts → pushed ≡ writes ++ wrote ∷ []
    → AreOutlines os W → Completes all first writes W (drop i all) cuts
    → Takes os us (taken_from 0 up_to refused requests) wrote
    → (X : World) × AreOutlines us X × Completes all first pushed X (drop (i + 1) all) later
writes_more all i round first cuts later os us W writes pushed wrote requests refused up_to item qs_is ps_is up_is later_is pushed_is are so_far takes =
    let there : Takes os us (taken_below round (taken_up_to round cuts)) wrote =
    subst (λ (n : ℕ). Takes os us (taken_below round n) wrote) up_is
    (subst (λ (qs : List (ℕ × Request)). Takes os us (taken_from 0 up_to round.refused qs) wrote) qs_is
    (subst (λ (ps : List ℕ). Takes os us (taken_from 0 up_to ps requests) wrote) ps_is takes)) in
    let a = there W are in
    let X = after W (taken_below round (taken_up_to round cuts)) in (
      X,
      a.1,
      λ more rest.
          let goes : AreWrites W (round ∷ drop (i + 1) all) cuts (wrote ∷ more) = (a.0, subst (λ (cs : List ℕ). AreWrites X (drop (i + 1) all) cs more) later_is rest) in
          let whole : AreWrites fresh_world all first (writes ++ wrote ∷ more) =
          so_far (wrote ∷ more) (subst (λ (rs : List Round). AreWrites W rs cuts (wrote ∷ more)) (sym item) goes) in
          subst (λ (ws : List Bool). AreWrites fresh_world all first ws) (sym (ap (λ ws. ws ++ more) pushed_is ∙ append_assoc writes (wrote ∷ []) more)) whole,
    )

pub writes_done : (all : List Round) (i : ℕ) (first cuts : List ℕ) (W : World) (writes : List Bool) → drop i all ≡ [] → Completes all first writes W (drop i all) cuts → AreWrites fresh_world all first writes
writes_done all i first cuts W writes done so_far =
    subst (λ (ws : List Bool). AreWrites fresh_world all first ws) (append-nil writes)
    (so_far [] (subst (λ (rs : List Round). AreWrites W rs cuts []) (sym done) refl))
