-- One list cut in two ways, and words of lists that lie between.
use Rattle.std.proofs.Common.{◌≡◌, ◌⊎◌, List, [], ◌∷◌, ◌++◌, Option, Some, None, unwrap_or, refl, sym, ap, ◌∙◌, inl, inr, append-nil}
use Rattle.std.specs.Option.{option_or}
use Rattle.raft_log_machine_laws.specs.Survival.{IsSpoken, IsHarmless}

-- one cut lies at or after the other, or at or before it
abbrev pub Cuts : {A : Type 0} → List A → List A → List A → List A → Type 0
Cuts {A} a b c d = ((x : List A) × (c ++ x ≡ a) × (x ++ b ≡ d)) ⊎ ((x : List A) × (a ++ x ≡ c) × (x ++ d ≡ b))

one_more : {A : Type 0} (x y : A) (a b c d : List A) → x ≡ y → Cuts a b c d → Cuts (x ∷ a) b (y ∷ c) d
one_more x y a b c d e h = elim h [ inl w ↦ inl (w.0, cc (e, w.1), w.2) | inr w ↦ inr (w.0, cc (e, w.1), w.2) ]

pub cuts : {A : Type 0} (a b c d : List A) → a ++ b ≡ c ++ d → Cuts a b c d
cuts [] b c d e = inr (c, refl, sym e)
cuts (x ∷ a) b [] d e = inl (x ∷ a, refl, e)
cuts (x ∷ a) b (y ∷ c) d e = one_more x y a b c d (cc) (cuts a b c d (cc))

pub no_front : {A : Type 0} (a b : List A) → a ++ b ≡ [] → a ≡ []
no_front [] b e = refl
no_front (x ∷ a) b e = cc

last_of : {A : Type 0} (x kept lost pending : List A) (y : A) → pending ++ x ≡ kept → x ++ lost ≡ y ∷ []
    → ((l : List A) × (kept ++ l ≡ pending)) ⊎ (kept ≡ pending ++ y ∷ [])
last_of [] kept lost pending y e f = inl ([], append-nil kept ∙ sym e ∙ append-nil pending)
last_of (z ∷ x) kept lost pending y e f =
    let nothing : x ≡ [] = no_front x lost (cc) in
    let same : z ≡ y = cc in
    inr (sym e ∙ ap (λ w. pending ++ w) (ap (λ w. z ∷ w) nothing ∙ ap (λ w. w ∷ []) same))

-- a beginning of a list with one more element is one of the list, or all
pub beginnings : {A : Type 0} (kept lost pending : List A) (y : A) → kept ++ lost ≡ pending ++ y ∷ []
    → ((l : List A) × (kept ++ l ≡ pending)) ⊎ (kept ≡ pending ++ y ∷ [])
beginnings kept lost pending y e = elim (cuts kept lost pending (y ∷ []) e) [ inl w ↦ last_of w.0 kept lost pending y w.1 w.2 | inr w ↦ inl (w.0, w.1) ]

-- words
pub spoken_newer : {C : Type 0} (newer older all : Option (Option C)) → all ≡ option_or newer older → IsSpoken newer → IsSpoken all
spoken_newer newer older all e h = (h.0, e ∙ ap (λ w. option_or w older) h.1)

pub harmless : {C : Type 0} (a r w : Option (Option C)) (v : Option C) → unwrap_or a (unwrap_or r None) ≡ v → IsHarmless w v a
    → unwrap_or a (unwrap_or (option_or w r) None) ≡ v
harmless (Some x) r w v e h = e
harmless None r w v e (inl nothing) = ap (λ w. unwrap_or (option_or w r) None) nothing ∙ e
harmless None r w v e (inr (inl same)) = ap (λ w. unwrap_or (option_or w r) None) same
harmless None r w v e (inr (inr spoken)) = let absurd_word : None ≡ Some spoken.0 = spoken.1 in cc

pub start_in_append : {C : Type 0} (a older : Option (Option C)) (r v : Option C) → unwrap_or (option_or a older) r ≡ v → IsSpoken a ⊎ (r ≡ v) → unwrap_or a r ≡ v
start_in_append (Some x) older r v e h = e
start_in_append None older r v e (inl spoken) = let absurd_word : None ≡ Some spoken.0 = spoken.1 in cc
start_in_append None older r v e (inr right) = right

pub start_in_rewrite : {C : Type 0} (a w older : Option (Option C)) (v : Option C) → unwrap_or a (unwrap_or (option_or w older) None) ≡ v
    → IsSpoken w ⊎ ((v ≡ None) ⊎ IsSpoken a) → unwrap_or a (unwrap_or w None) ≡ v
start_in_rewrite (Some x) w older v e h = e
start_in_rewrite None (Some x) older v e h = e
start_in_rewrite None None older v e (inl spoken) = let absurd_word : None ≡ Some spoken.0 = spoken.1 in cc
start_in_rewrite None None older v e (inr (inl nothing)) = sym nothing
start_in_rewrite None None older v e (inr (inr spoken)) = let absurd_word : None ≡ Some spoken.0 = spoken.1 in cc

pub no_back : {A : Type 0} (a b : List A) → a ++ b ≡ [] → b ≡ []
no_back [] b e = e
no_back (x ∷ a) b e = cc
