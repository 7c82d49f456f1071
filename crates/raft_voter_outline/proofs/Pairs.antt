-- One more outline comes behind those that are listed with their groups.
use Rattle.std.proofs.Common.{◌≡◌, ◌∙◌, ◌==◌, ℕ, List, [], ◌∷◌, ◌++◌, Bool, true, false, cond, Some, None, refl, sym, ap, arith}
use Rattle.std.specs.Cmp.{unsigned_tied}
use Rattle.std.specs.Ordering.{eq_by_cmp, nat_cmp}
use Rattle.std.proofs.lemmas.Map.{update_all_push}
use Rattle.std.proofs.lemmas.Bool.Decides.{nat_tests}
use Rattle.raft_voter_outline.specs.Outlines.{Outlined}
use Rattle.raft_voter_outline.specs.Kept.{kept_or_fresh}
use Rattle.raft_voter_outline.specs.Pairs.{listed_of, outlines_of}

pushed : (pairs : List (ℕ × Outlined)) (g h : ℕ) (o : Outlined) (b : Bool) → eq_by_cmp nat_cmp g h ≡ b → outlines_of (pairs ++ (g, o) ∷ []) h ≡ kept_or_fresh (cond b (Some o) (listed_of pairs h))
pushed pairs g h o b is =
    ap kept_or_fresh (sym (update_all_push (eq_by_cmp nat_cmp) (λ k. None) (listed_of pairs) pairs (g, o) h refl) ∙ ap (λ (t : Bool). cond t (Some o) (listed_of pairs h)) is)

-- its group has this outline
pub pushed_own : (pairs : List (ℕ × Outlined)) (g : ℕ) (o : Outlined) → outlines_of (pairs ++ (g, o) ∷ []) g ≡ o.voter
pushed_own pairs g o = pushed pairs g g o true (unsigned_tied g g ∙ grind (arith, nat_tests))

-- and all others have theirs
pub pushed_others : (pairs : List (ℕ × Outlined)) (g h : ℕ) (o : Outlined) → (h == g) ≡ false → outlines_of (pairs ++ (g, o) ∷ []) h ≡ outlines_of pairs h
pushed_others pairs g h o apart = pushed pairs g h o false (unsigned_tied g h ∙ grind (arith, nat_tests))
