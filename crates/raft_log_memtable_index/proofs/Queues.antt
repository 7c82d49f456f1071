-- The places of a table with their queue, where runs cut, compactions drop and copies move.
use Rattle.std.proofs.Common.{◌≡◌, ℕ, zero, suc, ◌+◌, ◌-◌, ◌≤◌, min, true, false, List, [], ◌∷◌, ◌++◌, map, length, take, drop, refl, sym, ap, ◌∙◌, arith}
use Rattle.std.proofs.lemmas.List.{map-append, length-map, take-map}
use Rattle.raft_log_extents.specs.declared.place.Place.{Place}
use Rattle.raft_log_memtable_index.specs.Bridge.{in_queue, located}

pub located_length : (n : ℕ) (ps : List Place) → length (located n ps) ≡ length ps
located_length zero ps = length-map ps (in_queue true)
located_length (suc n) [] = refl
located_length (suc n) (p ∷ ps) = ap suc (located_length n ps)

located_nil : (n : ℕ) → located n [] ≡ []
located_nil zero = refl
located_nil (suc n) = refl

at_zero : (n : ℕ) (ps : List Place) → n ≡ 0 → located n ps ≡ map (in_queue true) ps
at_zero n ps e = ap (λ k. located k ps) e

-- a run cuts the places off and comes behind them
pub located_run : (n r d : ℕ) (ps qs : List Place) → n ≡ min r d → r ≤ length ps
    → located n (take d ps ++ qs) ≡ take d (located r ps) ++ map (in_queue true) qs
located_run n zero d ps qs e h =
    at_zero n (take d ps ++ qs) (omega arith) ∙ map-append (in_queue true) (take d ps) qs
    ∙ ap (λ l. l ++ map (in_queue true) qs) (sym (take-map (in_queue true) d ps))
located_run n (suc r) d [] qs e h = absurd (omega arith)
located_run n (suc r) zero (p ∷ ps) qs e h = at_zero n qs (omega arith)
located_run zero (suc r) (suc d) (p ∷ ps) qs e h = absurd (omega arith)
located_run (suc n) (suc r) (suc d) (p ∷ ps) qs e h = ap (λ l. in_queue false p ∷ l) (located_run n r d ps qs (omega arith) (omega arith))

-- a compaction drops some from the front
pub located_drop : (n r d : ℕ) (ps : List Place) → n ≡ r - d → located n (drop d ps) ≡ drop d (located r ps)
located_drop n r zero ps e = ap (λ k. located k ps) (let same : n ≡ r = omega arith in same)
located_drop n zero (suc d) [] e = located_nil n
located_drop n (suc r) (suc d) [] e = located_nil n
located_drop n zero (suc d) (p ∷ ps) e = located_drop n zero d ps (omega arith)
located_drop n (suc r) (suc d) (p ∷ ps) e = located_drop n r d ps (omega arith)

located_front : (n : ℕ) (ps qs : List Place) → n ≡ length ps
    → located n (ps ++ qs) ≡ map (in_queue false) ps ++ map (in_queue true) qs
located_front n [] qs e = at_zero n qs e
located_front zero (p ∷ ps) qs e = absurd (omega arith)
located_front (suc n) (p ∷ ps) qs e = ap (λ l. in_queue false p ∷ l) (located_front n ps qs (omega arith))

-- copies take the place of some, and all below them are rewritten
pub located_moved : (n d r : ℕ) (ps places : List Place) → n ≡ d + length ps → d ≤ r → r ≤ n → n ≤ length places
    → located n (take d places ++ (ps ++ drop n places))
    ≡ take d (located r places) ++ (map (in_queue false) ps ++ drop n (located r places))
located_moved n zero r ps places e low high end =
    located_front n ps (drop n places) (omega arith)
    ∙ ap (λ l. map (in_queue false) ps ++ l) (located_drop 0 r n places (omega arith))
located_moved n (suc d) r ps [] e low high end = absurd (omega arith)
located_moved n (suc d) zero ps (p ∷ places) e low high end = absurd (omega arith)
located_moved zero (suc d) (suc r) ps (p ∷ places) e low high end = absurd (omega arith)
located_moved (suc n) (suc d) (suc r) ps (p ∷ places) e low high end =
    ap (λ l. in_queue false p ∷ l) (located_moved n d r ps places (omega arith) (omega arith) (omega arith) (omega arith))
