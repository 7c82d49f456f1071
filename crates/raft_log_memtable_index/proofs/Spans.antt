-- The ends of a table's entries after each item.
use Rattle.std.proofs.Common.{◌≡◌, ℕ, ◌+◌, ◌-◌, min, false, ◌&&◌, List, [], ◌∷◌, length, take, if◌then◌else◌, nat_lt, refl, ap, ap₂, ◌∙◌, arith, length-append, length-take, length-drop}
use Rattle.std.proofs.lemmas.Bool.Decides.{nat_tests}
use Rattle.raft_log_model_laws.specs.Item.{Item}
use Rattle.raft_log_model_laws.specs.Item.Item.{Run, Clean, Compact, Put, Del}
use Rattle.raft_log_model_laws.specs.Holes.{Window, FitsOn, is_past}
use Rattle.raft_log_extents.specs.declared.place.Place.{Place}
use Rattle.raft_log_memtable_index.specs.Shown.{Shown, with_run, stepped, span, IsOrderly, next_span, MayFollow}

-- how many places there are after a run
pub run_length : (v : Shown) (f : ℕ) (ps : List Place) → length (with_run v f ps).places ≡ min (f - v.first) (length v.places) + length ps
run_length v f ps = length-append (take (f - v.first) v.places) ps ∙ ap (λ n. n + length ps) (length-take (f - v.first) v.places)

run_end : (a n f k : ℕ) → (nat_lt a (a + n) && nat_lt (a + n) f) ≡ false
    → (if nat_lt a f && nat_lt 0 n then a else f) + (min (f - a) n + k) ≡ f + k
run_end a n f k h = grind (arith, nat_tests)

-- a run that leaves no hole ends where it says
pub run_ends : (v : Shown) (f : ℕ) (ps : List Place) → is_past (span v) f ≡ false
    → (with_run v f ps).first + length (with_run v f ps).places ≡ f + length ps
run_ends v f ps h = ap (λ n. (with_run v f ps).first + n) (run_length v f ps) ∙ run_end v.first (length v.places) f (length ps) h

same_first : (a n f : ℕ) → (if nat_lt a f && nat_lt 0 n then a else f) ≡ (if nat_lt a f && nat_lt a (a + n) then a else f)
same_first a n f = grind (arith, nat_tests)

windows : (a b c d : ℕ) → a ≡ c → b ≡ d → ◌≡◌ {A = Window} (record { first = a; end = b }) (record { first = c; end = d })
windows a b c d e h = ap₂ (λ x y. record { first = x; end = y }) e h

-- after an item that may follow the ends are those that the ends alone tell
pub span_stepped : (n : ℕ) (v : Shown) (x : Item Place (List ℕ)) → FitsOn (span v) x → span (stepped n v x) ≡ next_span (span v) x
span_stepped n v (Run f []) h = refl
span_stepped n v (Run f (p ∷ ps)) h =
    windows _ _ _ _ (same_first v.first (length v.places) f) (run_ends v f (p ∷ ps) h)
span_stepped n v Clean h = refl
span_stepped n v (Compact c) h =
    windows _ _ _ _ (omega arith)
    (ap (λ k. v.first + min (c - v.first) (length v.places) + k) (length-drop (c - v.first) v.places) ∙ omega arith)
span_stepped n v (Put k w) h = refl
span_stepped n v (Del k) h = refl

-- and the table stays orderly
pub orderly_stepped : (n : ℕ) (v : Shown) (x : Item Place (List ℕ)) → IsOrderly v → MayFollow (span v) x → IsOrderly (stepped n v x)
orderly_stepped n v (Run f []) o h = o
orderly_stepped n v (Run f (p ∷ ps)) o h = record {
  parts = (let parts = o.parts in omega (arith, run_length v f (p ∷ ps)));
  end = (let fits = h.1 in omega (arith, run_ends v f (p ∷ ps) h.0));
}
orderly_stepped n v Clean o h = record { parts = omega arith; end = omega arith }
orderly_stepped n v (Compact c) o h = record {
  parts = (let parts = o.parts in omega (arith, length-drop (c - v.first) v.places));
  end = (let end = o.end in omega (arith, length-drop (c - v.first) v.places));
}
orderly_stepped n v (Put k w) o h = record { parts = o.parts; end = o.end }
orderly_stepped n v (Del k) o h = record { parts = o.parts; end = o.end }
