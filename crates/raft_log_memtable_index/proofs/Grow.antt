-- What Append takes is a step of the whereabouts.
use Rattle.std.proofs.Common.{◌≡◌, ℕ, ◌+◌, ◌-◌, ◌<◌, ◌≤◌, ◌⊎◌, min, Bool, true, false, ◌&&◌, List, [], ◌∷◌, length, map, Option, Some, None, if◌then◌else◌, nat_lt, bytes_eq, refl, sym, ap, ap₂, subst, ◌∙◌, inl, inr, arith, length-drop}
use Rattle.std.proofs.lemmas.Bool.Decides.{nat_tests}
use Rattle.std.proofs.lemmas.Bool.{cases_lt}
use Rattle.std.proofs.Math.Path.{fun_ext}
use Rattle.raft_log_model_laws.specs.Item.{Item}
use Rattle.raft_log_model_laws.specs.Item.Item.{Run, Clean, Compact, Put, Del}
use Rattle.raft_log_machine_laws.specs.Whereabouts.{Whereabouts, Alone, GoesOn, AppendTakes, GrowsBy, with_key}
use Rattle.raft_log_machine_laws.proofs.Public.{grows_by_renamed}
use Rattle.raft_log_extents.specs.declared.place.Place.{Place}
use Rattle.raft_log_memtable_index.specs.Shown.{KeyValue, Shown, with_held, with_run, with_compact, stepped, all_stepped, is_in_append, whereabouts, span, IsOrderly, MayFollow, MayAllFollow, next_span}
use Rattle.raft_log_memtable_index.specs.Bridge.{Located, in_queue, written}
use Rattle.raft_log_memtable_index.proofs.Spans.{run_ends, span_stepped, orderly_stepped}

-- the whereabouts with other ends
abbrev pub at_ends : Whereabouts → ℕ → ℕ → ℕ → Whereabouts
at_ends t a b c = record t { first = a; split = b; end = c }

pub same_ends : (t : Whereabouts) (a b c x y z : ℕ) → a ≡ x → b ≡ y → c ≡ z → at_ends t a b c ≡ at_ends t x y z
same_ends t a b c x y z e h k = ap₂ (λ m n. at_ends t m n c) e h ∙ ap (λ n. at_ends t x y n) k

first_alone : (a n f : ℕ) → (f ≤ a) ⊎ (a ≡ a + n) → (if nat_lt a f && nat_lt 0 n then a else f) ≡ f
first_alone a n f (inl h) = grind (arith, nat_tests)
first_alone a n f (inr h) = grind (arith, nat_tests)

first_on : (a n f : ℕ) → a < f → 0 < n → (if nat_lt a f && nat_lt 0 n then a else f) ≡ a
first_on a n f h k = grind (arith, nat_tests)

not_past : (a n f : ℕ) → 0 < n → (nat_lt a (a + n) && nat_lt (a + n) f) ≡ false → f ≤ a + n
not_past a n f k h = grind (arith, nat_tests)

alone_split : (a n r f : ℕ) → r ≤ n → (f ≤ a) ⊎ (a ≡ a + n) → f + min r (f - a) ≡ f
alone_split a n r f o (inl h) = omega arith
alone_split a n r f o (inr h) = omega arith

run_grows : (v : Shown) (f : ℕ) (p : Place) (ps : List Place) → IsOrderly v → MayFollow {E = Place} {V = List ℕ} (span v) (Run f (p ∷ ps))
    → AppendTakes {E = Place} {V = List ℕ} (whereabouts v) (Run f (p ∷ ps)) (whereabouts (with_run v f (p ∷ ps)))
run_grows v f p ps o h = (
  h.1,
  elim (cases_lt v.first f) [
    | inr low ↦ inl (alone (inl low))
    | inl high ↦ elim (cases_lt 0 (length v.places)) [
      | inr none ↦ inl (alone (inr (omega arith)))
      | inl some ↦ inr (on high some)
    ]
  ],
)
  where
    alone : Alone (whereabouts v) f
        → Alone (whereabouts v) f × (whereabouts (with_run v f (p ∷ ps)) ≡ at_ends (whereabouts v) f f (f + length (p ∷ ps)))
    alone a =
        let first = first_alone v.first (length v.places) f a in (
          a,
          same_ends (whereabouts v) _ _ _ f f (f + length (p ∷ ps)) first
              (ap (λ n. n + min v.rewritten (f - v.first)) first ∙ alone_split v.first (length v.places) v.rewritten f o.parts a)
              (run_ends v f (p ∷ ps) h.0),
        )

    on : v.first < f → 0 < length v.places
        → GoesOn (whereabouts v) f
        × (whereabouts (with_run v f (p ∷ ps)) ≡ at_ends (whereabouts v) v.first (min (v.first + v.rewritten) f) (f + length (p ∷ ps)))
    on high some =
        let first = first_on v.first (length v.places) f high some in
        let within = not_past v.first (length v.places) f some h.0 in (
          (high, within),
          same_ends (whereabouts v) _ _ _ v.first (min (v.first + v.rewritten) f) (f + length (p ∷ ps)) first
              (ap (λ n. n + min v.rewritten (f - v.first)) first ∙ (omega arith))
              (run_ends v f (p ∷ ps) h.0),
        )

compact_grows : (v : Shown) (c : ℕ) → IsOrderly v → AppendTakes {E = Place} {V = List ℕ} (whereabouts v) (Compact c) (whereabouts (with_compact v c))
compact_grows v c o =
    same_ends (record (whereabouts v) { compacted = true }) _ _ _ _ _ _ (omega arith) (let parts = o.parts in omega arith) (omega (arith, length-drop (c - v.first) v.places))

pub in_append_of : (b : Bool) (h old : Option KeyValue) → is_in_append (if b then h else old) ≡ (if b then is_in_append h else is_in_append old)
in_append_of true h old = refl
in_append_of false h old = refl

pub appended_with : (v : Shown) (k : List ℕ) (h : Option KeyValue)
    → ◌≡◌ {A = List ℕ → Bool} (λ q. is_in_append (with_held v.held k h q)) (with_key (λ q. is_in_append (v.held q)) k (is_in_append h))
appended_with v k h = fun_ext (λ q. in_append_of (bytes_eq k q) h (v.held q))

-- one item
step_grows : (n : ℕ) (v : Shown) (x : Item Place (List ℕ)) → IsOrderly v → MayFollow (span v) x → AppendTakes (whereabouts v) x (whereabouts (stepped n v x))
step_grows n v (Run f []) o h = refl
step_grows n v (Run f (p ∷ ps)) o h = run_grows v f p ps o h
step_grows n v Clean o h = (omega arith, omega arith, omega arith, λ k. refl, refl)
step_grows n v (Compact c) o h = compact_grows v c o
step_grows n v (Put k w) o h = ap (λ a. record (whereabouts v) { appended = a }) (appended_with v k (Some (record { bytes = w; appended = true; file = n })))
step_grows n v (Del k) o h =
    (v.compacted, λ e. e, ap (λ a. record (whereabouts v) { appended = a; deleted = with_key v.deleted k true }) (appended_with v k None))

pub follow_on : (n : ℕ) (v : Shown) (x : Item Place (List ℕ)) (xs : List (Item Place (List ℕ))) → MayFollow (span v) x
    → MayAllFollow (next_span (span v) x) xs → MayAllFollow (span (stepped n v x)) xs
follow_on n v x xs h all = subst (λ w. MayAllFollow w xs) (sym (span_stepped n v x h.0)) all

-- item after item
steps_grow : (n : ℕ) (v : Shown) (xs : List (Item Place (List ℕ))) → IsOrderly v → MayAllFollow (span v) xs
    → GrowsBy (whereabouts v) xs (whereabouts (all_stepped n v xs))
steps_grow n v [] o h = refl
steps_grow n v (x ∷ xs) o h =
    (whereabouts (stepped n v x), step_grows n v x o h.0, steps_grow n (stepped n v x) xs (orderly_stepped n v x o h.0) (follow_on n v x xs h.0 h.1))

pub orderly_after : (n : ℕ) (v : Shown) (xs : List (Item Place (List ℕ))) → IsOrderly v → MayAllFollow (span v) xs → IsOrderly (all_stepped n v xs)
orderly_after n v [] o h = o
orderly_after n v (x ∷ xs) o h = orderly_after n (stepped n v x) xs (orderly_stepped n v x o h.0) (follow_on n v x xs h.0 h.1)

-- for the bytes at the places too
pub batch_grows : {E : Type 0} (at : Located → E) (n : ℕ) (v : Shown) (xs : List (Item Place (List ℕ))) → IsOrderly v → MayAllFollow (span v) xs
    → GrowsBy (whereabouts v) (map (written at) xs) (whereabouts (all_stepped n v xs))
batch_grows at n v xs o h = grows_by_renamed (λ p. at (in_queue true p)) (whereabouts v) xs (whereabouts (all_stepped n v xs)) (steps_grow n v xs o h)
