-- The two numbers of a window are the run that stands, for every list, hostile ones too.
use Rattle.std.proofs.Common.{◌≡◌, ℕ, ◌+◌, ◌-◌, ◌<◌, ◌≤◌, ◌⊎◌, max, List, [], ◌∷◌, length, Bool, true, false, ◌&&◌, Option, Some, None, unwrap_or, option_map, slice_get, get_or, nat_lt, nat_le, if◌then◌else◌, refl, sym, ap, ap₂, ◌∙◌, inl, inr, arith}
use Rattle.std.proofs.lemmas.Bool.Decides.{nat_tests}
use Rattle.std.proofs.lemmas.Bool.{cases_lt}
use Rattle.std.proofs.lemmas.Option.{slice_get-get_or}
use Rattle.raft_log_model_laws.specs.Item.{Item}
use Rattle.raft_log_model_laws.specs.Item.Item.{Run, Clean, Compact, Put, Del}
use Rattle.raft_log_model_laws.specs.Meaning.{Content, write, holds}
use Rattle.raft_log_model_laws.specs.Meaning.Slot.{Index}
use Rattle.raft_log_model_laws.specs.Meaning.Content.{Entry}
pub use Rattle.raft_log_model_laws.specs.Holes.{Spans}
use Rattle.raft_log_model_laws.specs.Holes.{Window, nothing, is_past, next_window, window, write_past, says_past, holds_past, NoHole}
use Rattle.raft_log_model_laws.proofs.Cases.{at_bool, if_true, if_false, lt_true, lt_false}
use Rattle.raft_log_model_laws.proofs.Words.{unwrap_or_option_or}
use Rattle.raft_log_model_laws.proofs.Tests.{run_sets, run_truncates, run_leaves, compact_removes, compact_leaves}
use Rattle.raft_log_model_laws.proofs.Holes.{no_hole}

pub same_spans : {E V : Type 0} (first end : ℕ) (m n : ℕ → Option (Content E V)) → ((i : ℕ) → m i ≡ n i) → Spans first end m → Spans first end n
same_spans first end m n same sp = record {
  stands = λ i h k. ((sp.stands i h k).0, sym (same i) ∙ (sp.stands i h k).1);
  none_below = λ i h. sym (same i) ∙ sp.none_below i h;
  none_above = λ i h. sym (same i) ∙ sp.none_above i h;
}

-- inside a run an entry stands
pub inside : {E V : Type 0} (i f : ℕ) (es : List E) → f ≤ i → i < f + length es
    → (e : E) × (◌≡◌ {A = Option (Content E V)} (option_map Entry (slice_get es (i - f))) (Some (Entry e)))
inside i f [] h k = absurd (omega arith)
inside i f (e ∷ es) h k =
    let within : i - f < length (e ∷ es) = omega arith in
    (get_or (e ∷ es) (i - f) e, ap (option_map Entry) (slice_get-get_or (e ∷ es) (i - f) e within))

both_true : (a b : Bool) → a ≡ true → b ≡ true → (a && b) ≡ true
both_true a b p q = ap₂ (λ x y. x && y) p q

-- a run past the end drops what stood below it
pub past_drops : {E V : Type 0} (w : Window) (i f : ℕ) (e : E) (es : List E) → is_past w f ≡ true → i < f
    → write_past {V = V} w (Index i) (Run f (e ∷ es)) ≡ Some None
past_drops w i f e es h k = if_true (is_past w f && nat_lt i f) _ _ (both_true _ _ h (lt_true i f k))

one_false : (b : Bool) (i f : ℕ) → (b ≡ false) ⊎ (f ≤ i) → (b && nat_lt i f) ≡ false
one_false b i f (inl h) = ap (λ c. c && nat_lt i f) h
one_false b i f (inr h) = elim b as (λ c. (c && nat_lt i f) ≡ false) [ true ↦ lt_false i f h | false ↦ refl ]

pub not_dropped : {E V : Type 0} (w : Window) (i f : ℕ) (e : E) (es : List E) → (is_past w f ≡ false) ⊎ (f ≤ i)
    → write_past {V = V} w (Index i) (Run f (e ∷ es)) ≡ write (Index i) (Run f (e ∷ es))
not_dropped w i f e es h = if_false (is_past w f && nat_lt i f) _ _ (one_false (is_past w f) i f h)

goes_on_low : (a b f i : ℕ) → (if nat_lt a f && nat_le f b then a else f) ≤ i → i < f → a ≤ i
goes_on_low a b f i h k = grind (arith, nat_tests)

goes_on_high : (a b f i : ℕ) → (if nat_lt a f && nat_le f b then a else f) ≤ i → i < f → f ≤ b
goes_on_high a b f i h k = grind (arith, nat_tests)

goes_on_fits : (a b f i : ℕ) → (if nat_lt a f && nat_le f b then a else f) ≤ i → i < f → (nat_lt a b && nat_lt b f) ≡ false
goes_on_fits a b f i h k = grind (arith, nat_tests)

starts_low : (a b f i : ℕ) → i < (if nat_lt a f && nat_le f b then a else f) → i < f
starts_low a b f i h = grind (arith, nat_tests)

outside : (a b f i : ℕ) → i < (if nat_lt a f && nat_le f b then a else f) → (nat_lt a b && nat_lt b f) ≡ false → (i < a) ⊎ (b ≤ i)
outside a b f i h k = grind (arith, nat_tests)

none_outside : {E V : Type 0} {first end : ℕ} {m : ℕ → Option (Content E V)} (i : ℕ) → Spans first end m → (i < first) ⊎ (end ≤ i) → m i ≡ None
none_outside i sp (inl h) = sp.none_below i h
none_outside i sp (inr h) = sp.none_above i h

-- what stands in each index after one more item, where a run past the end drops what stood
abbrev pub past_step : {E V : Type 0} → Window → Item E V → (ℕ → Option (Content E V)) → ℕ → Option (Content E V)
past_step w x m i = unwrap_or (write_past w (Index i) x) (m i)

run_stands : {E V : Type 0} (w : Window) (f : ℕ) (e : E) (es : List E) (m : ℕ → Option (Content E V)) → Spans w.first w.end m
    → (i : ℕ) → (next_window {V = V} w (Run f (e ∷ es))).first ≤ i → i < f + length (e ∷ es)
    → (i < f) ⊎ (f ≤ i) → (d : E) × (past_step w (Run f (e ∷ es)) m i ≡ Some (Entry d))
run_stands {V} w f e es m sp i h k (inl below) =
    let old : (d : _) × (m i ≡ Some (Entry d)) = sp.stands i (goes_on_low w.first w.end f i h below) (omega (arith, goes_on_high w.first w.end f i h below)) in
    (old.0, ap (λ a. unwrap_or a (m i)) (not_dropped w i f e es (inl (goes_on_fits w.first w.end f i h below)) ∙ run_leaves i f (e ∷ es) below) ∙ old.1)
run_stands {V} w f e es m sp i h k (inr above) =
    let new : (d : _) × (◌≡◌ {A = Option (Content _ V)} (option_map Entry (slice_get (e ∷ es) (i - f))) (Some (Entry d))) = inside i f (e ∷ es) above k in
    (new.0, ap (λ a. unwrap_or a (m i)) (not_dropped w i f e es (inr above) ∙ run_sets i f (e ∷ es) above (omega arith)) ∙ new.1)

run_none_below : {E V : Type 0} (w : Window) (f : ℕ) (e : E) (es : List E) (m : ℕ → Option (Content E V)) → Spans w.first w.end m
    → (i : ℕ) → i < (next_window {V = V} w (Run f (e ∷ es))).first → past_step w (Run f (e ∷ es)) m i ≡ None
run_none_below w f e es m sp i h =
    let below : i < f = starts_low w.first w.end f i h in
    at_bool (is_past w f) (λ b. is_past w f ≡ b → past_step w (Run f (e ∷ es)) m i ≡ None)
    (λ _ p. ap (λ a. unwrap_or a (m i)) (past_drops w i f e es p below))
    (λ _ p. ap (λ a. unwrap_or a (m i)) (not_dropped w i f e es (inl p) ∙ run_leaves i f (e ∷ es) below)
    ∙ none_outside i sp (outside w.first w.end f i h p))
    refl

compact_stands : {E V : Type 0} (w : Window) (c : ℕ) (m : ℕ → Option (Content E V)) → Spans w.first w.end m
    → (i : ℕ) → max w.first c ≤ i → i < w.end → (d : E) × (past_step w (Compact c) m i ≡ Some (Entry d))
compact_stands w c m sp i h k =
    let old : (d : _) × (m i ≡ Some (Entry d)) = sp.stands i (omega arith) k in
    (old.0, ap (λ a. unwrap_or a (m i)) (compact_leaves i c (omega arith)) ∙ old.1)

compact_none : {E V : Type 0} (w : Window) (c : ℕ) (m : ℕ → Option (Content E V)) (i : ℕ)
    → (i < c) ⊎ (c ≤ i) → ((c ≤ i) → m i ≡ None) → past_step w (Compact c) m i ≡ None
compact_none w c m i (inl h) none = ap (λ a. unwrap_or a (m i)) (compact_removes i c h)
compact_none w c m i (inr h) none = ap (λ a. unwrap_or a (m i)) (compact_leaves i c h) ∙ none h

pub spans_step : {E V : Type 0} (w : Window) (x : Item E V) (m : ℕ → Option (Content E V)) → Spans w.first w.end m
    → Spans (next_window w x).first (next_window w x).end (past_step w x m)
spans_step w (Run f []) m sp = sp
spans_step w (Run f (e ∷ es)) m sp = record {
  stands = λ i h k. run_stands w f e es m sp i h k (cases_lt i f);
  none_below = run_none_below w f e es m sp;
  none_above = λ i h. ap (λ a. unwrap_or a (m i)) (not_dropped w i f e es (inr (omega arith)) ∙ run_truncates i f (e ∷ es) h (omega arith));
}
spans_step w Clean m sp = record {
  stands = λ i h k. absurd (omega arith);
  none_below = λ i h. refl;
  none_above = λ i h. refl;
}
spans_step w (Compact c) m sp = record {
  stands = compact_stands w c m sp;
  none_below = λ i h. compact_none w c m i (cases_lt i c) (λ k. sp.none_below i (omega arith));
  none_above = λ i h. compact_none w c m i (cases_lt i c) (λ _. sp.none_above i h);
}
spans_step w (Put k v) m sp = sp
spans_step w (Del k) m sp = sp

pub spans : {E V : Type 0} (w : Window) (xs : List (Item E V)) (m : ℕ → Option (Content E V)) → Spans w.first w.end m
    → Spans (window w xs).first (window w xs).end (λ i. unwrap_or (says_past w (Index i) xs) (m i))
spans w [] m sp = sp
spans w (x ∷ xs) m sp =
    same_spans _ _ _ _ (λ i. sym (unwrap_or_option_or (says_past (next_window w x) (Index i) xs) (write_past w (Index i) x) (m i)))
    (spans (next_window w x) xs (past_step w x m) (spans_step w x m sp))

-- what stands after a list is the run that the window tells
pub one_run : {E V : Type 0} (xs : List (Item E V)) → Spans (window nothing xs).first (window nothing xs).end (λ i. holds_past (Index i) xs)
one_run xs = spans nothing xs (λ i. None) (record { stands = λ i h k. absurd (omega arith); none_below = λ i h. refl; none_above = λ i h. refl })

-- the same without the rule on runs past the end, where no run leaves a hole
pub one_run_fits : {E V : Type 0} (xs : List (Item E V)) → NoHole nothing xs
    → Spans (window nothing xs).first (window nothing xs).end (λ i. holds (Index i) xs)
one_run_fits xs h = same_spans _ _ _ _ (λ i. ap (λ a. unwrap_or a None) (no_hole nothing (Index i) xs h)) (one_run xs)
