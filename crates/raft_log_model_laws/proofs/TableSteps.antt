-- What stands in a table after each of its changes.
use Rattle.std.proofs.Common.{◌≡◌, ℕ, zero, suc, ◌+◌, ◌-◌, ◌<◌, ◌≤◌, ◌⊎◌, min, List, [], ◌∷◌, ◌++◌, length, take, drop, false, ◌&&◌, Option, Some, None, option_map, slice_get, nat_lt, nat_le, if◌then◌else◌, refl, sym, ap, ◌∙◌, inl, inr, arith, length-append, length-take, length-drop}
use Rattle.std.proofs.lemmas.Bool.Decides.{nat_tests}
use Rattle.std.proofs.lemmas.Bool.{cases_lt}
use Rattle.std.proofs.lemmas.Option.{slice_get_past}
use Rattle.raft_log_model_laws.specs.Meaning.Slot.{Index}
use Rattle.raft_log_model_laws.specs.Meaning.Content.{Entry}
use Rattle.raft_log_model_laws.specs.Holes.{is_past, is_below}
use Rattle.raft_log_model_laws.specs.Table.{Table, content, span_of, compacted, cut_from, run_onto}
use Rattle.raft_log_model_laws.proofs.Cases.{at_bool, if_true, if_false, le_true, le_false, from_lt_true, from_le_true, from_lt_false, from_le_false}

pub get_drop : {A : Type 0} (n : ℕ) (xs : List A) (i : ℕ) → slice_get (drop n xs) i ≡ slice_get xs (n + i)
get_drop zero xs i = let e : i ≡ 0 + i = omega arith in ap (slice_get xs) e
get_drop (suc n) [] i = refl
get_drop (suc n) (x ∷ xs) i = let e : suc (n + i) ≡ suc n + i = omega arith in get_drop n xs i ∙ ap (slice_get (x ∷ xs)) e

pub get_take : {A : Type 0} (n : ℕ) (xs : List A) (i : ℕ) → i < n → slice_get (take n xs) i ≡ slice_get xs i
get_take zero xs i h = absurd (omega arith)
get_take (suc n) [] i h = refl
get_take (suc n) (x ∷ xs) zero h = refl
get_take (suc n) (x ∷ xs) (suc i) h = get_take n xs i (omega arith)

pub get_front : {A : Type 0} (xs ys : List A) (i : ℕ) → i < length xs → slice_get (xs ++ ys) i ≡ slice_get xs i
get_front [] ys i h = absurd (omega arith)
get_front (x ∷ xs) ys zero h = refl
get_front (x ∷ xs) ys (suc i) h = get_front xs ys i (omega arith)

pub get_back : {A : Type 0} (xs ys : List A) (i j : ℕ) → i ≡ length xs + j → slice_get (xs ++ ys) i ≡ slice_get ys j
get_back [] ys i j h = let e : i ≡ j = omega arith in ap (slice_get ys) e
get_back (x ∷ xs) ys zero j h = absurd (omega arith)
get_back (x ∷ xs) ys (suc i) j h = get_back xs ys i j (omega arith)

-- where nothing stands, and where something may
pub content_below : {E V : Type 0} (t : Table E V) (i : ℕ) → i < t.first → content t (Index i) ≡ None
content_below t i h = if_false (nat_le t.first i) _ _ (le_false t.first i h)

pub content_within : {E V : Type 0} (t : Table E V) (i : ℕ) → t.first ≤ i → content t (Index i) ≡ option_map Entry (slice_get t.entries (i - t.first))
content_within t i h = if_true (nat_le t.first i) _ _ (le_true t.first i h)

pub content_above : {E V : Type 0} (t : Table E V) (i : ℕ) → t.first + length t.entries ≤ i → content t (Index i) ≡ None
content_above t i h =
    content_within t i (omega arith) ∙ ap (option_map Entry) (slice_get_past t.entries (i - t.first) (omega arith))

compacted_gone_at : {E V : Type 0} (t : Table E V) (c i : ℕ) → i < c
    → (i < (compacted t c).first) ⊎ ((compacted t c).first ≤ i) → content (compacted t c) (Index i) ≡ None
compacted_gone_at t c i h (inl below) = content_below (compacted t c) i below
compacted_gone_at t c i h (inr above) = content_above (compacted t c) i (omega (arith, length-drop (c - t.first) t.entries))

compacted_stays_where : {E V : Type 0} (t : Table E V) (c i : ℕ) → c ≤ i → t.first ≤ i
    → (c - t.first < length t.entries) ⊎ (length t.entries ≤ c - t.first)
    → content (compacted t c) (Index i) ≡ content t (Index i)
compacted_stays_where t c i h above (inl some) =
    let e : (c - t.first) + (i - (t.first + min (c - t.first) (length t.entries))) ≡ i - t.first = omega arith in
    content_within (compacted t c) i (omega arith)
    ∙ (ap (option_map Entry) (get_drop (c - t.first) t.entries (i - (compacted t c).first) ∙ ap (slice_get t.entries) e)
    ∙ sym (content_within t i above))
compacted_stays_where t c i h above (inr none) =
    content_above (compacted t c) i (omega (arith, length-drop (c - t.first) t.entries)) ∙ sym (content_above t i (omega arith))

compacted_stays_at : {E V : Type 0} (t : Table E V) (c i : ℕ) → c ≤ i → (i < t.first) ⊎ (t.first ≤ i)
    → content (compacted t c) (Index i) ≡ content t (Index i)
compacted_stays_at t c i h (inl below) = content_below (compacted t c) i (omega arith) ∙ sym (content_below t i below)
compacted_stays_at t c i h (inr above) = compacted_stays_where t c i h above (cases_lt (c - t.first) (length t.entries))

-- an index below the compact index is empty
compacted_gone : {E V : Type 0} (t : Table E V) (c i : ℕ) → i < c → content (compacted t c) (Index i) ≡ None
compacted_gone t c i h = compacted_gone_at t c i h (cases_lt i (compacted t c).first)

-- at or above the compact index nothing changes
compacted_stays : {E V : Type 0} (t : Table E V) (c i : ℕ) → c ≤ i → content (compacted t c) (Index i) ≡ content t (Index i)
compacted_stays t c i h = compacted_stays_at t c i h (cases_lt i t.first)

pub content_compacted : {E V : Type 0} (t : Table E V) (c i : ℕ)
    → content (compacted t c) (Index i) ≡ (if nat_lt i c then None else content t (Index i))
content_compacted t c i =
    at_bool (nat_lt i c) (λ b. content (compacted t c) (Index i) ≡ (if b then None else content t (Index i)))
    (λ h. compacted_gone t c i (from_lt_true i c h)) (λ h. compacted_stays t c i (from_lt_false i c h))

cut_stays_at : {E V : Type 0} (t : Table E V) (h i : ℕ) → i < h → (i < t.first) ⊎ (t.first ≤ i)
    → content (cut_from t (Some h)) (Index i) ≡ content t (Index i)
cut_stays_at t h i k (inl below) = content_below (cut_from t (Some h)) i below ∙ sym (content_below t i below)
cut_stays_at t h i k (inr above) =
    content_within (cut_from t (Some h)) i above
    ∙ (ap (option_map Entry) (get_take (h - t.first) t.entries (i - t.first) (omega arith)) ∙ sym (content_within t i above))

cut_gone_at : {E V : Type 0} (t : Table E V) (h i : ℕ) → h ≤ i → (i < t.first) ⊎ (t.first ≤ i) → content (cut_from t (Some h)) (Index i) ≡ None
cut_gone_at t h i k (inl below) = content_below (cut_from t (Some h)) i below
cut_gone_at t h i k (inr above) = content_above (cut_from t (Some h)) i (omega (arith, length-take (h - t.first) t.entries))

cut_stays : {E V : Type 0} (t : Table E V) (h i : ℕ) → i < h → content (cut_from t (Some h)) (Index i) ≡ content t (Index i)
cut_stays t h i k = cut_stays_at t h i k (cases_lt i t.first)

cut_gone : {E V : Type 0} (t : Table E V) (h i : ℕ) → h ≤ i → content (cut_from t (Some h)) (Index i) ≡ None
cut_gone t h i k = cut_gone_at t h i k (cases_lt i t.first)

pub content_cut : {E V : Type 0} (t : Table E V) (high : Option ℕ) (i : ℕ)
    → content (cut_from t high) (Index i) ≡ (if is_below i high then content t (Index i) else None)
content_cut t None i = refl
content_cut t (Some h) i =
    at_bool (nat_lt i h) (λ b. content (cut_from t (Some h)) (Index i) ≡ (if b then content t (Index i) else None))
    (λ k. cut_stays t h i (from_lt_true i h k)) (λ k. cut_gone t h i (from_lt_false i h k))

-- the numbers of a run behind a table: where it begins, and where the rest of the old run ends
run_ends : (a n f : ℕ) → (nat_lt a (a + n) && nat_lt (a + n) f) ≡ false
    → (if nat_lt a f && nat_lt 0 n then a else f) + min (f - a) n ≡ f
run_ends a n f h = grind (arith, nat_tests)

run_below : (a n f i : ℕ) → (nat_lt a (a + n) && nat_lt (a + n) f) ≡ false → i < (if nat_lt a f && nat_lt 0 n then a else f) → i < f
    → (i < a) ⊎ (a + n ≤ i)
run_below a n f i h k m = grind (arith, nat_tests)

run_keeps : (a n f i : ℕ) → (if nat_lt a f && nat_lt 0 n then a else f) ≤ i → i < f → (if nat_lt a f && nat_lt 0 n then a else f) ≡ a
run_keeps a n f i h k = grind (arith, nat_tests)

none_at : {E V : Type 0} (t : Table E V) (i : ℕ) → (i < t.first) ⊎ (t.first + length t.entries ≤ i) → content t (Index i) ≡ None
none_at t i (inl h) = content_below t i h
none_at t i (inr h) = content_above t i h

run_new : {E V : Type 0} (t : Table E V) (f i : ℕ) (es : List E) → is_past (span_of t) f ≡ false → f ≤ i
    → content (run_onto t f es) (Index i) ≡ option_map Entry (slice_get es (i - f))
run_new t f i es h k =
    let ends : (run_onto t f es).first + length (take (f - t.first) t.entries) ≡ f =
    ap (λ n. (run_onto t f es).first + n) (length-take (f - t.first) t.entries) ∙ run_ends t.first (length t.entries) f h in
    let place : i - (run_onto t f es).first ≡ length (take (f - t.first) t.entries) + (i - f) = omega arith in
    content_within (run_onto t f es) i (omega arith)
    ∙ ap (option_map Entry) (get_back (take (f - t.first) t.entries) es (i - (run_onto t f es).first) (i - f) place)

run_old : {E V : Type 0} (t : Table E V) (f i : ℕ) (es : List E) → is_past (span_of t) f ≡ false → i < f
    → (i < (run_onto t f es).first) ⊎ ((run_onto t f es).first ≤ i) → content (run_onto t f es) (Index i) ≡ content t (Index i)
run_old t f i es h k (inl below) =
    content_below (run_onto t f es) i below ∙ sym (none_at t i (run_below t.first (length t.entries) f i h below k))
run_old t f i es h k (inr above) =
    let same : (run_onto t f es).first ≡ t.first = run_keeps t.first (length t.entries) f i above k in
    let ends : (run_onto t f es).first + length (take (f - t.first) t.entries) ≡ f =
    ap (λ n. (run_onto t f es).first + n) (length-take (f - t.first) t.entries) ∙ run_ends t.first (length t.entries) f h in
    content_within (run_onto t f es) i above
    ∙ (ap (option_map Entry)
    (get_front (take (f - t.first) t.entries) es (i - (run_onto t f es).first) (omega arith)
    ∙ (get_take (f - t.first) t.entries (i - (run_onto t f es).first) (omega arith)
    ∙ ap (λ n. slice_get t.entries (i - n)) same))
    ∙ sym (content_within t i (omega arith)))

-- a run that leaves no hole: its entries from its first index on, the old ones below
pub content_run : {E V : Type 0} (t : Table E V) (f i : ℕ) (es : List E) → is_past (span_of t) f ≡ false
    → content (run_onto t f es) (Index i) ≡ (if nat_le f i then option_map Entry (slice_get es (i - f)) else content t (Index i))
content_run t f i es h =
    at_bool (nat_le f i) (λ b. content (run_onto t f es) (Index i) ≡ (if b then option_map Entry (slice_get es (i - f)) else content t (Index i)))
    (λ k. run_new t f i es h (from_le_true f i k)) (λ k. run_old t f i es h (from_le_false f i k) (cases_lt i (run_onto t f es).first))

-- the ends of the table's run after a run
pub run_end : {E V : Type 0} (t : Table E V) (f : ℕ) (es : List E) → is_past (span_of t) f ≡ false
    → (run_onto t f es).first + length (run_onto t f es).entries ≡ f + length es
run_end t f es h =
    ap (λ n. (run_onto t f es).first + n) (length-append (take (f - t.first) t.entries) es ∙ ap (λ n. n + length es) (length-take (f - t.first) t.entries))
    ∙ (let ends : (run_onto t f es).first + min (f - t.first) (length t.entries) ≡ f = run_ends t.first (length t.entries) f h in omega arith)
