-- The table of a directory, hostile ones too: what stands by intervals.
use Rattle.std.proofs.Common.{◌≡◌, ℕ, ◌+◌, ◌-◌, ◌<◌, ◌≤◌, ◌⊎◌, max, min, List, [], ◌∷◌, length, Bool, true, false, not, ◌&&◌, Option, Some, None, is_none, unwrap_or, option_map, nat_lt, nat_le, if◌then◌else◌, refl, sym, ap, ap₂, subst, ◌∙◌, inl, inr, arith, length-take}
use Rattle.std.proofs.lemmas.Bool.{cases_lt}
use Rattle.std.specs.Option.{option_or}
use Rattle.raft_log_model_laws.specs.Item.{Item}
use Rattle.raft_log_model_laws.specs.Item.Item.{Run, Clean, Compact, Put, Del}
use Rattle.raft_log_model_laws.specs.Meaning.{Content, write, says, holds, directory}
use Rattle.raft_log_model_laws.specs.Meaning.Slot.{Index, Key}
use Rattle.raft_log_model_laws.specs.Meaning.Content.{Value}
use Rattle.raft_log_model_laws.specs.Holes.{Window, nothing, is_past, window, next_window, write_past, says_past, NoHole, low, least, high, is_below, is_silent, has_gap, directory_by_intervals}
use Rattle.raft_log_model_laws.specs.Table.{Table, content, span_of, no_table, compacted, cut_from, run_onto, table_step, table_after, table_after_past}
use Rattle.raft_log_model_laws.specs.Summary.{lesser, Summary, no_summary, step, summary_after, summary, is_left, directory_entries, directory_table, IsSummarySound}
use Rattle.raft_log_model_laws.proofs.Cases.{at_bool, lt_true, lt_false, from_lt_true, from_lt_false}
use Rattle.raft_log_model_laws.proofs.Words.{option_or_none}
use Rattle.raft_log_model_laws.proofs.Intervals.{silence, least_is_low}
use Rattle.raft_log_model_laws.proofs.Summaries.{content_kept, summary_says, run_content, empty_content, no_content, cases_end}
use Rattle.raft_log_model_laws.proofs.Joins.{is_summary, table_holds}
use Rattle.raft_log_model_laws.proofs.TableLaws.{SameRun, same_past, compact_run, hostile_table, hostile_span, span_of_items}

-- the parts of a list's summary
step_table : {E V : Type 0} (z : Summary E V) (x : Item E V) → (step z x).table ≡ table_step z.table x
step_table z (Run f []) = refl
step_table z (Run f (e ∷ es)) = refl
step_table z Clean = refl
step_table z (Compact c) = refl
step_table z (Put k v) = refl
step_table z (Del k) = refl

after_table : {E V : Type 0} (z : Summary E V) (xs : List (Item E V)) → (summary_after z xs).table ≡ table_after z.table xs
after_table z [] = refl
after_table z (x ∷ xs) = after_table (step z x) xs ∙ ap (λ t. table_after t xs) (step_table z x)

max_moves : (a b c : ℕ) → max a (max b c) ≡ max (max b a) c
max_moves a b c = omega arith

after_low : {E V : Type 0} (z : Summary E V) (xs : List (Item E V)) → (summary_after z xs).low ≡ max (low xs) z.low
after_low z [] = omega arith
after_low z (Run f [] ∷ xs) = after_low z xs
after_low z (Run f (e ∷ es) ∷ xs) = after_low (step z (Run f (e ∷ es))) xs
after_low z (Clean ∷ xs) = after_low (step z Clean) xs
after_low z (Compact c ∷ xs) = after_low (step z (Compact c)) xs ∙ max_moves (low xs) c z.low
after_low z (Put k v ∷ xs) = after_low (step z (Put k v)) xs
after_low z (Del k ∷ xs) = after_low (step z (Del k)) xs

lesser_moves : (f : ℕ) (p q : Option ℕ) → lesser p (Some (least f q)) ≡ Some (least (least f p) q)
lesser_moves f None q = refl
lesser_moves f (Some b) None = let e : min b f ≡ min f b = omega arith in ap Some e
lesser_moves f (Some b) (Some c) = let e : min b (min f c) ≡ min (min f b) c = omega arith in ap Some e

after_high : {E V : Type 0} (z : Summary E V) (xs : List (Item E V)) → (summary_after z xs).high ≡ lesser (high xs) z.high
after_high z [] = refl
after_high z (Run f [] ∷ xs) = after_high z xs
after_high z (Run f (e ∷ es) ∷ xs) = after_high (step z (Run f (e ∷ es))) xs ∙ lesser_moves f (high xs) z.high
after_high z (Clean ∷ xs) = after_high (step z Clean) xs
after_high z (Compact c ∷ xs) = after_high (step z (Compact c)) xs
after_high z (Put k v ∷ xs) = after_high (step z (Put k v)) xs
after_high z (Del k ∷ xs) = after_high (step z (Del k)) xs

no_lesser : (p : Option ℕ) → lesser p None ≡ p
no_lesser None = refl
no_lesser (Some b) = refl

summary_low : {E V : Type 0} (xs : List (Item E V)) → (summary xs).low ≡ low xs
summary_low xs = after_low no_summary xs ∙ (let e : max (low xs) 0 ≡ low xs = omega arith in e)

summary_high : {E V : Type 0} (xs : List (Item E V)) → (summary xs).high ≡ high xs
summary_high xs = after_high no_summary xs ∙ no_lesser (high xs)

-- what is left of a run, by its two ends
abbrev left_of : Window → ℕ → Option ℕ → Window
left_of w l h = record { first = max w.first l; end = least w.end h }

same_left : (a b : Window) (l : ℕ) (h : Option ℕ) → SameRun a b → SameRun (left_of a l h) (left_of b l h)
same_left a b l h (inl e) = inl (ap (λ x. max x l) e.0, ap (λ x. least x h) e.1)
same_left a b l h (inr e) = inr (omega (arith, e.0, least_is_low a.end h), omega (arith, e.1, least_is_low b.end h))

cut_span_at : {E V : Type 0} (t : Table E V) (w : Window) (h : ℕ) → SameRun (span_of t) w → (t.first < h) ⊎ (h ≤ t.first)
    → SameRun (span_of (cut_from t (Some h))) (record { first = w.first; end = min w.end h })
cut_span_at t w h (inl e) (inl k) = inl (e.0, omega (arith, e.0, e.1, length-take (h - t.first) t.entries))
cut_span_at t w h (inl e) (inr k) = inr (omega (arith, length-take (h - t.first) t.entries), omega (arith, e.0))
cut_span_at t w h (inr e) k = inr (omega (arith, e.0, length-take (h - t.first) t.entries), omega (arith, e.1))

cut_span : {E V : Type 0} (t : Table E V) (w : Window) (h : Option ℕ) → SameRun (span_of t) w
    → SameRun (span_of (cut_from t h)) (record { first = w.first; end = least w.end h })
cut_span t w None e = e
cut_span t w (Some h) e = cut_span_at t w h e (cases_lt t.first h)

kept_span : {E V : Type 0} (t : Table E V) (l : ℕ) (h : Option ℕ) → SameRun (span_of (cut_from (compacted t l) h)) (left_of (span_of t) l h)
kept_span t l h =
    cut_span (compacted t l) (record { first = max t.first l; end = t.first + length t.entries }) h (compact_run t l (cases_lt (l - t.first) (length t.entries)))

-- the run of a table with entries is the window
whole_run : {E V : Type 0} (t : Table E V) (v : Window) → SameRun (span_of t) v → 0 < length t.entries → (v.first ≡ t.first) × (v.first < v.end)
whole_run t v (inl h) n = (sym h.0, omega (arith, h.0, h.1))
whole_run t v (inr h) n = absurd (omega (arith, h.0))

with_test : (a b c : Bool) → b ≡ true → (a && c) ≡ (a && (b && c))
with_test a b c h = ap (λ d. a && (d && c)) (sym h)

-- the later run leaves a hole behind what is left of Rewrite's exactly where a gap would stay
gap_test : {E V : Type 0} (t : Table E V) (w : Window) (a : List (Item E V)) → SameRun (span_of t) w → NoHole nothing a → 0 < length (summary a).table.entries
    → is_past (span_of (cut_from (compacted t (summary a).low) (summary a).high)) (summary a).table.first ≡ has_gap w a
gap_test t w a same h some =
    let v : Window = window nothing a in
    let whole : (v.first ≡ (summary a).table.first) × (v.first < v.end) =
    whole_run (summary a).table v (subst (λ u. SameRun (span_of u) v) (sym (after_table no_summary a)) (span_of_items a h)) some in
    same_past (span_of (cut_from (compacted t (summary a).low) (summary a).high)) (left_of (span_of t) (summary a).low (summary a).high) (summary a).table.first
    (kept_span t (summary a).low (summary a).high)
    ∙ (same_past (left_of (span_of t) (summary a).low (summary a).high) (left_of w (summary a).low (summary a).high) (summary a).table.first
    (same_left (span_of t) w (summary a).low (summary a).high same)
    ∙ (ap₂ (λ l k. is_past (left_of w l k) (summary a).table.first) (summary_low a) (summary_high a)
    ∙ (ap (λ f. is_past (left_of w (low a) (high a)) f) (sym whole.0)
    ∙ with_test (nat_lt (max w.first (low a)) (least w.end (high a))) (nat_lt v.first v.end) (nat_lt (least w.end (high a)) v.first) (lt_true v.first v.end whole.1))))

no_run : {E V : Type 0} (t : Table E V) (v : Window) → SameRun (span_of t) v → length t.entries ≤ 0 → v.end ≤ v.first
no_run t v (inl h) n = omega (arith, h.0, h.1)
no_run t v (inr h) n = h.1

empty_test : (a b c : Bool) → b ≡ false → (a && (b && c)) ≡ false
empty_test true b c h = ap (λ d. d && c) h
empty_test false b c h = refl

-- where Append's table is empty there is no gap
no_gap_test : {E V : Type 0} (w : Window) (a : List (Item E V)) → NoHole nothing a → length (summary a).table.entries ≤ 0 → has_gap w a ≡ false
no_gap_test w a h none =
    empty_test (nat_lt (max w.first (low a)) (least w.end (high a))) (nat_lt (window nothing a).first (window nothing a).end)
    (nat_lt (least w.end (high a)) (window nothing a).first)
    (lt_false (window nothing a).first (window nothing a).end
    (no_run (summary a).table (window nothing a) (subst (λ u. SameRun (span_of u) (window nothing a)) (sym (after_table no_summary a)) (span_of_items a h)) none))

below_part : (l b : Bool) → (l && b) ≡ true → b ≡ true
below_part true b h = h
below_part false b h = cc

none_of : {A : Type 0} (b : Bool) (c : A) → b ≡ is_none (if b then None else Some c)
none_of true c = refl
none_of false c = refl

empty_over : {A : Type 0} (left : Bool) (c d : Option A) → d ≡ None → (if left then c else None) ≡ option_or d (if left && not false then c else None)
empty_over true c d h = sym (ap (λ e. option_or e c) h)
empty_over false c d h = sym (option_or_none d ∙ h)

-- what is kept, with Append's content over it
over : {A : Type 0} (left : Bool) (c d : Option A) → (left ≡ true → d ≡ None) → (if left then c else d) ≡ option_or d (if left && not false then c else None)
over true c d h = sym (ap (λ e. option_or e c) (h refl))
over false c d h = sym (option_or_none d)

none_over : {A : Type 0} (left gap : Bool) (c d : Option A) → gap ≡ true → d ≡ option_or d (if left && not gap then c else None)
none_over true true c d h = sym (option_or_none d)
none_over true false c d h = cc
none_over false gap c d h = sym (option_or_none d)

entries_by_gap : {E V : Type 0} (t : Table E V) (z : Summary E V) (gap : Bool) (i : ℕ) → IsSummarySound z
    → (0 < length z.table.entries → is_past (span_of (cut_from (compacted t z.low) z.high)) z.table.first ≡ gap)
    → (length z.table.entries ≤ 0 → gap ≡ false)
    → content (directory_entries t z) (Index i) ≡ option_or (content z.table (Index i)) (if is_left z i && not gap then content t (Index i) else None)
entries_by_gap {E} {V} t z gap i sound past none =
    let old : Table E V = cut_from (compacted t z.low) z.high in
    let left : Bool = nat_le z.low i && is_below i z.high in
    at_bool z.cleaned
    (λ b. z.cleaned ≡ b
    → content (if b then z.table
    else (if nat_lt 0 (length z.table.entries)
    then (if is_past (span_of old) z.table.first then z.table else run_onto old z.table.first z.table.entries)
    else old)) (Index i)
    ≡ option_or (content z.table (Index i)) (if (not b && left) && not gap then content t (Index i) else None))
    (λ _ _. sym (option_or_none (content z.table (Index i))))
    (λ _ clean. at_bool (nat_lt 0 (length z.table.entries))
    (λ d. nat_lt 0 (length z.table.entries) ≡ d
    → content (if d then (if is_past (span_of old) z.table.first then z.table else run_onto old z.table.first z.table.entries) else old) (Index i)
    ≡ option_or (content z.table (Index i)) (if left && not gap then content t (Index i) else None))
    (λ _ n. at_bool (is_past (span_of old) z.table.first)
    (λ e. is_past (span_of old) z.table.first ≡ e
    → content (if e then z.table else run_onto old z.table.first z.table.entries) (Index i)
    ≡ option_or (content z.table (Index i)) (if left && not gap then content t (Index i) else None))
    (λ _ p. none_over left gap (content t (Index i)) (content z.table (Index i)) (sym (past (from_lt_true 0 _ n)) ∙ p))
    (λ _ p. run_content t z i sound (λ _ _. p) clean (from_lt_true 0 _ n) (cases_lt i z.table.first)
    ∙ (over left (content t (Index i)) (content z.table (Index i))
    (λ l. no_content z i sound (below_part (nat_le z.low i) (is_below i z.high) l) (cases_lt i z.table.first) (cases_end i (z.table.first + length z.table.entries)))
    ∙ ap (λ g. option_or (content z.table (Index i)) (if left && not g then content t (Index i) else None)) (sym p ∙ past (from_lt_true 0 _ n))))
    refl)
    (λ _ n. content_kept t z i
    ∙ (empty_over left (content t (Index i)) (content z.table (Index i)) (empty_content z.table i (from_lt_false 0 _ n) (cases_lt i z.table.first))
    ∙ ap (λ g. option_or (content z.table (Index i)) (if left && not g then content t (Index i) else None)) (sym (none (from_lt_false 0 _ n)))))
    refl)
    refl

left_silent : {E V : Type 0} (a : List (Item E V)) (i : ℕ) → NoHole nothing a → is_left (summary a) i ≡ is_silent a i
left_silent a i h = none_of (is_left (summary a) i) (content (summary a).table (Index i)) ∙ (ap is_none (summary_says a (Index i) h) ∙ silence a i)

-- the entries of any directory whose Append has no hole
pub directory_entries_hold : {E V : Type 0} (r a : List (Item E V)) (i : ℕ) → NoHole nothing a
    → content (directory_table (table_after_past no_table r) (summary a)) (Index i) ≡ directory_by_intervals i r a
directory_entries_hold r a i h =
    entries_by_gap (table_after_past no_table r) (summary a) (has_gap (window nothing r) a) i (is_summary a h).sound
    (gap_test (table_after_past no_table r) (window nothing r) a (hostile_span r) h) (no_gap_test (window nothing r) a h)
    ∙ (ap₂ (λ c l. option_or c (if l && not (has_gap (window nothing r) a) then content (table_after_past no_table r) (Index i) else None))
    (table_holds (summary a) a (Index i) (is_summary a h)) (left_silent a i h)
    ∙ ap (λ c. option_or (holds (Index i) a) (if is_silent a i && not (has_gap (window nothing r) a) then c else None)) (hostile_table r (Index i)))

-- no run speaks of a key
key_word : {E V : Type 0} (w : Window) (k : List ℕ) (x : Item E V) → write_past w (Key k) x ≡ write (Key k) x
key_word w k (Run f []) = refl
key_word w k (Run f (e ∷ es)) = refl
key_word w k Clean = refl
key_word w k (Compact c) = refl
key_word w k (Put l v) = refl
key_word w k (Del l) = refl

key_says : {E V : Type 0} (w : Window) (k : List ℕ) (xs : List (Item E V)) → says_past w (Key k) xs ≡ says (Key k) xs
key_says w k [] = refl
key_says w k (x ∷ xs) = ap₂ option_or (key_says (next_window w x) k xs) (key_word w k x)

pub key_over : {E V : Type 0} (zv tv : Option V) (gone : Bool)
    → ◌≡◌ {A = Option (Content E V)} (option_map Value (option_or zv (if gone then None else tv)))
    (unwrap_or (option_or (option_map (λ v. Some (Value v)) zv) (if gone then Some None else None)) (option_map Value tv))
key_over (Some v) tv gone = refl
key_over None tv true = refl
key_over None tv false = refl

-- the values of any directory whose Append has no hole
pub directory_values_hold : {E V : Type 0} (r a : List (Item E V)) (k : List ℕ) → NoHole nothing a
    → content (directory_table (table_after_past no_table r) (summary a)) (Key k) ≡ directory (Key k) r a
directory_values_hold r a k h =
    key_over ((summary a).table.values k) ((table_after_past no_table r).values k) _
    ∙ ap₂ (λ w c. unwrap_or w c) (summary_says a (Key k) h) (hostile_table r (Key k) ∙ ap (λ o. unwrap_or o None) (key_says nothing k r))
