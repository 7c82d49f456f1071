-- A table that takes items one after another holds what stands after them.
use Rattle.std.proofs.Common.{◌≡◌, ℕ, ◌+◌, ◌-◌, ◌<◌, ◌≤◌, ◌⊎◌, max, List, [], ◌∷◌, length, Bool, true, false, ◌&&◌, Option, Some, None, unwrap_or, option_map, slice_get, bytes_eq, nat_lt, nat_le, if◌then◌else◌, refl, sym, ap, ap₂, subst, ◌∙◌, inl, inr, arith, length-drop}
use Rattle.std.proofs.lemmas.Bool.Decides.{nat_tests}
use Rattle.std.proofs.lemmas.Bool.{cases_lt}
use Rattle.raft_log_model_laws.specs.Item.{Item}
use Rattle.raft_log_model_laws.specs.Item.Item.{Run, Clean, Compact, Put, Del}
use Rattle.raft_log_model_laws.specs.Meaning.{Slot, Content, write, holds}
use Rattle.raft_log_model_laws.specs.Meaning.Slot.{Index, Key}
use Rattle.raft_log_model_laws.specs.Meaning.Content.{Entry, Value}
use Rattle.raft_log_model_laws.specs.Holes.{Window, nothing, is_past, next_window, window, write_past, says_past, holds_past, FitsOn, NoHole}
use Rattle.raft_log_model_laws.specs.Table.{Table, content, span_of, no_table, compacted, run_onto, table_step, table_after, table_step_past, table_after_past}
use Rattle.raft_log_model_laws.proofs.Cases.{at_bool, if_false}
use Rattle.raft_log_model_laws.proofs.Words.{unwrap_or_option_or}
use Rattle.raft_log_model_laws.proofs.Holes.{fits_writes, no_hole}
use Rattle.raft_log_model_laws.proofs.Windows.{past_drops, not_dropped}
use Rattle.raft_log_model_laws.proofs.Tests.{run_sets}
use Rattle.raft_log_model_laws.proofs.TableSteps.{content_below, content_within, content_compacted, content_run, run_end}
use Rattle.raft_log_model_laws.proofs.Summaries.{nothing_stands}

word_if : {A : Type 0} (b : Bool) (x : Option A) (old : Option A) → (if b then x else old) ≡ unwrap_or (if b then Some x else None) old
word_if true x old = refl
word_if false x old = refl

put_if : {E V : Type 0} (b : Bool) (v : V) (old : Option V)
    → ◌≡◌ {A = Option (Content E V)} (option_map Value (if b then Some v else old)) (unwrap_or (if b then Some (Some (Value v)) else None) (option_map Value old))
put_if true v old = refl
put_if false v old = refl

del_if : {E V : Type 0} (b : Bool) (old : Option V)
    → ◌≡◌ {A = Option (Content E V)} (option_map Value (if b then None else old)) (unwrap_or (if b then Some None else None) (option_map Value old))
del_if true old = refl
del_if false old = refl

-- one more item that leaves no hole
pub table_takes : {E V : Type 0} (t : Table E V) (x : Item E V) (s : Slot) → FitsOn (span_of t) x
    → content (table_step t x) s ≡ unwrap_or (write s x) (content t s)
table_takes t (Run f []) (Index i) h = refl
table_takes t (Run f (e ∷ es)) (Index i) h =
    content_run t f i (e ∷ es) h ∙ word_if (nat_le f i) (option_map Entry (slice_get (e ∷ es) (i - f))) (content t (Index i))
table_takes t Clean (Index i) h = nothing_stands i
table_takes t (Compact c) (Index i) h = content_compacted t c i ∙ word_if (nat_lt i c) None (content t (Index i))
table_takes t (Put k v) (Index i) h = refl
table_takes t (Del k) (Index i) h = refl
table_takes t (Run f []) (Key q) h = refl
table_takes t (Run f (e ∷ es)) (Key q) h = refl
table_takes t Clean (Key q) h = refl
table_takes t (Compact c) (Key q) h = refl
table_takes t (Put k v) (Key q) h = put_if (bytes_eq k q) v (t.values q)
table_takes t (Del k) (Key q) h = del_if (bytes_eq k q) (t.values q)

-- a run past the end: it stands alone
run_alone : {E V : Type 0} (t : Table E V) (f i : ℕ) (e : E) (es : List E) → is_past (span_of t) f ≡ true → (i < f) ⊎ (f ≤ i)
    → content (record { first = f; entries = e ∷ es; values = t.values }) (Index i) ≡ unwrap_or (write_past {V = V} (span_of t) (Index i) (Run f (e ∷ es))) (content t (Index i))
run_alone t f i e es h (inl below) =
    content_below (record { first = f; entries = e ∷ es; values = t.values }) i below
    ∙ sym (ap (λ a. unwrap_or a (content t (Index i))) (past_drops (span_of t) i f e es h below))
run_alone t f i e es h (inr above) =
    content_within (record { first = f; entries = e ∷ es; values = t.values }) i above
    ∙ sym (ap (λ a. unwrap_or a (content t (Index i))) (not_dropped (span_of t) i f e es (inr above) ∙ run_sets i f (e ∷ es) above (omega arith)))

run_takes_past : {E V : Type 0} (t : Table E V) (f i : ℕ) (e : E) (es : List E)
    → content (table_step_past t (Run f (e ∷ es))) (Index i) ≡ unwrap_or (write_past {V = V} (span_of t) (Index i) (Run f (e ∷ es))) (content t (Index i))
run_takes_past t f i e es =
    at_bool (is_past (span_of t) f)
    (λ b. is_past (span_of t) f ≡ b
    → content (if b then record { first = f; entries = e ∷ es; values = t.values } else run_onto t f (e ∷ es)) (Index i)
    ≡ unwrap_or (write_past (span_of t) (Index i) (Run f (e ∷ es))) (content t (Index i)))
    (λ _ h. run_alone t f i e es h (cases_lt i f))
    (λ _ h. table_takes t (Run f (e ∷ es)) (Index i) h
    ∙ ap (λ a. unwrap_or a (content t (Index i))) (sym (fits_writes (span_of t) (Index i) (Run f (e ∷ es)) h)))
    refl

key_kept : {E V : Type 0} (b : Bool) (t u : Table E V) (q : List ℕ) → t.values q ≡ u.values q → content (if b then t else u) (Key q) ≡ content u (Key q)
key_kept true t u q h = ap (option_map Value) h
key_kept false t u q h = refl

-- one more item, where a run past the end drops what stood
pub table_takes_past : {E V : Type 0} (t : Table E V) (x : Item E V) (s : Slot)
    → content (table_step_past t x) s ≡ unwrap_or (write_past (span_of t) s x) (content t s)
table_takes_past t (Run f []) (Index i) = refl
table_takes_past t (Run f (e ∷ es)) (Index i) = run_takes_past t f i e es
table_takes_past t Clean (Index i) = nothing_stands i
table_takes_past t (Compact c) (Index i) = table_takes t (Compact c) (Index i) tt
table_takes_past t (Put k v) (Index i) = refl
table_takes_past t (Del k) (Index i) = refl
table_takes_past t (Run f []) (Key q) = refl
table_takes_past t (Run f (e ∷ es)) (Key q) =
    key_kept (is_past (span_of t) f) (record { first = f; entries = e ∷ es; values = t.values }) (run_onto t f (e ∷ es)) q refl
table_takes_past t Clean (Key q) = refl
table_takes_past t (Compact c) (Key q) = refl
table_takes_past t (Put k v) (Key q) = table_takes t (Put k v) (Key q) tt
table_takes_past t (Del k) (Key q) = table_takes t (Del k) (Key q) tt

-- two windows are one, or both are empty
abbrev pub SameRun : Window → Window → Type 0
SameRun a b = ((a.first ≡ b.first) × (a.end ≡ b.end)) ⊎ ((a.end ≤ a.first) × (b.end ≤ b.first))

same_trans : (a b c : Window) → SameRun a b → SameRun b c → SameRun a c
same_trans a b c (inl h) (inl k) = inl (h.0 ∙ k.0, h.1 ∙ k.1)
same_trans a b c (inl h) (inr k) = inr (omega (arith, h.0, h.1, k.0), k.1)
same_trans a b c (inr h) (inl k) = inr (h.0, omega (arith, h.1, k.0, k.1))
same_trans a b c (inr h) (inr k) = inr (h.0, k.1)

both_empty_past : (a b f : ℕ) → b ≤ a → (nat_lt a b && nat_lt b f) ≡ false
both_empty_past a b f h = grind (arith, nat_tests)

pub same_past : (a b : Window) (f : ℕ) → SameRun a b → is_past a f ≡ is_past b f
same_past a b f (inl h) = ap₂ (λ x y. nat_lt x y && nat_lt y f) h.0 h.1
same_past a b f (inr h) = both_empty_past a.first a.end f h.0 ∙ sym (both_empty_past b.first b.end f h.1)

empty_first : (a b f : ℕ) → b ≤ a → (if nat_lt a f && nat_le f b then a else f) ≡ f
empty_first a b f h = grind (arith, nat_tests)

same_next : {E V : Type 0} (a b : Window) (x : Item E V) → SameRun a b → SameRun (next_window a x) (next_window b x)
same_next a b (Run f []) h = h
same_next a b (Run f (e ∷ es)) (inl h) = inl (ap₂ (λ x y. if nat_lt x f && nat_le f y then x else f) h.0 h.1, refl)
same_next a b (Run f (e ∷ es)) (inr h) = inl (empty_first a.first a.end f h.0 ∙ sym (empty_first b.first b.end f h.1), refl)
same_next a b Clean h = inl (refl, refl)
same_next a b (Compact c) (inl h) = inl (ap (λ x. max x c) h.0, h.1)
same_next a b (Compact c) (inr h) = inr (omega (arith, h.0), omega (arith, h.1))
same_next a b (Put k v) h = h
same_next a b (Del k) h = h

same_write : {E V : Type 0} (a b : Window) (s : Slot) (x : Item E V) → SameRun a b → write_past a s x ≡ write_past b s x
same_write a b (Index i) (Run f []) h = refl
same_write a b (Index i) (Run f (e ∷ es)) h = ap (λ p. if p && nat_lt i f then Some None else write (Index i) (Run f (e ∷ es))) (same_past a b f h)
same_write a b (Index i) Clean h = refl
same_write a b (Index i) (Compact c) h = refl
same_write a b (Index i) (Put k v) h = refl
same_write a b (Index i) (Del k) h = refl
same_write a b (Key q) (Run f []) h = refl
same_write a b (Key q) (Run f (e ∷ es)) h = refl
same_write a b (Key q) Clean h = refl
same_write a b (Key q) (Compact c) h = refl
same_write a b (Key q) (Put k v) h = refl
same_write a b (Key q) (Del k) h = refl

same_fits : {E V : Type 0} (a b : Window) (x : Item E V) → SameRun a b → FitsOn b x → FitsOn a x
same_fits a b (Run f []) h k = k
same_fits a b (Run f (e ∷ es)) h k = same_past a b f h ∙ k
same_fits a b Clean h k = k
same_fits a b (Compact c) h k = k
same_fits a b (Put l v) h k = k
same_fits a b (Del l) h k = k

alone_first : (a n f : ℕ) → (nat_lt a (a + n) && nat_lt (a + n) f) ≡ true → f ≡ (if nat_lt a f && nat_le f (a + n) then a else f)
alone_first a n f h = grind (arith, nat_tests)

joined_first : (a n f : ℕ) → (nat_lt a (a + n) && nat_lt (a + n) f) ≡ false
    → (if nat_lt a f && nat_lt 0 n then a else f) ≡ (if nat_lt a f && nat_le f (a + n) then a else f)
joined_first a n f h = grind (arith, nat_tests)

run_span : {E V : Type 0} (t : Table E V) (f : ℕ) (e : E) (es : List E) → SameRun (span_of (table_step_past t (Run f (e ∷ es)))) (next_window {V = V} (span_of t) (Run f (e ∷ es)))
run_span {E} {V} t f e es =
    at_bool (is_past (span_of t) f)
    (λ b. is_past (span_of t) f ≡ b
    → SameRun (span_of (if b then record { first = f; entries = e ∷ es; values = t.values } else run_onto t f (e ∷ es))) (next_window {V = V} (span_of t) (Run f (e ∷ es))))
    (λ _ h. inl (alone_first t.first (length t.entries) f h, refl))
    (λ _ h. inl (joined_first t.first (length t.entries) f h, run_end t f (e ∷ es) h))
    refl

pub compact_run : {E V : Type 0} (t : Table E V) (c : ℕ) → (c - t.first < length t.entries) ⊎ (length t.entries ≤ c - t.first)
    → SameRun (span_of (compacted t c)) (record { first = max t.first c; end = t.first + length t.entries })
compact_run t c (inl h) = inl (omega arith, omega (arith, length-drop (c - t.first) t.entries))
compact_run t c (inr h) = inr (omega (arith, length-drop (c - t.first) t.entries), omega arith)

step_runs : {E V : Type 0} (t : Table E V) (x : Item E V) → SameRun (span_of (table_step_past t x)) (next_window (span_of t) x)
step_runs t (Run f []) = inl (refl, refl)
step_runs t (Run f (e ∷ es)) = run_span t f e es
step_runs t Clean = inl (refl, omega arith)
step_runs t (Compact c) = compact_run t c (cases_lt (c - t.first) (length t.entries))
step_runs t (Put k v) = inl (refl, refl)
step_runs t (Del k) = inl (refl, refl)

-- after more items, where a run past the end drops what stood
after_past : {E V : Type 0} (t : Table E V) (w : Window) (xs : List (Item E V)) (s : Slot) → SameRun (span_of t) w
    → content (table_after_past t xs) s ≡ unwrap_or (says_past w s xs) (content t s)
after_past t w [] s h = refl
after_past t w (x ∷ xs) s h =
    after_past (table_step_past t x) (next_window w x) xs s (same_trans _ _ _ (step_runs t x) (same_next (span_of t) w x h))
    ∙ (ap (λ a. unwrap_or (says_past (next_window w x) s xs) a)
    (table_takes_past t x s ∙ ap (λ a. unwrap_or a (content t s)) (same_write (span_of t) w s x h))
    ∙ sym (unwrap_or_option_or (says_past (next_window w x) s xs) (write_past w s x) (content t s)))

after_runs : {E V : Type 0} (t : Table E V) (w : Window) (xs : List (Item E V)) → SameRun (span_of t) w → SameRun (span_of (table_after_past t xs)) (window w xs)
after_runs t w [] h = h
after_runs t w (x ∷ xs) h = after_runs (table_step_past t x) (next_window w x) xs (same_trans _ _ _ (step_runs t x) (same_next (span_of t) w x h))

no_run : SameRun nothing nothing
no_run = inl (refl, refl)

none_stands : {E V : Type 0} (s : Slot) → content (no_table {E = E} {V = V}) s ≡ None
none_stands (Index i) = nothing_stands i
none_stands (Key k) = refl

-- the table of any list, hostile ones too
pub hostile_table : {E V : Type 0} (xs : List (Item E V)) (s : Slot) → content (table_after_past no_table xs) s ≡ holds_past s xs
hostile_table xs s = after_past no_table nothing xs s no_run ∙ ap (λ a. unwrap_or (says_past nothing s xs) a) (none_stands s)

pub hostile_span : {E V : Type 0} (xs : List (Item E V)) → SameRun (span_of (table_after_past no_table xs)) (window nothing xs)
hostile_span xs = after_runs no_table nothing xs no_run

-- an item that leaves no hole needs no rule
same_step : {E V : Type 0} (t : Table E V) (x : Item E V) → FitsOn (span_of t) x → table_step_past t x ≡ table_step t x
same_step t (Run f []) h = refl
same_step t (Run f (e ∷ es)) h = if_false (is_past (span_of t) f) _ _ h
same_step t Clean h = refl
same_step t (Compact c) h = refl
same_step t (Put k v) h = refl
same_step t (Del k) h = refl

same_after : {E V : Type 0} (t : Table E V) (w : Window) (xs : List (Item E V)) → SameRun (span_of t) w → NoHole w xs → table_after_past t xs ≡ table_after t xs
same_after t w [] h k = refl
same_after t w (x ∷ xs) h k =
    same_after (table_step_past t x) (next_window w x) xs (same_trans _ _ _ (step_runs t x) (same_next (span_of t) w x h)) k.1
    ∙ ap (λ u. table_after u xs) (same_step t x (same_fits (span_of t) w x h k.0))

-- the table of a list without holes
pub table_of_items : {E V : Type 0} (xs : List (Item E V)) (s : Slot) → NoHole nothing xs → content (table_after no_table xs) s ≡ holds s xs
table_of_items xs s h =
    ap (λ t. content t s) (sym (same_after no_table nothing xs no_run h))
    ∙ (hostile_table xs s ∙ ap (λ a. unwrap_or a None) (no_hole nothing s xs h))

pub span_of_items : {E V : Type 0} (xs : List (Item E V)) → NoHole nothing xs → SameRun (span_of (table_after no_table xs)) (window nothing xs)
span_of_items xs h = subst (λ t. SameRun (span_of t) (window nothing xs)) (same_after no_table nothing xs no_run h) (hostile_span xs)
