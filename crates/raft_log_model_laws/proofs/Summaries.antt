-- The word of a segment's summary is the last word of its items; two summaries joined are the summary of both segments.
use Rattle.std.proofs.Common.{◌≡◌, ℕ, ◌+◌, ◌-◌, ◌<◌, ◌≤◌, ◌⊎◌, max, min, List, [], ◌∷◌, length, Bool, true, false, not, ◌&&◌, ◌||◌, Option, Some, None, unwrap_or, option_map, bytes_eq, nat_lt, nat_le, if◌then◌else◌, refl, sym, ap, ap₂, ◌∙◌, inl, inr, arith, length-take, length-drop}
use Rattle.std.proofs.lemmas.Bool.Decides.{nat_tests}
use Rattle.std.proofs.lemmas.Bool.{cases_lt}
use Rattle.std.specs.Option.{option_or}
use Rattle.raft_log_model_laws.specs.Item.{Item}
use Rattle.raft_log_model_laws.specs.Item.Item.{Run, Clean, Compact, Put, Del}
use Rattle.raft_log_model_laws.specs.Meaning.{Slot, Content, write, says}
use Rattle.raft_log_model_laws.specs.Meaning.Slot.{Index, Key}
use Rattle.raft_log_model_laws.specs.Meaning.Content.{Value}
use Rattle.raft_log_model_laws.specs.Holes.{Window, nothing, is_past, next_window, FitsOn, NoHole, least, is_below}
use Rattle.raft_log_model_laws.specs.Table.{Table, content, span_of, no_table, compacted, cut_from, run_onto}
use Rattle.raft_log_model_laws.specs.Summary.{IsSummarySound, Summary, no_summary, step, summary_after, summary, is_left, word, lesser, entries_over, join}
use Rattle.raft_log_model_laws.proofs.Cases.{at_bool, if_true, if_false, lt_true, le_true, le_false, lt_false, from_lt_true, from_lt_false, neither, and_true}
use Rattle.raft_log_model_laws.proofs.Words.{option_or_assoc, option_or_none}
use Rattle.raft_log_model_laws.proofs.Tests.{run_sets, run_leaves, compact_removes, compact_leaves}
use Rattle.raft_log_model_laws.proofs.Holes.{IsTail, tail_step}
use Rattle.raft_log_model_laws.proofs.TableSteps.{content_below, content_within, content_above, content_compacted, content_cut, content_run, run_end}

pub nothing_stands : {E V : Type 0} (i : ℕ) → content (no_table {E = E} {V = V}) (Index i) ≡ None
nothing_stands i = neither (nat_le 0 i)

lesser_test : (i f b : ℕ) → i < f → nat_lt i (min f b) ≡ nat_lt i b
lesser_test i f b h = grind (arith, nat_tests)

-- a run: what it leaves alone, and what stands
run_left : (c : Bool) (low i f : ℕ) (high : Option ℕ) → i < f → (not c && (nat_le low i && is_below i (Some (least f high)))) ≡ (not c && (nat_le low i && is_below i high))
run_left c low i f None h = ap (λ b. not c && (nat_le low i && b)) (lt_true i f h)
run_left c low i f (Some b) h = ap (λ d. not c && (nat_le low i && d)) (lesser_test i f b h)

run_takes : (i f : ℕ) (high : Option ℕ) → f ≤ i → is_below i (Some (least f high)) ≡ false
run_takes i f None h = lt_false i f h
run_takes i f (Some b) h = lt_false i (min f b) (omega arith)

pub not_left : (c l b : Bool) → b ≡ false → (not c && (l && b)) ≡ false
not_left true l b h = refl
not_left false true b h = h
not_left false false b h = refl

below_low : (c l b : Bool) → l ≡ false → (not c && (l && b)) ≡ false
below_low true l b h = refl
below_low false l b h = ap (λ d. d && b) h

step_run : {E V : Type 0} (z : Summary E V) (i f : ℕ) (e : E) (es : List E) → is_past (span_of z.table) f ≡ false → (i < f) ⊎ (f ≤ i)
    → word (step z (Run f (e ∷ es))) (Index i) ≡ option_or (write (Index i) (Run f (e ∷ es))) (word z (Index i))
step_run z i f e es h (inl below) =
    ap₂ (λ b c. if b then None else Some c)
    (run_left z.cleaned z.low i f z.high below)
    (content_run z.table f i (e ∷ es) h ∙ if_false (nat_le f i) _ _ (le_false f i below))
    ∙ sym (ap (λ a. option_or a (word z (Index i))) (run_leaves i f (e ∷ es) below))
step_run z i f e es h (inr above) =
    ap₂ (λ b c. if b then None else Some c)
    (not_left z.cleaned (nat_le z.low i) (is_below i (Some (least f z.high))) (run_takes i f z.high above))
    (content_run z.table f i (e ∷ es) h ∙ if_true (nat_le f i) _ _ (le_true f i above))
    ∙ sym (ap (λ a. option_or a (word z (Index i))) (run_sets i f (e ∷ es) above (omega arith)))

above_low : (low c i : ℕ) → c ≤ i → nat_le (max c low) i ≡ nat_le low i
above_low low c i h = grind (arith, nat_tests)

under_low : (low c i : ℕ) → i < c → nat_le (max c low) i ≡ false
under_low low c i h = grind (arith, nat_tests)

step_compact : {E V : Type 0} (z : Summary E V) (i c : ℕ) → (i < c) ⊎ (c ≤ i)
    → word (step z (Compact c)) (Index i) ≡ option_or (write {V = V} (Index i) (Compact c)) (word z (Index i))
step_compact z i c (inl below) =
    ap₂ (λ b d. if b then None else Some d)
    (below_low z.cleaned (nat_le (max c z.low) i) (is_below i z.high) (under_low z.low c i below))
    (content_compacted z.table c i ∙ if_true (nat_lt i c) _ _ (lt_true i c below))
    ∙ sym (ap (λ a. option_or a (word z (Index i))) (compact_removes i c below))
step_compact z i c (inr above) =
    ap₂ (λ b d. if b then None else Some d)
    (ap (λ l. not z.cleaned && (l && is_below i z.high)) (above_low z.low c i above))
    (content_compacted z.table c i ∙ if_false (nat_lt i c) _ _ (lt_false i c above))
    ∙ sym (ap (λ a. option_or a (word z (Index i))) (compact_leaves i c above))

put_word : {E V : Type 0} (b : Bool) (v : V) (old : Option V) (rest : Option (Option (Content E V)))
    → option_or (option_map (λ w. Some (Value w)) (if b then Some v else old)) rest
    ≡ option_or (if b then Some (Some (Value v)) else None) (option_or (option_map (λ w. Some (Value w)) old) rest)
put_word true v old rest = refl
put_word false v old rest = refl

del_word : {E V : Type 0} (b : Bool) (old : Option V) (c d : Bool)
    → ◌≡◌ {A = Option (Option (Content E V))}
    (option_or (option_map (λ w. Some (Value w)) (if b then None else old)) (if c || (b || d) then Some None else None))
    (option_or (if b then Some None else None) (option_or (option_map (λ w. Some (Value w)) old) (if c || d then Some None else None)))
del_word true old true d = refl
del_word true old false d = refl
del_word false old c d = refl

pub step_word : {E V : Type 0} (z : Summary E V) (x : Item E V) (s : Slot) → FitsOn (span_of z.table) x
    → word (step z x) s ≡ option_or (write s x) (word z s)
step_word z (Run f []) (Index i) h = refl
step_word z (Run f (e ∷ es)) (Index i) h = step_run z i f e es h (cases_lt i f)
step_word z Clean (Index i) h = ap Some (nothing_stands i)
step_word z (Compact c) (Index i) h = step_compact z i c (cases_lt i c)
step_word z (Put k v) (Index i) h = refl
step_word z (Del k) (Index i) h = refl
step_word z (Run f []) (Key q) h = refl
step_word z (Run f (e ∷ es)) (Key q) h = refl
step_word z Clean (Key q) h = refl
step_word z (Compact c) (Key q) h = refl
step_word z (Put k v) (Key q) h = put_word (bytes_eq k q) v (z.table.values q) _
step_word z (Del k) (Key q) h = del_word (bytes_eq k q) (z.table.values q) z.cleaned (z.deleted q)

-- the table's run after an item is the window's, up to empty ones
compact_span : {E V : Type 0} (t : Table E V) (c : ℕ) → (c - t.first < length t.entries) ⊎ (length t.entries ≤ c - t.first)
    → IsTail (span_of (compacted t c)) (record { first = max t.first c; end = t.first + length t.entries })
compact_span t c (inl h) = inr (omega (arith, length-drop (c - t.first) t.entries), omega arith)
compact_span t c (inr h) = inl (omega (arith, length-drop (c - t.first) t.entries))

tail_trans : (a b c : Window) → IsTail a b → IsTail b c → IsTail a c
tail_trans a b c (inl h) k = inl h
tail_trans a b c (inr h) (inl k) = inl (omega (arith, h.0, h.1))
tail_trans a b c (inr h) (inr k) = inr (h.0 ∙ k.0, omega (arith, h.1, k.1))

run_first : (a n f : ℕ) → (nat_lt a (a + n) && nat_lt (a + n) f) ≡ false
    → (if nat_lt a f && nat_le f (a + n) then a else f) ≤ (if nat_lt a f && nat_lt 0 n then a else f)
run_first a n f h = grind (arith, nat_tests)

step_span : {E V : Type 0} (z : Summary E V) (x : Item E V) → FitsOn (span_of z.table) x
    → IsTail (span_of (step z x).table) (next_window (span_of z.table) x)
step_span z (Run f []) h = inr (refl, omega arith)
step_span z (Run f (e ∷ es)) h = inr (run_end z.table f (e ∷ es) h, run_first z.table.first (length z.table.entries) f h)
step_span z Clean h = inl (omega arith)
step_span z (Compact c) h = compact_span z.table c (cases_lt (c - z.table.first) (length z.table.entries))
step_span z (Put k v) h = inr (refl, omega arith)
step_span z (Del k) h = inr (refl, omega arith)

-- the summary's word after more items that leave no hole
pub word_after : {E V : Type 0} (z : Summary E V) (w : Window) (xs : List (Item E V)) (s : Slot) → IsTail (span_of z.table) w → NoHole w xs
    → word (summary_after z xs) s ≡ option_or (says s xs) (word z s)
word_after z w [] s t h = refl
word_after z w (x ∷ xs) s t h =
    let fits : FitsOn (span_of z.table) x × IsTail (next_window (span_of z.table) x) (next_window w x) = tail_step (span_of z.table) w x t h.0 in
    word_after (step z x) (next_window w x) xs s (tail_trans _ _ _ (step_span z x fits.0) fits.1) h.1
    ∙ (ap (λ a. option_or (says s xs) a) (step_word z x s fits.0) ∙ sym (option_or_assoc (says s xs) (write s x) (word z s)))

no_word : {E V : Type 0} (s : Slot) → word (no_summary {E = E} {V = V}) s ≡ None
no_word (Index i) = ap (λ b. if b && true then None else Some (content no_table (Index i))) (le_true 0 i (omega arith))
no_word (Key k) = refl

-- a segment's summary says of each slot what its items say
pub summary_says : {E V : Type 0} (xs : List (Item E V)) (s : Slot) → NoHole nothing xs → word (summary xs) s ≡ says s xs
summary_says xs s h =
    word_after no_summary nothing xs s (inl (omega arith)) h ∙ (ap (option_or (says s xs)) (no_word s) ∙ option_or_none (says s xs))

bound_falls : (a f : ℕ) (high : Option ℕ) → f ≤ a → is_below a (Some (least f high)) ≡ false
bound_falls a f None h = lt_false a f h
bound_falls a f (Some b) h = lt_false a (min f b) (omega arith)

bound_stays : (a f : ℕ) (high : Option ℕ) → is_below a high ≡ false → is_below a (Some (least f high)) ≡ false
bound_stays a f None h = let z : true ≡ false = h in cc
bound_stays a f (Some b) h = lt_false a (min f b) (omega (arith, from_lt_false a b h))

pub bound_rises : (a b : ℕ) (high : Option ℕ) → a ≤ b → is_below a high ≡ false → is_below b high ≡ false
bound_rises a b None h k = k
bound_rises a b (Some c) h k = lt_false b c (omega (arith, from_lt_false a c k))

some_left : (a n f : ℕ) → (nat_lt a f && nat_lt 0 n) ≡ true → 0 < n
some_left a n f h = grind (arith, nat_tests)

both_tests : (b : Bool) → b ≡ true → b ≡ false → ⊥
both_tests b h k = cc

sound_run : (a n f : ℕ) (high : Option ℕ) → (0 < n → is_below a high ≡ false)
    → is_below (if nat_lt a f && nat_lt 0 n then a else f) (Some (least f high)) ≡ false
sound_run a n f high h =
    at_bool (nat_lt a f && nat_lt 0 n) (λ b. is_below (if b then a else f) (Some (least f high)) ≡ false)
    (λ k. bound_stays a f high (h (some_left a n f k))) (λ _. bound_falls f f high (omega arith))

pub step_sound : {E V : Type 0} (z : Summary E V) (x : Item E V) → IsSummarySound z → IsSummarySound (step z x)
step_sound z (Run f []) h n = h n
step_sound z (Run f (e ∷ es)) h n = sound_run z.table.first (length z.table.entries) f z.high h
step_sound z Clean h n = absurd (omega arith)
step_sound z (Compact c) h n =
    bound_rises z.table.first (compacted z.table c).first z.high (omega arith) (h (omega (arith, length-drop (c - z.table.first) z.table.entries)))
step_sound z (Put k v) h n = h n
step_sound z (Del k) h n = h n

pub sound_after : {E V : Type 0} (z : Summary E V) (xs : List (Item E V)) → IsSummarySound z → IsSummarySound (summary_after z xs)
sound_after z [] h = h
sound_after z (x ∷ xs) h = sound_after (step z x) xs (step_sound z x h)

-- what stands in the table of a sound summary is what its word says
pub third_test : (c l b : Bool) → (not c && (l && b)) ≡ true → b ≡ true
third_test true l b h = cc
third_test false true b h = h
third_test false false b h = cc

pub cases_end : (i n : ℕ) → (n ≤ i) ⊎ (i < n)
cases_end i n = grind arith

key_content : {E V : Type 0} (v : Option V) (b : Bool)
    → ◌≡◌ {A = Option (Content E V)} (option_map Value v) (unwrap_or (option_or (option_map (λ w. Some (Value w)) v) (if b then Some None else None)) None)
key_content None true = refl
key_content None false = refl
key_content (Some v) b = refl

min_tells : (i b d : ℕ) → nat_lt i (min b d) ≡ (nat_lt i b && nat_lt i d)
min_tells i b d = grind (arith, nat_tests)

above_both : (b a i : ℕ) → nat_le (max b a) i ≡ (nat_le b i && nat_le a i)
above_both b a i = grind (arith, nat_tests)

opposite : (i low : ℕ) → nat_lt i low ≡ not (nat_le low i)
opposite i low = grind (arith, nat_tests)

kept_if : {A : Type 0} (below under above : Bool) (x : Option A) → under ≡ not above
    → (if below then (if under then None else x) else None) ≡ (if above && below then x else None)
kept_if true under true x h = ap (λ b. if b then None else x) h
kept_if true under false x h = ap (λ b. if b then None else x) h
kept_if false under true x h = refl
kept_if false under false x h = refl

no_second_test : (l b : Bool) → b ≡ false → (l && b) ≡ false
no_second_test true b h = h
no_second_test false b h = refl

pub no_content : {E V : Type 0} (z : Summary E V) (i : ℕ) → IsSummarySound z → is_below i z.high ≡ true
    → (i < z.table.first) ⊎ (z.table.first ≤ i) → (z.table.first + length z.table.entries ≤ i) ⊎ (i < z.table.first + length z.table.entries)
    → content z.table (Index i) ≡ None
no_content z i h k (inl below) m = content_below z.table i below
no_content z i h k (inr above) (inl past) = content_above z.table i past
no_content z i h k (inr above) (inr within) =
    let no : is_below i z.high ≡ false = bound_rises z.table.first i z.high above (h (omega arith)) in
    absurd (both_tests (is_below i z.high) k no)

pub content_word : {E V : Type 0} (z : Summary E V) (s : Slot) → IsSummarySound z → content z.table s ≡ unwrap_or (word z s) None
content_word z (Index i) h =
    at_bool (is_left z i) (λ b. is_left z i ≡ b → content z.table (Index i) ≡ unwrap_or (if b then None else Some (content z.table (Index i))) None)
    (λ _ k. no_content z i h (third_test z.cleaned (nat_le z.low i) (is_below i z.high) k) (cases_lt i z.table.first) (cases_end i (z.table.first + length z.table.entries)))
    (λ _ _. refl) refl
content_word z (Key k) h = key_content (z.table.values k) (z.cleaned || z.deleted k)

-- the bounds of two summaries
lesser_tells : (i : ℕ) (p q : Option ℕ) → is_below i (lesser p q) ≡ (is_below i p && is_below i q)
lesser_tells i None q = refl
lesser_tells i (Some b) None = and_true (nat_lt i b)
lesser_tells i (Some b) (Some d) = min_tells i b d

left_of_two : (ac zc al bl ab zb : Bool) → (not (ac || zc) && ((bl && al) && (zb && ab))) ≡ ((not zc && (bl && zb)) && (not ac && (al && ab)))
left_of_two true true al bl ab zb = refl
left_of_two true false al true ab true = refl
left_of_two true false al true ab false = refl
left_of_two true false al false ab zb = refl
left_of_two false true al bl ab zb = refl
left_of_two false false true true ab true = refl
left_of_two false false true true ab false = refl
left_of_two false false false true ab true = refl
left_of_two false false false true ab false = refl
left_of_two false false al false ab zb = refl

is_left_of_two : {E V : Type 0} (a z : Summary E V) (i : ℕ) → is_left (join a z) i ≡ (is_left z i && is_left a i)
is_left_of_two a z i =
    ap₂ (λ l b. not (a.cleaned || z.cleaned) && (l && b)) (above_both z.low a.low i) (lesser_tells i z.high a.high)
    ∙ left_of_two a.cleaned z.cleaned (nat_le a.low i) (nat_le z.low i) (is_below i a.high) (is_below i z.high)

-- the later summary leaves no hole behind what it leaves of the earlier table
abbrev pub JoinFits : {E V : Type 0} → Table E V → Summary E V → Type 0
JoinFits t z = z.cleaned ≡ false → 0 < length z.table.entries → is_past (span_of (cut_from (compacted t z.low) z.high)) z.table.first ≡ false

-- what the later summary leaves of the earlier table
pub content_kept : {E V : Type 0} (t : Table E V) (z : Summary E V) (i : ℕ)
    → content (cut_from (compacted t z.low) z.high) (Index i) ≡ (if nat_le z.low i && is_below i z.high then content t (Index i) else None)
content_kept t z i =
    content_cut (compacted t z.low) z.high i
    ∙ (ap (λ a. if is_below i z.high then a else None) (content_compacted t z.low i)
    ∙ kept_if (is_below i z.high) (nat_lt i z.low) (nat_le z.low i) (content t (Index i)) (opposite i z.low))

pub run_content : {E V : Type 0} (t : Table E V) (z : Summary E V) (i : ℕ) → IsSummarySound z → JoinFits t z → z.cleaned ≡ false → 0 < length z.table.entries
    → (i < z.table.first) ⊎ (z.table.first ≤ i)
    → content (run_onto (cut_from (compacted t z.low) z.high) z.table.first z.table.entries) (Index i)
    ≡ (if nat_le z.low i && is_below i z.high then content t (Index i) else content z.table (Index i))
run_content t z i sound fits clean some (inl below) =
    content_run (cut_from (compacted t z.low) z.high) z.table.first i z.table.entries (fits clean some)
    ∙ (if_false (nat_le z.table.first i) _ _ (le_false z.table.first i below)
    ∙ (content_kept t z i
    ∙ ap (λ a. if nat_le z.low i && is_below i z.high then content t (Index i) else a) (sym (content_below z.table i below))))
run_content t z i sound fits clean some (inr above) =
    content_run (cut_from (compacted t z.low) z.high) z.table.first i z.table.entries (fits clean some)
    ∙ (if_true (nat_le z.table.first i) _ _ (le_true z.table.first i above)
    ∙ (sym (content_within z.table i above)
    ∙ sym (if_false (nat_le z.low i && is_below i z.high) _ _ (no_second_test (nat_le z.low i) _ (bound_rises z.table.first i z.high above (sound some))))))

pub empty_content : {E V : Type 0} (t : Table E V) (i : ℕ) → length t.entries ≤ 0 → (i < t.first) ⊎ (t.first ≤ i) → content t (Index i) ≡ None
empty_content t i h (inl below) = content_below t i below
empty_content t i h (inr above) = content_above t i (omega arith)

pub entries_content : {E V : Type 0} (t : Table E V) (z : Summary E V) (i : ℕ) → IsSummarySound z → JoinFits t z
    → content (entries_over t z) (Index i) ≡ (if is_left z i then content t (Index i) else content z.table (Index i))
entries_content t z i sound fits =
    at_bool z.cleaned
    (λ b. z.cleaned ≡ b
    → content (if b then z.table
    else (if nat_lt 0 (length z.table.entries)
    then run_onto (cut_from (compacted t z.low) z.high) z.table.first z.table.entries
    else cut_from (compacted t z.low) z.high)) (Index i)
    ≡ (if not b && (nat_le z.low i && is_below i z.high) then content t (Index i) else content z.table (Index i)))
    (λ _ _. refl)
    (λ _ clean. at_bool (nat_lt 0 (length z.table.entries))
    (λ d. content (if d then run_onto (cut_from (compacted t z.low) z.high) z.table.first z.table.entries else cut_from (compacted t z.low) z.high) (Index i)
    ≡ (if nat_le z.low i && is_below i z.high then content t (Index i) else content z.table (Index i)))
    (λ some. run_content t z i sound fits clean (from_lt_true 0 (length z.table.entries) some) (cases_lt i z.table.first))
    (λ none. content_kept t z i
    ∙ ap (λ a. if nat_le z.low i && is_below i z.high then content t (Index i) else a)
    (sym (empty_content z.table i (from_lt_false 0 (length z.table.entries) none) (cases_lt i z.table.first)))))
    refl

word_of_two : {A : Type 0} (lz la : Bool) (cz ca : A)
    → (if lz && la then None else Some (if lz then ca else cz)) ≡ option_or (if lz then None else Some cz) (if la then None else Some ca)
word_of_two true true cz ca = refl
word_of_two true false cz ca = refl
word_of_two false la cz ca = refl

key_of_two : {E V : Type 0} (zv av : Option V) (zc zd ac ad : Bool)
    → ◌≡◌ {A = Option (Option (Content E V))}
    (option_or (option_map (λ w. Some (Value w)) (option_or zv (if zc || zd then None else av))) (if (ac || zc) || (zd || ad) then Some None else None))
    (option_or (option_or (option_map (λ w. Some (Value w)) zv) (if zc || zd then Some None else None))
    (option_or (option_map (λ w. Some (Value w)) av) (if ac || ad then Some None else None)))
key_of_two (Some v) av zc zd ac ad = refl
key_of_two None av true zd true ad = refl
key_of_two None av true zd false ad = refl
key_of_two None av false true true ad = refl
key_of_two None av false true false ad = refl
key_of_two None av false false true ad = refl
key_of_two None av false false false ad = refl

-- the word of two summaries joined: the later one's, else the earlier one's
pub join_word : {E V : Type 0} (a z : Summary E V) (s : Slot) → IsSummarySound z → JoinFits a.table z
    → word (join a z) s ≡ option_or (word z s) (word a s)
join_word a z (Index i) sound fits =
    ap₂ (λ b c. if b then None else Some c) (is_left_of_two a z i) (entries_content a.table z i sound fits)
    ∙ word_of_two (is_left z i) (is_left a i) (content z.table (Index i)) (content a.table (Index i))
join_word a z (Key k) sound fits = key_of_two (z.table.values k) (a.table.values k) z.cleaned (z.deleted k) a.cleaned (a.deleted k)

cut_first : {E V : Type 0} (t : Table E V) (h : Option ℕ) → (cut_from t h).first ≡ t.first
cut_first t None = refl
cut_first t (Some h) = refl

cut_length : {E V : Type 0} (t : Table E V) (h : Option ℕ) → length (cut_from t h).entries ≤ length t.entries
cut_length t None = omega arith
cut_length t (Some h) = omega (arith, length-take (h - t.first) t.entries)

-- what the later summary leaves of a sound summary's table begins no lower
kept_sound : {E V : Type 0} (a : Summary E V) (low : ℕ) (h : Option ℕ) → IsSummarySound a
    → 0 < length (cut_from (compacted a.table low) h).entries → is_below (cut_from (compacted a.table low) h).first a.high ≡ false
kept_sound a low h sound some =
    bound_rises a.table.first (cut_from (compacted a.table low) h).first a.high
    (omega (arith, cut_first (compacted a.table low) h))
    (sound (omega (arith, cut_length (compacted a.table low) h, length-drop (low - a.table.first) a.table.entries)))

first_false : (x y : Bool) → x ≡ false → (x && y) ≡ false
first_false x y h = ap (λ b. b && y) h

run_sound : {E V : Type 0} (a z : Summary E V) → IsSummarySound a → IsSummarySound z → 0 < length z.table.entries
    → is_below (run_onto (cut_from (compacted a.table z.low) z.high) z.table.first z.table.entries).first (lesser z.high a.high) ≡ false
run_sound a z sa sz some =
    let t : Table _ _ = cut_from (compacted a.table z.low) z.high in
    at_bool (nat_lt t.first z.table.first && nat_lt 0 (length t.entries))
    (λ b. is_below (if b then t.first else z.table.first) (lesser z.high a.high) ≡ false)
    (λ k. lesser_tells t.first z.high a.high ∙ no_second_test (is_below t.first z.high) _ (kept_sound a z.low z.high sa (some_left t.first (length t.entries) z.table.first k)))
    (λ _. lesser_tells z.table.first z.high a.high ∙ first_false _ (is_below z.table.first a.high) (sz some))

pub join_sound : {E V : Type 0} (a z : Summary E V) → IsSummarySound a → IsSummarySound z → IsSummarySound (join a z)
join_sound a z sa sz =
    at_bool z.cleaned
    (λ b. 0 < length (if b then z.table
    else (if nat_lt 0 (length z.table.entries)
    then run_onto (cut_from (compacted a.table z.low) z.high) z.table.first z.table.entries
    else cut_from (compacted a.table z.low) z.high)).entries
    → is_below (if b then z.table
    else (if nat_lt 0 (length z.table.entries)
    then run_onto (cut_from (compacted a.table z.low) z.high) z.table.first z.table.entries
    else cut_from (compacted a.table z.low) z.high)).first (lesser z.high a.high) ≡ false)
    (λ _ some. lesser_tells z.table.first z.high a.high ∙ first_false _ (is_below z.table.first a.high) (sz some))
    (λ _. at_bool (nat_lt 0 (length z.table.entries))
    (λ d. 0 < length (if d then run_onto (cut_from (compacted a.table z.low) z.high) z.table.first z.table.entries else cut_from (compacted a.table z.low) z.high).entries
    → is_below (if d then run_onto (cut_from (compacted a.table z.low) z.high) z.table.first z.table.entries else cut_from (compacted a.table z.low) z.high).first
    (lesser z.high a.high) ≡ false)
    (λ some _. run_sound a z sa sz (from_lt_true 0 (length z.table.entries) some))
    (λ _ some. lesser_tells (cut_from (compacted a.table z.low) z.high).first z.high a.high
    ∙ no_second_test (is_below (cut_from (compacted a.table z.low) z.high).first z.high) _ (kept_sound a z.low z.high sa some)))
