-- What is kept of a group while a segment is read is a summary of the items that were read.
use Rattle.std.proofs.Common.{◌≡◌, ℕ, zero, suc, ◌+◌, ◌-◌, ◌≤◌, min, Bool, true, false, ◌&&◌, ◌||◌, List, [], ◌∷◌, ◌++◌, map, length, take, Option, Some, None, if◌then◌else◌, nat_lt, bytes_eq, refl, sym, ap, ap₂, subst, ◌∙◌, arith, length-drop}
use Rattle.std.specs.Option.{option_or}
use Rattle.std.proofs.lemmas.List.{drop-map, map-append, length-map, take-map}
use Rattle.std.proofs.Math.Path.{fun_ext}
use Rattle.raft_log_model_laws.specs.Item.{Item}
use Rattle.raft_log_model_laws.specs.Item.Item.{Run, Clean, Compact, Put, Del}
use Rattle.raft_log_model_laws.specs.Meaning.{write}
use Rattle.raft_log_model_laws.specs.Holes.{Window, is_past, FitsOn, has_clean}
use Rattle.raft_log_model_laws.specs.Table.{Table, run_onto, span_of, table_step}
use Rattle.raft_log_model_laws.specs.Summary.{Summary, step, IsSummary}
use Rattle.raft_log_model_laws.proofs.Public.{at_bool, if_false, is_summary, says_append, step_sound, step_word}
use Rattle.raft_log_machine_laws.proofs.Public.{no_word}
use Rattle.raft_log_machine_laws.specs.Recovery.{has_compact, has_del, HasMarks}
use Rattle.raft_log_machine_laws.specs.Whereabouts.{top, Whereabouts}
use Rattle.raft_log_extents.specs.declared.place.Place.{Place}
use Rattle.raft_log_memtable_index.specs.declared.group_files.GroupFiles.{GroupFiles}
use Rattle.raft_log_memtable_index.specs.Shown.{IsOrderly, KeyValue, MayFollow, Shown, span, whereabouts, with_clean, with_compact, with_del, with_run}
use Rattle.raft_log_memtable_index.specs.Bridge.{Located, in_queue, located}
use Rattle.raft_log_memtable_index.specs.Replayed.{IsReplayed, Replayed, AllStandsIn, nothing_replayed, placed, replay_step, replayed, run_over, standing, summary_of}
use Rattle.raft_log_memtable_index.proofs.Spans.{orderly_stepped, run_length}

-- places of one queue
located_rewritten : (n : ℕ) (ps : List Place) → n ≡ length ps → located n ps ≡ map (in_queue false) ps
located_rewritten zero [] e = refl
located_rewritten (suc n) [] e = refl
located_rewritten zero (p ∷ ps) e = absurd (omega arith)
located_rewritten (suc n) (p ∷ ps) e = ap (λ l. in_queue false p ∷ l) (located_rewritten n ps (omega arith))

pub located_one : (q : Bool) (n : ℕ) (ps : List Place) → n ≡ (if q then 0 else length ps) → located n ps ≡ map (in_queue q) ps
located_one true n ps e = ap (λ k. located k ps) e
located_one false n ps e = located_rewritten n ps e

-- the table of places of one queue
abbrev pub of_one : Bool → Shown → Table Located KeyValue
of_one q v = record { first = v.first; entries = map (in_queue q) v.places; values = v.held }

pub standing_one : (q : Bool) (v : Shown) → AllStandsIn q v → standing v ≡ of_one q v
standing_one q v h = ap (λ es. record { first = v.first; entries = es; values = v.held }) (located_one q v.rewritten v.places h.entries)

pub span_one : (q : Bool) (v : Shown) → AllStandsIn q v → ◌≡◌ {A = Window} (span_of (standing v)) (span v)
span_one q v h = ap span_of (standing_one q v h) ∙ ap (λ n. record { first = v.first; end = v.first + n }) (length-map v.places (in_queue q))

-- a run of Rewrite that leaves no hole
pub run_kept : (v : Shown) (f : ℕ) (ps : List Place) (count : ℕ) → is_past (span v) f ≡ false
    → run_over v f ps count ≡ record (with_run v f ps) { rewritten = min v.rewritten (f - v.first) + count }
run_kept v f ps count h = if_false (is_past (span v) f) _ _ h

-- each item leaves all in one queue
pub one_queue : (q : Bool) (n : ℕ) (v : Shown) (x : Item Place (List ℕ)) → AllStandsIn q v → AllStandsIn q (replay_step q n v x)
one_queue q n v (Run f []) h = h
one_queue true n v (Run f (p ∷ ps)) h = record { entries = (let none = h.entries in omega arith); values = h.values }
one_queue false n v (Run f (p ∷ ps)) h =
    at_bool (is_past (span v) f)
    (λ b. AllStandsIn false (if b then record v { first = f; places = p ∷ ps; rewritten = length (p ∷ ps) }
    else record (with_run v f (p ∷ ps)) { rewritten = min v.rewritten (f - v.first) + length (p ∷ ps) }))
    (λ _. record { entries = refl; values = h.values })
    (λ _. record { entries = (let all = h.entries in omega (arith, run_length v f (p ∷ ps))); values = h.values })
one_queue true n v Clean h = record { entries = refl; values = λ k g e. no_word g e }
one_queue false n v Clean h = record { entries = refl; values = λ k g e. no_word g e }
one_queue true n v (Compact c) h = record { entries = (let none = h.entries in omega arith); values = h.values }
one_queue false n v (Compact c) h = record { entries = (let all = h.entries in omega (arith, length-drop (c - v.first) v.places)); values = h.values }
one_queue q n v (Put k w) h = record {
  entries = h.entries;
  values = λ j g e. at_bool (bytes_eq k j)
      (λ b. (if b then Some (record { bytes = w; appended = q; file = n }) else v.held j) ≡ Some g → g.appended ≡ q)
      (λ _ new. sym (same_queue g new)) (λ _ old. h.values j g old) e;
}
  where
    same_queue : (g : KeyValue) → ◌≡◌ {A = Option KeyValue} (Some (record { bytes = w; appended = q; file = n })) (Some g) → q ≡ g.appended
    same_queue g e = ap (λ o. queue_or q o) e
      where
        queue_or : Bool → Option KeyValue → Bool
        queue_or d None = d
        queue_or d (Some h) = h.appended
one_queue q n v (Del k) h = record {
  entries = h.entries;
  values = λ j g e. at_bool (bytes_eq k j) (λ b. (if b then None else v.held j) ≡ Some g → g.appended ≡ q)
      (λ _ new. no_word g new) (λ _ old. h.values j g old) e;
}

pub tables : (t u : Table Located KeyValue) → t.first ≡ u.first → t.entries ≡ u.entries → t.values ≡ u.values → t ≡ u
tables t u e h k = ap₂ (λ f es. record { first = f; entries = es; values = t.values }) e h ∙ ap (λ w. record { first = u.first; entries = u.entries; values = w }) k

pub summaries : (a b : Summary Located KeyValue) → a.table ≡ b.table → a.cleaned ≡ b.cleaned → a.low ≡ b.low → a.high ≡ b.high
    → a.deleted ≡ b.deleted → a ≡ b
summaries a b t c l h d =
    ap₂ (λ x y. record { table = x; cleaned = y; low = a.low; high = a.high; deleted = a.deleted }) t c
    ∙ ap₂ (λ x y. record { table = b.table; cleaned = b.cleaned; low = x; high = y; deleted = a.deleted }) l h
    ∙ ap (λ x. record { table = b.table; cleaned = b.cleaned; low = b.low; high = b.high; deleted = x }) d

-- a run of one queue is a run of the model's table
pub run_table : (q : Bool) (v : Shown) (f : ℕ) (ps : List Place) → of_one q (with_run v f ps) ≡ run_onto (of_one q v) f (map (in_queue q) ps)
run_table q v f ps =
    tables (of_one q (with_run v f ps)) (run_onto (of_one q v) f (map (in_queue q) ps))
    (ap (λ l. if nat_lt v.first f && nat_lt 0 l then v.first else f) (sym (length-map v.places (in_queue q))))
    (map-append (in_queue q) (take (f - v.first) v.places) ps ∙ ap (λ l. l ++ map (in_queue q) ps) (sym (take-map (in_queue q) (f - v.first) v.places)))
    refl

table_read : (q : Bool) (n : ℕ) (v : Shown) (x : Item Place (List ℕ)) → FitsOn (span v) x → of_one q (replay_step q n v x) ≡ table_step (of_one q v) (placed q n x)
table_read q n v (Run f []) h = refl
table_read true n v (Run f (p ∷ ps)) h = run_table true v f (p ∷ ps)
table_read false n v (Run f (p ∷ ps)) h = ap (of_one false) (run_kept v f (p ∷ ps) (length (p ∷ ps)) h) ∙ run_table false v f (p ∷ ps)
table_read q n v Clean h = refl
table_read q n v (Compact c) h =
    tables (of_one q (with_compact v c)) (table_step (of_one q v) (Compact c))
    (ap (λ l. v.first + min (c - v.first) l) (sym (length-map v.places (in_queue q))))
    (sym (drop-map (in_queue q) (c - v.first) v.places)) refl
table_read q n v (Put k w) h = refl
table_read q n v (Del k) h = refl

table_follows : (q : Bool) (n : ℕ) (v : Shown) (x : Item Place (List ℕ)) → AllStandsIn q v → FitsOn (span v) x
    → standing (replay_step q n v x) ≡ table_step (standing v) (placed q n x)
table_follows q n v x s h =
    standing_one q (replay_step q n v x) (one_queue q n v x s) ∙ table_read q n v x h ∙ ap (λ t. table_step t (placed q n x)) (sym (standing_one q v s))

also_deleted : (b c : Bool) → (if b then true else c) ≡ (b || c)
also_deleted true c = refl
also_deleted false c = refl

summary_read : (q : Bool) (n : ℕ) (z : Replayed) (x : Item Place (List ℕ)) → AllStandsIn q z.table → FitsOn (span z.table) x
    → summary_of (replayed q n z x) ≡ step (summary_of z) (placed q n x)
summary_read q n z (Run f []) s h = refl
summary_read true n z (Run f (p ∷ ps)) s h =
    summaries (summary_of (replayed true n z (Run f (p ∷ ps)))) (step (summary_of z) (placed true n (Run f (p ∷ ps))))
    (table_follows true n z.table (Run f (p ∷ ps)) s h) refl refl refl refl
summary_read false n z (Run f (p ∷ ps)) s h =
    let kept = run_kept z.table f (p ∷ ps) (length (p ∷ ps)) h in
    summaries (summary_of (replayed false n z (Run f (p ∷ ps)))) (step (summary_of z) (placed false n (Run f (p ∷ ps))))
    (table_follows false n z.table (Run f (p ∷ ps)) s h) (ap (λ t. t.cleaned) kept) refl refl (ap (λ t. t.deleted) kept)
summary_read q n z Clean s h =
    summaries (summary_of (replayed q n z Clean)) (step (summary_of z) Clean) (table_follows q n z.table Clean s h) refl refl refl refl
summary_read q n z (Compact c) s h =
    summaries (summary_of (replayed q n z (Compact c))) (step (summary_of z) (Compact c)) (table_follows q n z.table (Compact c) s h) refl refl refl refl
summary_read q n z (Put k w) s h =
    summaries (summary_of (replayed q n z (Put k w))) (step (summary_of z) (placed q n (Put k w))) (table_follows q n z.table (Put k w) s h) refl refl refl refl
summary_read q n z (Del k) s h =
    summaries (summary_of (replayed q n z (Del k))) (step (summary_of z) (Del k)) (table_follows q n z.table (Del k) s h) refl refl refl
    (fun_ext (λ j. also_deleted (bytes_eq k j) (z.table.deleted j)))

pub fits_placed : (q : Bool) (n : ℕ) (w : Window) (x : Item Place (List ℕ)) → FitsOn w x → FitsOn w (placed q n x)
fits_placed q n w (Run f []) h = h
fits_placed q n w (Run f (p ∷ ps)) h = h
fits_placed q n w Clean h = h
fits_placed q n w (Compact c) h = h
fits_placed q n w (Put k v) h = h
fits_placed q n w (Del k) h = h

pub placed_fits : (q : Bool) (n : ℕ) (w : Window) (x : Item Place (List ℕ)) → FitsOn w (placed q n x) → FitsOn w x
placed_fits q n w (Run f []) h = h
placed_fits q n w (Run f (p ∷ ps)) h = h
placed_fits q n w Clean h = h
placed_fits q n w (Compact c) h = h
placed_fits q n w (Put k v) h = h
placed_fits q n w (Del k) h = h

one_more : (q : Bool) (n : ℕ) (xs : List (Item Located KeyValue)) (z : Replayed) (x : Item Place (List ℕ)) → AllStandsIn q z.table → FitsOn (span z.table) x
    → IsSummary (summary_of z) xs → IsSummary (summary_of (replayed q n z x)) (xs ++ (placed q n x ∷ []))
one_more q n xs z x s h is =
    let fits : FitsOn (span_of (standing z.table)) (placed q n x) = subst (λ w. FitsOn w (placed q n x)) (sym (span_one q z.table s)) (fits_placed q n (span z.table) x h) in
    subst (λ y. IsSummary y (xs ++ (placed q n x ∷ []))) (sym (summary_read q n z x s h)) (record {
      sound = step_sound (summary_of z) (placed q n x) is.sound;
      says = λ t. step_word (summary_of z) (placed q n x) t fits ∙ ap (option_or (write t (placed q n x))) (is.says t) ∙ sym (says_append t xs (placed q n x ∷ []));
    })

or_assoc : (a b c : Bool) → (a || (b || c)) ≡ ((a || b) || c)
or_assoc true b c = refl
or_assoc false b c = refl

pub neither_of : (a b : Bool) → (a || b) ≡ false → (a ≡ false) × (b ≡ false)
neither_of true b h = cc
neither_of false b h = (refl, h)

-- marks of two lists, one after the other
module _ {E V : Type 0} where
  clean_of_two : (xs ys : List (Item E V)) → has_clean (xs ++ ys) ≡ (has_clean xs || has_clean ys)
  clean_of_two [] ys = refl
  clean_of_two (Run f es ∷ xs) ys = clean_of_two xs ys
  clean_of_two (Clean ∷ xs) ys = refl
  clean_of_two (Compact c ∷ xs) ys = clean_of_two xs ys
  clean_of_two (Put k v ∷ xs) ys = clean_of_two xs ys
  clean_of_two (Del k ∷ xs) ys = clean_of_two xs ys

  compact_of_two : (xs ys : List (Item E V)) → has_compact (xs ++ ys) ≡ (has_compact xs || has_compact ys)
  compact_of_two [] ys = refl
  compact_of_two (Run f es ∷ xs) ys = compact_of_two xs ys
  compact_of_two (Clean ∷ xs) ys = compact_of_two xs ys
  compact_of_two (Compact c ∷ xs) ys = refl
  compact_of_two (Put k v ∷ xs) ys = compact_of_two xs ys
  compact_of_two (Del k ∷ xs) ys = compact_of_two xs ys

  del_of_two : (k : List ℕ) (xs ys : List (Item E V)) → has_del k (xs ++ ys) ≡ (has_del k xs || has_del k ys)
  del_of_two k [] ys = refl
  del_of_two k (Run f es ∷ xs) ys = del_of_two k xs ys
  del_of_two k (Clean ∷ xs) ys = del_of_two k xs ys
  del_of_two k (Compact c ∷ xs) ys = del_of_two k xs ys
  del_of_two k (Put j v ∷ xs) ys = del_of_two k xs ys
  del_of_two k (Del l ∷ xs) ys = ap (λ b. bytes_eq l k || b) (del_of_two k xs ys) ∙ or_assoc (bytes_eq l k) (has_del k xs) (has_del k ys)

  -- the marks that two lists leave, told by those of each
  pub two_marks : (xs ys : List (Item E V)) (w : Whereabouts) → w.cleaned ≡ (has_clean xs || has_clean ys)
      → (has_clean xs ≡ false → has_clean ys ≡ false → (has_compact xs || has_compact ys) ≡ true → w.compacted ≡ true)
      → ((k : List ℕ) → has_clean xs ≡ false → has_clean ys ≡ false → (has_del k xs || has_del k ys) ≡ true → w.deleted k ≡ true)
      → ((k : List ℕ) → w.deleted k ≡ true → (has_del k xs || has_del k ys) ≡ true) → HasMarks (xs ++ ys) w
  two_marks xs ys w c p d was = record {
    cleaned = c ∙ sym (clean_of_two xs ys);
    compacted = λ no h. let two = neither_of (has_clean xs) (has_clean ys) (sym (clean_of_two xs ys) ∙ no) in
        p two.0 two.1 (sym (compact_of_two xs ys) ∙ h);
    deleted = λ k no h. let two = neither_of (has_clean xs) (has_clean ys) (sym (clean_of_two xs ys) ∙ no) in
        d k two.0 two.1 (sym (del_of_two k xs ys) ∙ h);
    was_deleted = λ k h. del_of_two k xs ys ∙ was k h;
  }

pub or_false : (b : Bool) → b ≡ (b || false)
or_false true = refl
or_false false = refl

pub or_true : (b : Bool) → true ≡ (b || true)
or_true true = refl
or_true false = refl

pub left_true : (b c : Bool) → b ≡ true → (b || c) ≡ true
left_true true c h = refl
left_true false c h = cc

-- an item without a mark
unmarked_step : (xs : List (Item Located KeyValue)) (y : Item Located KeyValue) (t u : Whereabouts) → has_clean (y ∷ []) ≡ false → has_compact (y ∷ []) ≡ false
    → ((k : List ℕ) → has_del k (y ∷ []) ≡ false) → u.cleaned ≡ t.cleaned → u.compacted ≡ t.compacted → u.deleted ≡ t.deleted
    → HasMarks xs t → HasMarks (xs ++ (y ∷ [])) u
unmarked_step xs y t u nc np nd c p d h =
    two_marks xs (y ∷ []) u (c ∙ h.cleaned ∙ or_false (has_clean xs) ∙ ap (λ b. has_clean xs || b) (sym nc))
    (λ no _ some. p ∙ h.compacted no (or_false (has_compact xs) ∙ ap (λ b. has_compact xs || b) (sym np) ∙ some))
    (λ k no _ some. ap (λ f. f k) d ∙ h.deleted k no (or_false (has_del k xs) ∙ ap (λ b. has_del k xs || b) (sym (nd k)) ∙ some))
    (λ k is. left_true (has_del k xs) (has_del k (y ∷ [])) (h.was_deleted k (sym (ap (λ f. f k) d) ∙ is)))

pub no_more : {P : Type 0} → true ≡ false → P
no_more e = absurd (let clash : true ≡ false = e in let never : ⊥ = cc in never)

pub marks_read : (q : Bool) (n : ℕ) (xs : List (Item Located KeyValue)) (v : Shown) (x : Item Place (List ℕ)) → HasMarks xs (whereabouts v)
    → FitsOn (span v) x → HasMarks (xs ++ (placed q n x ∷ [])) (whereabouts (replay_step q n v x))
marks_read q n xs v (Run f []) h fits =
    unmarked_step xs (placed q n (Run f [])) (whereabouts v) (whereabouts v) refl refl (λ k. refl) refl refl refl h
marks_read true n xs v (Run f (p ∷ ps)) h fits =
    unmarked_step xs (placed true n (Run f (p ∷ ps))) (whereabouts v) (whereabouts (with_run v f (p ∷ ps))) refl refl (λ k. refl) refl refl refl h
marks_read false n xs v (Run f (p ∷ ps)) h fits =
    let kept = run_kept v f (p ∷ ps) (length (p ∷ ps)) fits in
    unmarked_step xs (placed false n (Run f (p ∷ ps))) (whereabouts v) (whereabouts (replay_step false n v (Run f (p ∷ ps)))) refl refl (λ k. refl)
    (ap (λ t. t.cleaned) kept) (ap (λ t. t.compacted) kept) (ap (λ t. t.deleted) kept) h
marks_read q n xs v Clean h fits =
    two_marks xs (Clean ∷ []) (whereabouts (with_clean v)) (or_true (has_clean xs)) (λ _ no. no_more no) (λ k _ no. no_more no)
    (λ k is. left_true (has_del k xs) false (h.was_deleted k is))
marks_read q n xs v (Compact c) h fits =
    two_marks xs (Compact c ∷ []) (whereabouts (with_compact v c)) (h.cleaned ∙ or_false (has_clean xs)) (λ _ _ _. refl)
    (λ k no _ some. h.deleted k no (or_false (has_del k xs) ∙ some)) (λ k is. left_true (has_del k xs) false (h.was_deleted k is))
marks_read q n xs v (Put k w) h fits =
    unmarked_step xs (placed q n (Put k w)) (whereabouts v) (whereabouts (replay_step q n v (Put k w))) refl refl (λ k. refl) refl refl refl h
marks_read q n xs v (Del k) h fits =
    two_marks xs (Del k ∷ []) (whereabouts (with_del v k)) (h.cleaned ∙ or_false (has_clean xs))
    (λ no _ some. h.compacted no (or_false (has_compact xs) ∙ some))
    (λ j no _ some. now j (bytes_eq k j) (has_del j xs) (h.deleted j no) some)
    (λ j is. before j (bytes_eq k j) (has_del j xs) (h.was_deleted j) is)
  where
    now : (j : List ℕ) (b c : Bool) → (c ≡ true → v.deleted j ≡ true) → (c || (b || false)) ≡ true → (if b then true else v.deleted j) ≡ true
    now j true c keeps some = refl
    now j false true keeps some = keeps refl
    now j false false keeps some = cc

    before : (j : List ℕ) (b c : Bool) → (v.deleted j ≡ true → c ≡ true) → (if b then true else v.deleted j) ≡ true → (c || (b || false)) ≡ true
    before j true c was is = sym (or_true c)
    before j false c was is = left_true c false (was is)

-- the table stays orderly
pub rewritten_within : (q : Bool) (v : Shown) → AllStandsIn q v → v.rewritten ≤ length v.places
rewritten_within true v h = let none = h.entries in omega arith
rewritten_within false v h = let all = h.entries in omega arith

ends_low : (q : Bool) (n : ℕ) (v : Shown) (x : Item Place (List ℕ)) → IsOrderly v → MayFollow (span v) x
    → (replay_step q n v x).first + length (replay_step q n v x).places ≤ top
ends_low q n v (Run f []) o h = o.end
ends_low true n v (Run f (p ∷ ps)) o h = (orderly_stepped n v (Run f (p ∷ ps)) o h).end
ends_low false n v (Run f (p ∷ ps)) o h =
    subst (λ (t : Shown). t.first + length t.places ≤ top) (sym (run_kept v f (p ∷ ps) (length (p ∷ ps)) h.0)) (orderly_stepped n v (Run f (p ∷ ps)) o h).end
ends_low q n v Clean o h = (orderly_stepped n v Clean o h).end
ends_low q n v (Compact c) o h = (orderly_stepped n v (Compact c) o h).end
ends_low q n v (Put k w) o h = o.end
ends_low q n v (Del k) o h = o.end

pub orderly_read : (q : Bool) (n : ℕ) (v : Shown) (x : Item Place (List ℕ)) → AllStandsIn q v → IsOrderly v → MayFollow (span v) x → IsOrderly (replay_step q n v x)
orderly_read q n v x s o h = record {
  parts = rewritten_within q (replay_step q n v x) (one_queue q n v x s);
  end = ends_low q n v x o h;
}

-- one item more
pub read_one : (q : Bool) (n : ℕ) (xs : List (Item Located KeyValue)) (z : Replayed) (x : Item Place (List ℕ)) → IsReplayed q xs z → MayFollow (span z.table) x
    → IsReplayed q (xs ++ (placed q n x ∷ [])) (replayed q n z x)
read_one q n xs z x h fits = record {
  summary = one_more q n xs z x h.queue fits.0 h.summary;
  marks = marks_read q n xs z.table x h.marks fits.0;
  queue = one_queue q n z.table x h.queue;
  orderly = orderly_read q n z.table x h.queue h.orderly fits;
}

pub read_nothing : (q : Bool) → IsReplayed q [] nothing_replayed
read_nothing q = record {
  summary = is_summary [] tt;
  marks = record { cleaned = refl; compacted = λ c h. no_more (sym h); deleted = λ k c h. no_more (sym h); was_deleted = λ k h. no_more (sym h) };
  queue = record { entries = none q; values = λ k g e. no_word g e };
  orderly = record { parts = omega arith; end = omega arith };
}
  where
    none : (q : Bool) → ◌≡◌ {A = ℕ} 0 (if q then 0 else 0)
    none true = refl
    none false = refl

-- noting files changes nothing of what was read
pub read_noted : (q : Bool) (xs : List (Item Located KeyValue)) (z : Replayed) (files : Option GroupFiles) → IsReplayed q xs z
    → IsReplayed q xs (record z { table = record z.table { noted = files } })
read_noted q xs z files h = record {
  summary = h.summary;
  marks = h.marks;
  queue = record { entries = h.queue.entries; values = h.queue.values };
  orderly = record { parts = h.orderly.parts; end = h.orderly.end };
}
