-- Two segments read apart and joined are a summary of both.
use Rattle.std.proofs.Common.{◌≡◌, ℕ, ◌+◌, ◌-◌, ◌<◌, ◌≤◌, ◌⊎◌, min, max, Bool, true, false, not, ◌&&◌, ◌||◌, List, [], ◌∷◌, ◌++◌, map, length, take, drop, Option, Some, None, option_map, if◌then◌else◌, nat_lt, nat_le, refl, sym, ap, ap₂, subst, ◌∙◌, inl, inr, arith, length-take, length-drop, le_refl, append_assoc}
use Rattle.std.specs.Option.{option_or}
use Rattle.std.proofs.lemmas.Bool.{cases_lt}
use Rattle.std.proofs.lemmas.List.{drop-map, length-map, take-map}
use Rattle.std.proofs.Math.Path.{fun_ext}
use Rattle.raft_log_model_laws.specs.Item.{Item}
use Rattle.raft_log_model_laws.specs.Meaning.{Slot, Content, says, holds}
use Rattle.raft_log_model_laws.specs.Meaning.Slot.{Index, Key}
use Rattle.raft_log_model_laws.specs.Meaning.Content.{Value}
use Rattle.raft_log_model_laws.specs.Holes.{Window, Spans, nothing, window, is_below, is_past, FitsOn, NoHole, has_clean}
use Rattle.raft_log_model_laws.specs.Table.{Table, compacted, content, cut_from, run_onto, span_of}
use Rattle.raft_log_model_laws.specs.Summary.{Summary, entries_over, join, lesser, values_over, word, IsSummary}
use Rattle.raft_log_model_laws.proofs.Public.{at_bool, content_above, content_below, from_lt_true, if_false, join_fits, join_is_summary, no_hole_end, no_hole_front, no_hole_later, none_some, one_run_fits, same_spans, says_append, stands_in, table_holds, tail_step, IsTail, JoinFits}
use Rattle.raft_log_machine_laws.specs.Recovery.{has_compact, has_del}
use Rattle.raft_log_machine_laws.specs.Whereabouts.{top}
use Rattle.raft_log_machine_laws.proofs.Public.{no_word}
use Rattle.raft_log_extents.specs.declared.place.Place.{Place}
use Rattle.raft_log_memtable_index.specs.Shown.{IsOrderly, KeyValue, Shown, span, whereabouts}
use Rattle.raft_log_memtable_index.specs.Bridge.{Located, in_queue}
use Rattle.raft_log_memtable_index.specs.Replayed.{IsReplayed, LeavesHole, Replayed, AllStandsIn, joined, left, placed, run_over, standing, summary_of, with_entries, with_newer}
use Rattle.raft_log_memtable_index.proofs.Spans.{run_ends, run_length}
use Rattle.raft_log_memtable_index.proofs.Replays.{of_one, or_false, left_true, run_kept, run_table, span_one, standing_one, summaries, tables, two_marks, rewritten_within, no_more, placed_fits}

-- what stands of a list is one run: a table that has it ends where the list's run ends
tail_of : {E V : Type 0} (a b : Window) (m : ℕ → Option (Content E V)) → Spans a.first a.end m → Spans b.first b.end m → IsTail a b
tail_of a b m p q = elim (cases_lt a.first a.end) [
  | inl some ↦ (
      let first = p.stands a.first (le_refl a.first) some in
      let from = elim (cases_lt a.first b.first) as (λ _. b.first ≤ a.first) [ inl before ↦ absurd (none_some (m a.first) _ (q.none_below a.first before) first.1) | inr ok ↦ ok ] in
      let to = elim (cases_lt a.first b.end) as (λ _. a.first < b.end) [ inl ok ↦ ok | inr past ↦ absurd (none_some (m a.first) _ (q.none_above a.first past) first.1) ] in
      inr (same_end some from to, from)
      )
  | inr none ↦ inl none
]
  where
    same_end : a.first < a.end → b.first ≤ a.first → a.first < b.end → a.end ≡ b.end
    same_end some from to = elim (cases_lt a.end b.end) [
      | inl more ↦ (
          let there = q.stands a.end (omega arith) more in
          absurd (none_some (m a.end) _ (p.none_above a.end (le_refl a.end)) there.1)
          )
      | inr not_more ↦ elim (cases_lt b.end a.end) [
        | inl less ↦ (
            let there = p.stands b.end (omega arith) less in
            absurd (none_some (m b.end) _ (q.none_above b.end (le_refl b.end)) there.1)
            )
        | inr not_less ↦ omega arith
      ]
    ]

table_spans : {E V : Type 0} (u : Table E V) → Spans u.first (u.first + length u.entries) (λ i. content u (Index i))
table_spans u = record { stands = stands_in u; none_below = content_below u; none_above = content_above u }

-- in a queue without holes no run is refused
pub healthy_fits : (q : Bool) (n : ℕ) (xs : List (Item Located KeyValue)) (z : Replayed) (x : Item Place (List ℕ)) → IsReplayed q xs z
    → NoHole nothing (xs ++ (placed q n x ∷ [])) → FitsOn (span z.table) x
healthy_fits q n xs z x h whole =
    let spans = same_spans (standing z.table).first ((standing z.table).first + length (standing z.table).entries)
    (λ i. content (standing z.table) (Index i)) (λ i. holds (Index i) xs) (λ i. table_holds (summary_of z) xs (Index i) h.summary) (table_spans (standing z.table)) in
    let tail = tail_of (span_of (standing z.table)) (window nothing xs) (λ i. holds (Index i) xs) spans
    (one_run_fits xs (no_hole_front nothing xs (placed q n x ∷ []) whole)) in
    let fits = (tail_step (span_of (standing z.table)) (window nothing xs) (placed q n x) tail (no_hole_end nothing xs (placed q n x ∷ []) whole).0).0 in
    placed_fits q n (span z.table) x (subst (λ w. FitsOn w (placed q n x)) (span_one q z.table h.queue) fits)

-- what is left of a table stands in its queue
one_below : (q : Bool) (v : Shown) (h : ℕ) → AllStandsIn q v
    → AllStandsIn q (record v { places = take (h - v.first) v.places; rewritten = min v.rewritten (h - v.first) })
one_below true v h s = record { entries = (let none = s.entries in omega arith); values = s.values }
one_below false v h s = record { entries = (let all = s.entries in omega (arith, length-take (h - v.first) v.places)); values = s.values }

one_above : (q : Bool) (v : Shown) (c : ℕ) → AllStandsIn q v
    → AllStandsIn q (record v { first = v.first + min (c - v.first) (length v.places); places = drop (c - v.first) v.places; rewritten = v.rewritten - (c - v.first) })
one_above true v c s = record { entries = (let none = s.entries in omega arith); values = s.values }
one_above false v c s = record { entries = (let all = s.entries in omega (arith, length-drop (c - v.first) v.places)); values = s.values }

pub one_left : (q : Bool) (v : Shown) (low : ℕ) (high : Option ℕ) → AllStandsIn q v → AllStandsIn q (left v low high)
one_left q v low None s = one_above q v low s
one_left q v low (Some h) s = one_below q (left v low None) h (one_above q v low s)

one_run : (q : Bool) (v : Shown) (f : ℕ) (ps : List Place) (count : ℕ) → count ≡ (if q then 0 else length ps) → AllStandsIn q v
    → is_past (span v) f ≡ false → AllStandsIn q (run_over v f ps count)
one_run true v f ps count e s h =
    subst (AllStandsIn true) (sym (run_kept v f ps count h)) (record { entries = (let none = s.entries in omega (arith, e)); values = s.values })
one_run false v f ps count e s h =
    subst (AllStandsIn false) (sym (run_kept v f ps count h)) (record { entries = (let all = s.entries in omega (arith, e, run_length v f ps)); values = s.values })

-- a later table's run leaves no hole
abbrev pub Fits : Shown → Replayed → Type 0
Fits v z = 0 < length z.table.places → is_past (span (left v z.low z.high)) z.table.first ≡ false

pub one_entries : (q : Bool) (v : Shown) (z : Replayed) → AllStandsIn q v → AllStandsIn q z.table → Fits v z → AllStandsIn q (with_entries v z)
one_entries q v z s t fits =
    at_bool (nat_lt 0 (length z.table.places))
    (λ b. nat_lt 0 (length z.table.places) ≡ b
    → AllStandsIn q (if b then run_over (left v z.low z.high) z.table.first z.table.places z.table.rewritten else left v z.low z.high))
    (λ _ some. one_run q (left v z.low z.high) z.table.first z.table.places z.table.rewritten t.entries (one_left q v z.low z.high s)
    (fits (from_lt_true 0 (length z.table.places) some)))
    (λ _ _. one_left q v z.low z.high s) refl

one_newer : (q : Bool) (v : Shown) (z : Replayed) → AllStandsIn q v → AllStandsIn q z.table → Fits v z → AllStandsIn q (with_newer v z)
one_newer q v z s t fits = record {
  entries = (one_entries q v z s t fits).entries;
  values = λ k h. of_two k h (z.table.held k) (z.table.deleted k) (t.values k);
}
  where
    of_two : (k : List ℕ) (h : KeyValue) (o : Option KeyValue) (d : Bool) → ((g : KeyValue) → o ≡ Some g → g.appended ≡ q)
        → option_or o (if d then None else v.held k) ≡ Some h → h.appended ≡ q
    of_two k h None true new e = no_word h e
    of_two k h None false new e = s.values k h e
    of_two k h (Some g) d new e = new h e

-- and so does its content follow the model
above_one : (q : Bool) (v : Shown) (low : ℕ) → of_one q (left v low None) ≡ compacted (of_one q v) low
above_one q v low =
    tables (of_one q (left v low None)) (compacted (of_one q v) low)
    (ap (λ l. v.first + min (low - v.first) l) (sym (length-map v.places (in_queue q))))
    (sym (drop-map (in_queue q) (low - v.first) v.places)) refl

pub left_one : (q : Bool) (v : Shown) (low : ℕ) (high : Option ℕ) → of_one q (left v low high) ≡ cut_from (compacted (of_one q v) low) high
left_one q v low None = above_one q v low
left_one q v low (Some h) =
    let kept = left v low None in
    tables (of_one q (left v low (Some h))) (cut_from (of_one q kept) (Some h)) refl (sym (take-map (in_queue q) (h - kept.first) kept.places)) refl
    ∙ ap (λ t. cut_from t (Some h)) (above_one q v low)

abbrev one_summary : Bool → Replayed → Summary Located KeyValue
one_summary q z = record (summary_of z) { table = of_one q z.table }

summary_one : (q : Bool) (z : Replayed) → AllStandsIn q z.table → summary_of z ≡ one_summary q z
summary_one q z s = ap (λ t. record (summary_of z) { table = t }) (standing_one q z.table s)

entries_one : (q : Bool) (v : Shown) (z : Replayed) → z.table.cleaned ≡ false → Fits v z
    → of_one q (with_entries v z) ≡ entries_over (of_one q v) (one_summary q z)
entries_one q v z clean fits =
    at_bool (nat_lt 0 (length z.table.places))
    (λ b. nat_lt 0 (length z.table.places) ≡ b
    → of_one q (if b then run_over (left v z.low z.high) z.table.first z.table.places z.table.rewritten else left v z.low z.high)
    ≡ (if b then run_onto (cut_from (compacted (of_one q v) z.low) z.high) z.table.first (map (in_queue q) z.table.places)
    else cut_from (compacted (of_one q v) z.low) z.high))
    (λ _ some. ap (of_one q) (run_kept (left v z.low z.high) z.table.first z.table.places z.table.rewritten (fits (from_lt_true 0 (length z.table.places) some)))
    ∙ run_table q (left v z.low z.high) z.table.first z.table.places
    ∙ ap (λ t. run_onto t z.table.first (map (in_queue q) z.table.places)) (left_one q v z.low z.high))
    (λ _ _. left_one q v z.low z.high) refl
    ∙ ap (λ n. if nat_lt 0 n then run_onto (cut_from (compacted (of_one q v) z.low) z.high) z.table.first (map (in_queue q) z.table.places)
    else cut_from (compacted (of_one q v) z.low) z.high) (sym (length-map z.table.places (in_queue q)))
    ∙ sym (if_false z.table.cleaned _ _ clean)

values_one : (v : Shown) (z : Replayed) (t : Table Located KeyValue) → t.values ≡ v.held → z.table.cleaned ≡ false
    → ◌≡◌ {A = List ℕ → Option KeyValue} (λ k. option_or (z.table.held k) (if z.table.deleted k then None else v.held k)) (values_over t (summary_of z))
values_one v z t same clean =
    fun_ext (λ k. ap₂ (λ b f. option_or (z.table.held k) (if b || z.table.deleted k then None else f k)) (sym clean) (sym same))

-- the joined table is the join
summary_joined : (q : Bool) (a z : Replayed) → z.table.cleaned ≡ false → AllStandsIn q a.table → AllStandsIn q z.table → AllStandsIn q (with_newer a.table z) → Fits a.table z
    → summary_of (record { table = with_newer a.table z; low = max z.low a.low; high = lesser z.high a.high }) ≡ join (summary_of a) (summary_of z)
summary_joined q a z clean s t both fits =
    let entries = entries_one q a.table z clean fits in
    let one = tables (of_one q (with_newer a.table z)) (join (one_summary q a) (one_summary q z)).table
    (ap (λ u. u.first) entries) (ap (λ u. u.entries) entries) (values_one a.table z (of_one q a.table) refl clean) in
    summaries _ (join (summary_of a) (summary_of z))
    (standing_one q (with_newer a.table z) both ∙ one ∙ ap₂ (λ x y. (join x y).table) (sym (summary_one q a s)) (sym (summary_one q z t)))
    (or_false a.table.cleaned ∙ ap (λ b. a.table.cleaned || b) (sym clean)) refl refl refl

-- the model's word on holes is the table's
pub span_left : (q : Bool) (v : Shown) (low : ℕ) (high : Option ℕ) → AllStandsIn q v
    → ◌≡◌ {A = Window} (span (left v low high)) (span_of (cut_from (compacted (standing v) low) high))
span_left q v low high s =
    ap (λ n. record { first = (left v low high).first; end = (left v low high).first + n }) (sym (length-map (left v low high).places (in_queue q)))
    ∙ ap span_of (left_one q v low high) ∙ ap (λ t. span_of (cut_from (compacted t low) high)) (sym (standing_one q v s))

pub standing_length : (q : Bool) (v : Shown) → AllStandsIn q v → length (standing v).entries ≡ length v.places
standing_length q v s = ap (λ t. length t.entries) (standing_one q v s) ∙ length-map v.places (in_queue q)

pub fits_by_model : (q : Bool) (v : Shown) (z : Replayed) → AllStandsIn q v → AllStandsIn q z.table → z.table.cleaned ≡ false → JoinFits (standing v) (summary_of z) → Fits v z
fits_by_model q v z s t clean fits some =
    ap (λ w. is_past w z.table.first) (span_left q v z.low z.high s) ∙ fits clean (let same = standing_length q z.table t in omega (arith, some))

-- the ends
above_ends : (v : Shown) (low : ℕ) → IsOrderly v → (left v low None).first + length (left v low None).places ≤ top
above_ends v low o = let end = o.end in omega (arith, length-drop (low - v.first) v.places)

pub left_ends : (v : Shown) (low : ℕ) (high : Option ℕ) → IsOrderly v → (left v low high).first + length (left v low high).places ≤ top
left_ends v low None o = above_ends v low o
left_ends v low (Some h) o =
    let kept = left v low None in
    let end = above_ends v low o in omega (arith, length-take (h - kept.first) kept.places)

entries_end : (v : Shown) (z : Replayed) → IsOrderly v → IsOrderly z.table → Fits v z → (with_entries v z).first + length (with_entries v z).places ≤ top
entries_end v z o p fits =
    at_bool (nat_lt 0 (length z.table.places))
    (λ b. nat_lt 0 (length z.table.places) ≡ b
    → (if b then run_over (left v z.low z.high) z.table.first z.table.places z.table.rewritten else left v z.low z.high).first
    + length (if b then run_over (left v z.low z.high) z.table.first z.table.places z.table.rewritten else left v z.low z.high).places ≤ top)
    (λ _ some. let free = fits (from_lt_true 0 (length z.table.places) some) in
    subst (λ (t : Shown). t.first + length t.places ≤ top) (sym (run_kept (left v z.low z.high) z.table.first z.table.places z.table.rewritten free))
    (let end = p.end in omega (arith, run_ends (left v z.low z.high) z.table.first z.table.places free)))
    (λ _ _. left_ends v z.low z.high o) refl

-- what a Clean says it says of every slot
clean_word : (z : Summary Located KeyValue) (s : Slot) → z.cleaned ≡ true → (w : Option (Content Located KeyValue)) × (word z s ≡ Some w)
clean_word z (Index i) h =
    (content z.table (Index i), ap (λ b. if not b && (nat_le z.low i && is_below i z.high) then None else Some (content z.table (Index i))) h)
clean_word z (Key k) h =
    elim (either (z.table.values k)) [
      | inl none ↦ (None, ap₂ (λ o b. option_or (option_map (λ v. Some (Value v)) o) (if b || z.deleted k then Some None else None)) none h)
      | inr it ↦ (Some (Value it.0), ap (λ o. option_or (option_map (λ v. Some (Value v)) o) (if z.cleaned || z.deleted k then Some None else None)) it.1)
    ]
  where
    either : (o : Option KeyValue) → (o ≡ None) ⊎ ((v : KeyValue) × (o ≡ Some v))
    either None = inl refl
    either (Some v) = inr (v, refl)

right_true : (b c : Bool) → c ≡ true → (b || c) ≡ true
right_true true c h = refl
right_true false c h = h

said_over : {A : Type 0} (w : Option A) (x : A) (old : Option A) → w ≡ Some x → w ≡ option_or w old
said_over w x old h = h ∙ ap (λ o. option_or o old) (sym h)

-- behind a Clean only the later segment counts
after_clean : (q : Bool) (xs ys : List (Item Located KeyValue)) (z : Replayed) → IsReplayed q ys z → z.table.cleaned ≡ true → IsReplayed q (xs ++ ys) z
after_clean q xs ys z h clean = record {
  summary = record {
    sound = h.summary.sound;
    says = λ s. let all = clean_word (summary_of z) s clean in
        h.summary.says s ∙ said_over (says s ys) all.0 (says s xs) (sym (h.summary.says s) ∙ all.1) ∙ sym (says_append s xs ys);
  };
  marks = two_marks xs ys (whereabouts z.table) (clean ∙ sym (right_true (has_clean xs) (has_clean ys) is)) (λ _ no. no_more (sym is ∙ no)) (λ k _ no. no_more (sym is ∙ no))
      (λ k d. right_true (has_del k xs) (has_del k ys) (h.marks.was_deleted k d));
  queue = h.queue;
  orderly = h.orderly;
}
  where
    is : has_clean ys ≡ true
    is = sym h.marks.cleaned ∙ clean

either_true : (a b : Bool) → (a || b) ≡ true → (a ≡ true) ⊎ (b ≡ true)
either_true true b h = inl refl
either_true false b h = inr h

-- without one both do
after_both : (q : Bool) (xs ys : List (Item Located KeyValue)) (a z : Replayed) → IsReplayed q xs a → IsReplayed q ys z → NoHole nothing (xs ++ ys) → z.table.cleaned ≡ false
    → IsReplayed q (xs ++ ys) (record { table = with_newer a.table z; low = max z.low a.low; high = lesser z.high a.high })
after_both q xs ys a z h k whole clean = record {
  summary = subst (λ y. IsSummary y (xs ++ ys)) (sym (summary_joined q a z clean h.queue k.queue both fits))
      (join_is_summary (summary_of a) (summary_of z) xs ys h.summary k.summary whole);
  marks = two_marks xs ys (whereabouts (with_newer a.table z))
      (h.marks.cleaned ∙ or_false (has_clean xs) ∙ ap (λ b. has_clean xs || b) (sym none))
      (λ no _ some. elim (either_true (has_compact xs) (has_compact ys) some) [
        | inl old ↦ right_true z.table.compacted a.table.compacted (h.marks.compacted no old)
        | inr new ↦ left_true z.table.compacted a.table.compacted (k.marks.compacted none new)
      ])
      (λ j no _ some. elim (either_true (has_del j xs) (has_del j ys) some) [
        | inl old ↦ right_true (z.table.deleted j) (a.table.deleted j) (h.marks.deleted j no old)
        | inr new ↦ left_true (z.table.deleted j) (a.table.deleted j) (k.marks.deleted j none new)
      ])
      (λ j is. elim (either_true (z.table.deleted j) (a.table.deleted j) is) [
        | inl new ↦ right_true (has_del j xs) (has_del j ys) (k.marks.was_deleted j new)
        | inr old ↦ left_true (has_del j xs) (has_del j ys) (h.marks.was_deleted j old)
      ]);
  queue = both;
  orderly = record {
    parts = rewritten_within q (with_newer a.table z) both;
    end = entries_end a.table z h.orderly k.orderly fits;
  };
}
  where
    fits : Fits a.table z
    fits = fits_by_model q a.table z h.queue k.queue clean (join_fits (summary_of a) (summary_of z) xs ys h.summary k.summary whole)

    both : AllStandsIn q (with_newer a.table z)
    both = one_newer q a.table z h.queue k.queue fits

    none : has_clean ys ≡ false
    none = sym k.marks.cleaned ∙ clean

pub joined_is : (q : Bool) (xs ys : List (Item Located KeyValue)) (a z : Replayed) → IsReplayed q xs a → IsReplayed q ys z → NoHole nothing (xs ++ ys)
    → IsReplayed q (xs ++ ys) (joined a z)
joined_is q xs ys a z h k whole =
    at_bool z.table.cleaned
    (λ b. IsReplayed q (xs ++ ys) (if b then z else record { table = with_newer a.table z; low = max z.low a.low; high = lesser z.high a.high }))
    (after_clean q xs ys z k) (after_both q xs ys a z h k whole)

-- no join is refused
pub healthy_joint : (q : Bool) (xs ys : List (Item Located KeyValue)) (a z : Replayed) → IsReplayed q xs a → IsReplayed q ys z → NoHole nothing (xs ++ ys)
    → LeavesHole a.table z → ⊥
healthy_joint q xs ys a z h k whole hole =
    no_more (sym hole.3 ∙ fits_by_model q a.table z h.queue k.queue hole.0 (join_fits (summary_of a) (summary_of z) xs ys h.summary k.summary whole) hole.1)

-- what two tables of the same items have is the same
pub same_content : (q : Bool) (xs : List (Item Located KeyValue)) (a b : Replayed) → IsReplayed q xs a → IsReplayed q xs b
    → (s : Slot) → content (standing a.table) s ≡ content (standing b.table) s
same_content q xs a b h k s = table_holds (summary_of a) xs s h.summary ∙ sym (table_holds (summary_of b) xs s k.summary)

-- three segments, in either bracketing
pub joined_thrice : (q : Bool) (xs cs ys : List (Item Located KeyValue)) (a c z : Replayed) → IsReplayed q xs a → IsReplayed q cs c → IsReplayed q ys z
    → NoHole nothing (xs ++ (cs ++ ys)) → IsReplayed q (xs ++ (cs ++ ys)) (joined (joined a c) z)
joined_thrice q xs cs ys a c z h k l whole =
    let together = append_assoc xs cs ys in
    let all : NoHole nothing ((xs ++ cs) ++ ys) = subst (NoHole nothing) (sym together) whole in
    subst (λ zs. IsReplayed q zs (joined (joined a c) z)) together
    (joined_is q (xs ++ cs) ys (joined a c) z (joined_is q xs cs a c h k (no_hole_front nothing (xs ++ cs) ys all)) l all)

pub any_order : (q : Bool) (xs ys zs : List (Item Located KeyValue)) (a b c : Replayed) → IsReplayed q xs a → IsReplayed q ys b → IsReplayed q zs c
    → NoHole nothing (xs ++ (ys ++ zs)) → (s : Slot)
    → content (standing (joined (joined a b) c).table) s ≡ content (standing (joined a (joined b c)).table) s
any_order q xs ys zs a b c h k l whole =
    same_content q (xs ++ (ys ++ zs)) (joined (joined a b) c) (joined a (joined b c)) (joined_thrice q xs ys zs a b c h k l whole)
    (joined_is q xs (ys ++ zs) a (joined b c) h (joined_is q ys zs b c k l (no_hole_later xs (ys ++ zs) whole)) whole)
