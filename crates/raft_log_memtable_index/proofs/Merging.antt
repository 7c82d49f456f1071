-- Append's segments over Rewrite's: the directory's table, and what an open may make of it.
use Rattle.std.proofs.Common.{◌≡◌, ℕ, ◌+◌, ◌-◌, ◌≤◌, min, Bool, true, false, ◌&&◌, ◌||◌, List, ◌++◌, map, length, take, Option, Some, None, is_some, option_map, if◌then◌else◌, nat_lt, refl, sym, ap, ap₂, subst, ◌∙◌, arith}
use Rattle.std.specs.Option.{option_or}
use Rattle.std.proofs.lemmas.Bool.Decides.{nat_tests}
use Rattle.std.proofs.Math.Path.{fun_ext}
use Rattle.raft_log_model_laws.specs.Item.{Item}
use Rattle.raft_log_model_laws.specs.Meaning.{Slot, Content, directory}
use Rattle.raft_log_model_laws.specs.Meaning.Slot.{Index}
use Rattle.raft_log_model_laws.specs.Holes.{Window, is_past, IsSolid}
use Rattle.raft_log_model_laws.specs.Table.{Table, compacted, content, cut_from, run_onto, span_of}
use Rattle.raft_log_model_laws.specs.Summary.{directory_entries, directory_table}
use Rattle.raft_log_model_laws.proofs.Public.{at_bool, directory_of_any, from_lt_false, if_false, if_true, table_holds}
use Rattle.raft_log_machine_laws.specs.Recovery.{HasMarks, IsReadOff, IsRecovered}
use Rattle.raft_log_machine_laws.proofs.Public.{read_off}
use Rattle.raft_log_memtable_index.specs.Shown.{IsOrderly, KeyValue, Shown, is_in_append, span, whereabouts, with_run}
use Rattle.raft_log_memtable_index.specs.Bridge.{IsMeant, Located, located, unmarked}
use Rattle.raft_log_memtable_index.specs.Replayed.{IsReplayed, Replayed, AllStandsIn, left, merged, run_over, standing, summary_of, told, with_entries, with_newer}
use Rattle.raft_log_memtable_index.proofs.Queues.{located_length, located_run}
use Rattle.raft_log_memtable_index.proofs.Spans.{run_ends, run_length}
use Rattle.raft_log_memtable_index.proofs.Replays.{or_false, standing_one, tables}
use Rattle.raft_log_memtable_index.proofs.Joining.{left_one, left_ends, one_left, span_left, standing_length}
use Rattle.raft_log_memtable_index.proofs.Telling.{content_told, directory_told, recovered_told, solid_told, there}

-- the first and the entries of two tables
abbrev Alike : Table Located KeyValue → Table Located KeyValue → Type 0
Alike t u = (t.first ≡ u.first) × (t.entries ≡ u.entries)

left_stands : (v : Shown) (low : ℕ) (high : Option ℕ) → AllStandsIn false v → standing (left v low high) ≡ cut_from (compacted (standing v) low) high
left_stands v low high s =
    standing_one false (left v low high) (one_left false v low high s) ∙ left_one false v low high
    ∙ ap (λ t. cut_from (compacted t low) high) (sym (standing_one false v s))

within : (v : Shown) → AllStandsIn false v → v.rewritten ≤ length v.places
within v s = let all = s.entries in omega arith

-- a run of Append over what is left of Rewrite
run_stands : (v : Shown) (z : Replayed) → AllStandsIn false v → AllStandsIn true z.table
    → Alike (standing (record (with_run v z.table.first z.table.places) { rewritten = min v.rewritten (z.table.first - v.first) + z.table.rewritten }))
    (run_onto (standing v) z.table.first (standing z.table).entries)
run_stands v z s t = (
  ap (λ l. if nat_lt v.first z.table.first && nat_lt 0 l then v.first else z.table.first) (sym (standing_length false v s)),
  located_run (min v.rewritten (z.table.first - v.first) + z.table.rewritten) v.rewritten (z.table.first - v.first) v.places z.table.places
      (let none = t.entries in omega arith) (within v s)
      ∙ ap (λ l. take (z.table.first - v.first) (located v.rewritten v.places) ++ l) (sym (ap (λ u. u.entries) (standing_one true z.table t))),
)

-- one run or another
either_run : (v : Shown) (z : Replayed) → AllStandsIn false v → AllStandsIn true z.table
    → Alike (standing (run_over v z.table.first z.table.places z.table.rewritten))
    (if is_past (span v) z.table.first then standing z.table else run_onto (standing v) z.table.first (standing z.table).entries)
either_run v z s t =
    at_bool (is_past (span v) z.table.first)
    (λ b. Alike (standing (if b then record v { first = z.table.first; places = z.table.places; rewritten = z.table.rewritten }
    else record (with_run v z.table.first z.table.places) { rewritten = min v.rewritten (z.table.first - v.first) + z.table.rewritten }))
    (if b then standing z.table else run_onto (standing v) z.table.first (standing z.table).entries))
    (λ _. (refl, refl)) (λ _. run_stands v z s t)

alike_then : (t u w : Table Located KeyValue) → Alike t u → u ≡ w → Alike t w
alike_then t u w h e = subst (Alike t) e h

-- the entries of the merged table are the directory's
entries_stand : (v : Shown) (z : Replayed) → z.table.cleaned ≡ false → AllStandsIn false v → AllStandsIn true z.table
    → Alike (standing (with_entries v z)) (directory_entries (standing v) (summary_of z))
entries_stand v z clean s t =
    alike_then (standing (with_entries v z)) _ (directory_entries (standing v) (summary_of z))
    (at_bool (nat_lt 0 (length z.table.places))
    (λ b. nat_lt 0 (length z.table.places) ≡ b
    → Alike (standing (if b then run_over (left v z.low z.high) z.table.first z.table.places z.table.rewritten else left v z.low z.high))
    (if b then (if is_past (span_of (cut_from (compacted (standing v) z.low) z.high)) z.table.first then standing z.table
    else run_onto (cut_from (compacted (standing v) z.low) z.high) z.table.first (standing z.table).entries)
    else cut_from (compacted (standing v) z.low) z.high))
    (λ _ some. alike_then (standing (run_over (left v z.low z.high) z.table.first z.table.places z.table.rewritten))
    (if is_past (span (left v z.low z.high)) z.table.first then standing z.table
    else run_onto (standing (left v z.low z.high)) z.table.first (standing z.table).entries)
    (if is_past (span_of (cut_from (compacted (standing v) z.low) z.high)) z.table.first then standing z.table
    else run_onto (cut_from (compacted (standing v) z.low) z.high) z.table.first (standing z.table).entries)
    (either_run (left v z.low z.high) z (one_left false v z.low z.high s) t)
    (ap₂ (λ (w : Window) u. if is_past w z.table.first then standing z.table else run_onto u z.table.first (standing z.table).entries)
    (span_left false v z.low z.high s) (left_stands v z.low z.high s)))
    (λ _ _. let same = left_stands v z.low z.high s in (ap (λ u. u.first) same, ap (λ u. u.entries) same)) refl)
    (ap (λ n. if nat_lt 0 n then (if is_past (span_of (cut_from (compacted (standing v) z.low) z.high)) z.table.first then standing z.table
    else run_onto (cut_from (compacted (standing v) z.low) z.high) z.table.first (standing z.table).entries)
    else cut_from (compacted (standing v) z.low) z.high) (sym (standing_length true z.table t))
    ∙ sym (if_false z.table.cleaned _ _ clean))

-- so the merged table is the directory's
pub merged_stands : (v : Shown) (z : Replayed) → AllStandsIn false v → AllStandsIn true z.table → standing (merged v z) ≡ directory_table (standing v) (summary_of z)
merged_stands v z s t =
    at_bool z.table.cleaned
    (λ b. z.table.cleaned ≡ b → standing (if b then z.table else with_newer (unmarked v) z) ≡ directory_table (standing v) (summary_of z))
    (λ _ clean. let all = if_true z.table.cleaned (standing z.table)
    (if nat_lt 0 (length (standing z.table).entries)
    then (if is_past (span_of (cut_from (compacted (standing v) z.low) z.high)) z.table.first
    then standing z.table
    else run_onto (cut_from (compacted (standing v) z.low) z.high) z.table.first (standing z.table).entries)
    else cut_from (compacted (standing v) z.low) z.high) clean in
    tables (standing z.table) (directory_table (standing v) (summary_of z)) (sym (ap (λ u. u.first) all)) (sym (ap (λ u. u.entries) all))
    (fun_ext (λ k. none_under k (z.table.held k) (z.table.deleted k) clean)))
    (λ _ clean. let same = entries_stand (unmarked v) z clean (record { entries = s.entries; values = s.values }) t in
    tables (standing (with_newer (unmarked v) z)) (directory_table (standing v) (summary_of z)) same.0 same.1
    (fun_ext (λ k. ap (λ b. option_or (z.table.held k) (if b || z.table.deleted k then None else v.held k)) (sym clean))))
    refl
  where
    none_under : (k : List ℕ) (o : Option KeyValue) (d : Bool) → z.table.cleaned ≡ true → o ≡ option_or o (if z.table.cleaned || d then None else v.held k)
    none_under k (Some h) d clean = refl
    none_under k None d clean = ap (λ b. if b || d then None else v.held k) (sym clean)

-- where the split lies
split_run : (a n f : ℕ) → (nat_lt a (a + n) && nat_lt (a + n) f) ≡ false → (if nat_lt a f && nat_lt 0 n then a else f) + min n (f - a) ≡ f
split_run a n f h = grind (arith, nat_tests)

split_over : (v : Shown) (z : Replayed) → AllStandsIn false v → AllStandsIn true z.table
    → (run_over v z.table.first z.table.places z.table.rewritten).first + (run_over v z.table.first z.table.places z.table.rewritten).rewritten ≡ z.table.first
split_over v z s t =
    at_bool (is_past (span v) z.table.first)
    (λ b. is_past (span v) z.table.first ≡ b
    → (if b then record v { first = z.table.first; places = z.table.places; rewritten = z.table.rewritten }
    else record (with_run v z.table.first z.table.places) { rewritten = min v.rewritten (z.table.first - v.first) + z.table.rewritten }).first
    + (if b then record v { first = z.table.first; places = z.table.places; rewritten = z.table.rewritten }
    else record (with_run v z.table.first z.table.places) { rewritten = min v.rewritten (z.table.first - v.first) + z.table.rewritten }).rewritten ≡ z.table.first)
    (λ _ _. let none = t.entries in omega arith)
    (λ _ free. let none = t.entries in let all = s.entries in
    let number : min v.rewritten (z.table.first - v.first) + z.table.rewritten ≡ min (length v.places) (z.table.first - v.first) = omega arith in
    ap (λ n. (with_run v z.table.first z.table.places).first + n) number ∙ split_run v.first (length v.places) z.table.first free)
    refl

split_entries : (v : Shown) (z : Replayed) → AllStandsIn false v → AllStandsIn true z.table
    → (with_entries v z).first + (with_entries v z).rewritten
    ≡ (if nat_lt 0 (length z.table.places) then z.table.first else (with_entries v z).first + length (with_entries v z).places)
split_entries v z s t =
    at_bool (nat_lt 0 (length z.table.places))
    (λ b. (if b then run_over (left v z.low z.high) z.table.first z.table.places z.table.rewritten else left v z.low z.high).first
    + (if b then run_over (left v z.low z.high) z.table.first z.table.places z.table.rewritten else left v z.low z.high).rewritten
    ≡ (if b then z.table.first
    else (if b then run_over (left v z.low z.high) z.table.first z.table.places z.table.rewritten else left v z.low z.high).first
    + length (if b then run_over (left v z.low z.high) z.table.first z.table.places z.table.rewritten else left v z.low z.high).places))
    (λ _. split_over (left v z.low z.high) z (one_left false v z.low z.high s) t)
    (λ _. ap (λ n. (left v z.low z.high).first + n) (one_left false v z.low z.high s).entries)

split_clean : (u : Shown) → AllStandsIn true u → u.first + u.rewritten ≡ (if nat_lt 0 (length u.places) then u.first else u.first + length u.places)
split_clean u t =
    at_bool (nat_lt 0 (length u.places)) (λ b. nat_lt 0 (length u.places) ≡ b → u.first + u.rewritten ≡ (if b then u.first else u.first + length u.places))
    (λ _ _. let none = t.entries in omega arith)
    (λ _ empty. let none = t.entries in let few = from_lt_false 0 (length u.places) empty in omega arith) refl

pub split_merged : (v : Shown) (z : Replayed) → AllStandsIn false v → AllStandsIn true z.table
    → (merged v z).first + (merged v z).rewritten ≡ (if nat_lt 0 (length z.table.places) then z.table.first else (merged v z).first + length (merged v z).places)
split_merged v z s t =
    at_bool z.table.cleaned
    (λ b. (if b then z.table else with_newer (unmarked v) z).first + (if b then z.table else with_newer (unmarked v) z).rewritten
    ≡ (if nat_lt 0 (length z.table.places) then z.table.first
    else (if b then z.table else with_newer (unmarked v) z).first + length (if b then z.table else with_newer (unmarked v) z).places))
    (λ _. split_clean z.table t)
    (λ _. split_entries (unmarked v) z (record { entries = s.entries; values = s.values }) t)

-- the keys of the merged table that stand in Append are those that Append holds
appended_of : (o : Option KeyValue) (d : Bool) (old : Option KeyValue) → ((h : KeyValue) → o ≡ Some h → h.appended ≡ true) → ((h : KeyValue) → old ≡ Some h → h.appended ≡ false)
    → is_in_append (option_or o (if d then None else old)) ≡ is_some o
appended_of None true old new low = refl
appended_of None false None new low = refl
appended_of None false (Some h) new low = low h refl
appended_of (Some h) d old new low = new h refl

in_append_alone : (o : Option KeyValue) → ((h : KeyValue) → o ≡ Some h → h.appended ≡ true) → is_in_append o ≡ is_some o
in_append_alone None new = refl
in_append_alone (Some h) new = new h refl

keys_merged : (v : Shown) (z : Replayed) → AllStandsIn false v → AllStandsIn true z.table → (k : List ℕ) → is_in_append ((merged v z).held k) ≡ is_some (z.table.held k)
keys_merged v z s t k =
    at_bool z.table.cleaned (λ b. is_in_append ((if b then z.table else with_newer (unmarked v) z).held k) ≡ is_some (z.table.held k))
    (λ _. in_append_alone (z.table.held k) (t.values k))
    (λ _. appended_of (z.table.held k) (z.table.deleted k) (v.held k) (t.values k) (s.values k))

-- so where things stand is read off
pub read_off_merged : (v : Shown) (z : Replayed) → AllStandsIn false v → AllStandsIn true z.table → IsReadOff (standing v) (summary_of z) (whereabouts (merged v z))
read_off_merged v z s t =
    let same = merged_stands v z s t in
    let ends : (merged v z).first + length (merged v z).places ≡ (directory_table (standing v) (summary_of z)).first + length (directory_table (standing v) (summary_of z)).entries =
    ap (λ n. (merged v z).first + n) (sym (located_length (merged v z).rewritten (merged v z).places)) ∙ ap (λ u. u.first + length u.entries) same in
    record {
      first = ap (λ u. u.first) same;
      end = ends;
      split = split_merged v z s t
          ∙ ap (λ n. if nat_lt 0 n then z.table.first else (merged v z).first + length (merged v z).places) (sym (standing_length true z.table t));
      appended = keys_merged v z s t;
    }

-- the marks are Append's
marks_merged : (v : Shown) (z : Replayed) (append : List (Item Located KeyValue)) → HasMarks append (whereabouts z.table) → HasMarks append (whereabouts (merged v z))
marks_merged v z append h =
    at_bool z.table.cleaned (λ b. z.table.cleaned ≡ b → HasMarks append (whereabouts (if b then z.table else with_newer (unmarked v) z)))
    (λ _ _. h)
    (λ _ clean. record {
      cleaned = sym clean ∙ h.cleaned;
      compacted = λ no some. sym (or_false z.table.compacted) ∙ h.compacted no some;
      deleted = λ k no some. sym (or_false (z.table.deleted k)) ∙ h.deleted k no some;
      was_deleted = λ k is. h.was_deleted k (or_false (z.table.deleted k) ∙ is);
    }) refl

-- and the ends are in order
left_within : (v : Shown) (low : ℕ) (high : Option ℕ) → AllStandsIn false v → IsOrderly v → IsOrderly (left v low high)
left_within v low high s o = record { parts = within (left v low high) (one_left false v low high s); end = left_ends v low high o }

over_orderly : (v : Shown) (z : Replayed) → AllStandsIn true z.table → IsOrderly v → IsOrderly z.table → IsOrderly (run_over v z.table.first z.table.places z.table.rewritten)
over_orderly v z t o p =
    at_bool (is_past (span v) z.table.first)
    (λ b. is_past (span v) z.table.first ≡ b
    → IsOrderly (if b then record v { first = z.table.first; places = z.table.places; rewritten = z.table.rewritten }
    else record (with_run v z.table.first z.table.places) { rewritten = min v.rewritten (z.table.first - v.first) + z.table.rewritten }))
    (λ _ _. record { parts = p.parts; end = p.end })
    (λ _ free. record {
      parts = (let parts = o.parts in let none = t.entries in omega (arith, run_length v z.table.first z.table.places));
      end = (let end = p.end in omega (arith, run_ends v z.table.first z.table.places free));
    }) refl

entries_orderly : (v : Shown) (z : Replayed) → AllStandsIn false v → AllStandsIn true z.table → IsOrderly v → IsOrderly z.table → IsOrderly (with_entries v z)
entries_orderly v z s t o p =
    at_bool (nat_lt 0 (length z.table.places))
    (λ b. IsOrderly (if b then run_over (left v z.low z.high) z.table.first z.table.places z.table.rewritten else left v z.low z.high))
    (λ _. over_orderly (left v z.low z.high) z t (left_within v z.low z.high s o) p) (λ _. left_within v z.low z.high s o)

pub orderly_merged : (v : Shown) (z : Replayed) → AllStandsIn false v → AllStandsIn true z.table → IsOrderly v → IsOrderly z.table → IsOrderly (merged v z)
orderly_merged v z s t o p =
    at_bool z.table.cleaned (λ b. IsOrderly (if b then z.table else with_newer (unmarked v) z)) (λ _. p)
    (λ _. let both = entries_orderly (unmarked v) z (record { entries = s.entries; values = s.values }) t (record { parts = o.parts; end = o.end }) p in
    record { parts = both.parts; end = both.end })

-- what is there by both queues
module _ {E : Type 0} (at : Located → E) (rewrite append : List (Item Located KeyValue)) where
  abbrev pub meant : Slot → Option (Content E (List ℕ))
  meant s = directory s (map (told at) rewrite) (map (told at) append)

  same_solid : IsSolid (λ i. meant (Index i)) → IsSolid (λ i. directory (Index i) rewrite append)
  same_solid solid = solid_told at (λ i. directory (Index i) rewrite append) (λ i. meant (Index i)) (λ i. directory_told at (Index i) rewrite append) solid

  pub merged_means : (r z : Replayed) → IsReplayed false rewrite r → IsReplayed true append z → IsSolid (λ i. directory (Index i) rewrite append)
      → IsMeant at (merged r.table z) meant
  merged_means r z h k solid s =
      content_told at (merged r.table z) s
      ∙ ap (λ t. option_map (there at) (content t s)) (merged_stands r.table z h.queue k.queue)
      ∙ ap (option_map (there at)) (directory_of_any (standing r.table) (summary_of z) rewrite append (λ q. table_holds (summary_of r) rewrite q h.summary) k.summary solid s)
      ∙ sym (directory_told at s rewrite append)

  pub merged_recovers : (r z : Replayed) → IsReplayed false rewrite r → IsReplayed true append z → IsSolid (λ i. directory (Index i) rewrite append)
      → IsRecovered meant (map (told at) append) (whereabouts (merged r.table z))
  merged_recovers r z h k solid =
      recovered_told at (λ s. directory s rewrite append) meant append (whereabouts (merged r.table z)) (λ s. directory_told at s rewrite append)
      (read_off (standing r.table) (summary_of z) rewrite append (λ q. table_holds (summary_of r) rewrite q h.summary) k.summary
      (λ s. directory s rewrite append) (λ s. refl) solid (whereabouts (merged r.table z)) (read_off_merged r.table z h.queue k.queue)
      (orderly_merged r.table z h.queue k.queue h.orderly k.orderly).end (marks_merged r.table z append k.marks))

  pub means : (r z : Replayed) → IsReplayed false rewrite r → IsReplayed true append z → IsSolid (λ i. meant (Index i)) → IsMeant at (merged r.table z) meant
  means r z h k solid = merged_means r z h k (same_solid solid)

  pub recovers : (r z : Replayed) → IsReplayed false rewrite r → IsReplayed true append z → IsSolid (λ i. meant (Index i))
      → IsRecovered meant (map (told at) append) (whereabouts (merged r.table z))
  recovers r z h k solid = merged_recovers r z h k (same_solid solid)
