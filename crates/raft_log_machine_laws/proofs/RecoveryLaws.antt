-- What an open may make of what it read.
use Rattle.std.proofs.Common.{◌≡◌, ℕ, ◌+◌, ◌-◌, ◌<◌, ◌≤◌, ◌⊎◌, nat_lt, min, Bool, true, false, ◌||◌, if◌then◌else◌, List, length, Option, Some, None, is_some, option_map, unwrap_or, refl, sym, ap, ◌∙◌, subst, inl, inr, arith, le_refl}
use Rattle.std.specs.Option.{option_or}
use Rattle.std.proofs.lemmas.Bool.{cases_lt}
use Rattle.raft_log_model_laws.specs.Item.{Item}
use Rattle.raft_log_model_laws.specs.Meaning.{Slot, Content, says, holds, directory}
use Rattle.raft_log_model_laws.specs.Meaning.Slot.{Index, Key}
use Rattle.raft_log_model_laws.specs.Meaning.Content.{Entry, Value}
use Rattle.raft_log_model_laws.specs.Holes.{Window, Spans, nothing, window, NoHole, has_clean, IsSolid}
use Rattle.raft_log_model_laws.specs.Table.{Table, content, span_of, IsTableOf}
use Rattle.raft_log_model_laws.specs.Summary.{Summary, directory_table, IsSummary}
use Rattle.raft_log_model_laws.proofs.Public.{at_option, content_above, content_below, content_word, directory_of_any, if_false, if_true, lt_false, lt_true, one_run_fits, same_spans, stands_in}
use Rattle.raft_log_machine_laws.specs.Whereabouts.{Whereabouts, top}
use Rattle.raft_log_machine_laws.specs.Truth.{SaysOfSlot, AreCorrect}
use Rattle.raft_log_machine_laws.specs.Recovery.{has_compact, has_del, IsRecovered, HasMarks, IsReadOff}
use Rattle.raft_log_machine_laws.specs.Images.{IsOneRun}
use Rattle.raft_log_machine_laws.proofs.TruthRaises.{no_word, speaks_above}
use Rattle.raft_log_machine_laws.proofs.TruthCarries.{differ}

-- the word puts something there
abbrev is_put : {C : Type 0} → Option (Option C) → Bool
is_put None = false
is_put (Some None) = false
is_put (Some (Some c)) = true

put_word : {C : Type 0} (w : Option (Option C)) → is_put w ≡ true → (c : C) × (w ≡ Some (Some c))
put_word None h = differ (sym h)
put_word (Some None) h = differ (sym h)
put_word (Some (Some c)) h = (c, refl)

no_put_word : {C : Type 0} (w : Option (Option C)) → is_put w ≡ false → (w ≡ Some None) ⊎ (w ≡ None)
no_put_word None h = inr refl
no_put_word (Some None) h = inl refl
no_put_word (Some (Some c)) h = differ h

entry_word : {C : Type 0} (w : Option (Option C)) (c : C) → unwrap_or w None ≡ Some c → w ≡ Some (Some c)
entry_word None c e = no_word c e
entry_word (Some v) c e = ap Some e

-- what stands lies in the run
pub in_run : {E V : Type 0} (m : Slot → Option (Content E V)) (run : IsOneRun m) (i : ℕ) (c : Content E V) → m (Index i) ≡ Some c → (run.first ≤ i) × (i < run.end)
in_run m run i c e = (
  elim (cases_lt i run.first) [ inl before ↦ no_word c (sym (run.below i before) ∙ e) | inr from ↦ from ],
  elim (cases_lt i run.end) [ inl within ↦ within | inr past ↦ no_word c (sym (run.above i past) ∙ e) ],
)

-- true whereabouts tell the run
abbrev pub run_told : {E V : Type 0} (said : SaysOfSlot E V) (m : Slot → Option (Content E V)) (t : Whereabouts) → AreCorrect said m t → IsOneRun m
run_told said m t b = record { first = t.first; end = t.end; in_range = b.in_order.2; below = b.below; above = b.above; solid = b.solid }

-- Of what was read of Append, and of what the directory means for the group, an open makes the whereabouts. Append's
-- entries are one run, w
module _ {E V : Type 0} (m : Slot → Option (Content E V)) (append : List (Item E V)) (run : IsOneRun m) (w : Window)
    (spans : Spans w.first w.end (λ i. holds (Index i) append)) (means : (s : Slot) (v : Option (Content E V)) → says s append ≡ Some v → m s ≡ v) where
  in_append : (i : ℕ) → w.first ≤ i → i < w.end → (c : Content E V) × (says (Index i) append ≡ Some (Some c))
  in_append i low high = let it = spans.stands i low high in (Entry it.0, entry_word (says (Index i) append) (Entry it.0) it.1)

  -- where nothing of Append stands and something stands, Append is silent
  silent : (i : ℕ) (c : Content E V) → holds (Index i) append ≡ None → m (Index i) ≡ Some c → says (Index i) append ≡ None
  silent i c none stands = at_option (says (Index i) append) (λ o. unwrap_or o None ≡ None → o ≡ None) (λ e h. refl)
      (λ v e h. no_word c (sym h ∙ sym (means (Index i) v e) ∙ stands)) none

  -- whereabouts are recovered, where their entries are the run, those from the split on stand in Append and those
  -- below don't, and so with the keys
  made : (t : Whereabouts) → t.first ≡ min run.first run.end → t.end ≡ run.end → t.first ≤ t.split → t.split ≤ t.end
      → ((i : ℕ) → t.first ≤ i → i < t.split → holds (Index i) append ≡ None)
      → ((i : ℕ) → t.split ≤ i → i < t.end → (c : Content E V) × (says (Index i) append ≡ Some (Some c)))
      → ((k : List ℕ) → t.appended k ≡ is_put (says (Key k) append)) → HasMarks append t → IsRecovered m append t
  made t first end low high older newer keys marks = record {
    in_order = (low, high, subst (λ n. n ≤ top) (sym end) run.in_range);
    below = λ i h. run.below i (omega arith);
    above = λ i h. run.above i (omega arith);
    rewritten = λ i from to. let it = run.solid i (omega arith) (omega arith) in (silent i it.0 (older i from to) it.1, it);
    newer = newer;
    key_newer = λ k h. put_word (says (Key k) append) (sym (keys k) ∙ h);
    key_older = λ k h. elim (no_put_word (says (Key k) append) (sym (keys k) ∙ h)) [ inl gone ↦ inl (means (Key k) None gone) | inr none ↦ inr none ];
    marks = marks;
  }

  -- Append's run, where it isn't empty, is the upper part of what stands
  pub ends_alike : w.first < w.end → (run.first ≤ w.first) × (w.end ≡ run.end)
  ends_alike some =
      let first = in_append w.first (le_refl w.first) some in
      let last = in_append (w.end - 1) (omega arith) (omega arith) in
      let low = in_run m run w.first first.0 (means (Index w.first) (Some first.0) first.1) in
      let high = in_run m run (w.end - 1) last.0 (means (Index (w.end - 1)) (Some last.0) last.1) in
      (low.0, elim (cases_lt w.end run.end) [ inl more ↦ absurd (no_more first low.0 more) | inr done ↦ (let it = high.1 in omega arith) ])
    where
      no_more : ((c : Content E V) × (says (Index w.first) append ≡ Some (Some c))) → run.first ≤ w.first → w.end < run.end → ⊥
      no_more first low more =
          let loud = speaks_above append w.first (run.end - 1) first.0 (omega arith) first.1 in
          let there = run.solid (run.end - 1) (omega arith) (omega arith) in
          no_word there.0 (sym (spans.none_above (run.end - 1) (omega arith)) ∙ ap (λ o. unwrap_or o None) loud.1
          ∙ sym (means (Index (run.end - 1)) loud.0 loud.1) ∙ there.1)

  -- so where the split is that run's start, or the end where it is empty
  pub split_made : (t : Whereabouts) → t.first ≡ min run.first run.end → t.end ≡ run.end
      → ((w.first < w.end) × (t.split ≡ w.first)) ⊎ ((w.end ≤ w.first) × (t.split ≡ t.end))
      → ((k : List ℕ) → t.appended k ≡ is_put (says (Key k) append)) → HasMarks append t → IsRecovered m append t
  split_made t first end (inl some) keys marks =
      let ends = ends_alike some.0 in
      made t first end (let low = ends.0 in let at = some.1 in omega (arith, some.0)) (let same = ends.1 in let at = some.1 in omega (arith, some.0))
      (λ i from to. spans.none_below i (let at = some.1 in omega arith))
      (λ i from to. in_append i (let at = some.1 in omega arith) (let same = ends.1 in omega arith)) keys marks
  split_made t first end (inr none) keys marks =
      made t first end (let at = none.1 in omega arith) (let at = none.1 in omega arith)
      (λ i from to. elim (cases_lt i w.first) [ inl before ↦ spans.none_below i before | inr after ↦ spans.none_above i (omega (arith, none.0)) ])
      (λ i from to. absurd (let at = none.1 in omega arith)) keys marks

-- from a map that is one run, and a list without holes
pub recovery : {E V : Type 0} (m : Slot → Option (Content E V)) (append : List (Item E V)) → IsOneRun m → NoHole nothing append
    → ((s : Slot) (v : Option (Content E V)) → says s append ≡ Some v → m s ≡ v) → (t : Whereabouts) × IsRecovered m append t
recovery m append run no_hole means = elim (cases_lt (window nothing append).first (window nothing append).end) [
  | inl some ↦ (
    at (window nothing append).first,
    split_made m append run (window nothing append) (one_run_fits append no_hole) means (at (window nothing append).first) refl refl
        (inl (some, refl)) (λ k. refl) (marks (window nothing append).first),
  )
  | inr none ↦ (
    at run.end,
    split_made m append run (window nothing append) (one_run_fits append no_hole) means (at run.end) refl refl
        (inr (none, refl)) (λ k. refl) (marks run.end),
  )
]
  where
    at : ℕ → Whereabouts
    at n = record {
      first = min run.first run.end;
      split = n;
      end = run.end;
      appended = λ k. is_put (says (Key k) append);
      cleaned = has_clean append;
      compacted = has_compact append;
      deleted = λ k. has_del k append;
    }

    marks : (n : ℕ) → HasMarks append (at n)
    marks n = record { cleaned = refl; compacted = λ c h. h; deleted = λ k c h. h; was_deleted = λ k h. h }

-- from a table of Rewrite and a summary of Append
module _ {E V : Type 0} (t : Table E V) (z : Summary E V) (rewrite append : List (Item E V)) (is_table : IsTableOf t rewrite) (is_summary : IsSummary z append)
    (m : Slot → Option (Content E V)) (same : (s : Slot) → directory s rewrite append ≡ m s) (solid : IsSolid (λ i. m (Index i))) where
  table_spans : (u : Table E V) → Spans u.first (u.first + length u.entries) (λ i. content u (Index i))
  table_spans u = record { stands = stands_in u; none_below = content_below u; none_above = content_above u }

  -- what the directory's table has is the map
  has : (s : Slot) → content (directory_table t z) s ≡ m s
  has s =
      directory_of_any t z rewrite append is_table is_summary
      (λ i j l a b ij jl low high. let it = solid i j l a b ij jl (sym (same (Index i)) ∙ low) (sym (same (Index l)) ∙ high) in (it.0, same (Index j) ∙ it.1)) s
      ∙ same s

  abbrev table_run : (directory_table t z).first + length (directory_table t z).entries ≤ top → IsOneRun m
  table_run high = record {
    first = (directory_table t z).first;
    end = (directory_table t z).first + length (directory_table t z).entries;
    in_range = high;
    below = λ i h. sym (has (Index i)) ∙ content_below (directory_table t z) i h;
    above = λ i h. sym (has (Index i)) ∙ content_above (directory_table t z) i h;
    solid = λ i from to. let it = (table_spans (directory_table t z)).stands i from to in (Entry it.0, sym (has (Index i)) ∙ it.1);
  }

  -- what the summary's table has is what stands in Append
  append_spans : Spans z.table.first (z.table.first + length z.table.entries) (λ i. holds (Index i) append)
  append_spans =
      same_spans z.table.first (z.table.first + length z.table.entries) (λ i. content z.table (Index i)) (λ i. holds (Index i) append)
      (λ i. content_word z (Index i) is_summary.sound ∙ ap (λ w. unwrap_or w None) (is_summary.says (Index i))) (table_spans z.table)

  append_means : (s : Slot) (v : Option (Content E V)) → says s append ≡ Some v → m s ≡ v
  append_means s v e = sym (same s) ∙ ap (λ w. unwrap_or w (holds s rewrite)) e

  key_put : (o : Option V) (gone : Bool) → is_some o ≡ is_put {C = Content E V} (option_or (option_map (λ v. Some (Value v)) o) (if gone then Some None else None))
  key_put None true = refl
  key_put None false = refl
  key_put (Some v) gone = refl

  pub read_off : (u : Whereabouts) → IsReadOff t z u → u.end ≤ top → HasMarks append u → IsRecovered m append u
  read_off u r high marks =
      split_made m append (table_run (let end = r.end in omega arith)) (span_of z.table) append_spans append_means u
      (let first = r.first in omega arith) r.end
      (elim (cases_lt 0 (length z.table.entries)) [
        | inl some ↦ inl ((omega arith), r.split ∙ if_true (nat_lt 0 (length z.table.entries)) z.table.first u.end (lt_true 0 (length z.table.entries) some))
        | inr none ↦ inr ((omega arith), r.split ∙ if_false (nat_lt 0 (length z.table.entries)) z.table.first u.end (lt_false 0 (length z.table.entries) none))
      ])
      (λ k. r.appended k ∙ key_put (z.table.values k) (z.cleaned || z.deleted k) ∙ ap is_put (is_summary.says (Key k)))
      marks
