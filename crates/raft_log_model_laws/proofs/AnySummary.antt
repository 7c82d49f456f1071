-- Any table of what Rewrite means and any summary of Append make the directory's table, however they were made.
use Rattle.std.proofs.Common.{◌≡◌, ℕ, ◌+◌, ◌-◌, ◌<◌, List, length, true, false, not, ◌&&◌, ◌||◌, Some, None, unwrap_or, nat_lt, nat_le, if◌then◌else◌, refl, sym, ap, ap₂, ◌∙◌, arith}
use Rattle.raft_log_model_laws.specs.Item.{Item}
use Rattle.raft_log_model_laws.specs.Meaning.{Slot, Content, holds, directory}
use Rattle.raft_log_model_laws.specs.Meaning.Slot.{Index, Key}
use Rattle.raft_log_model_laws.specs.Meaning.Content.{Entry}
use Rattle.raft_log_model_laws.specs.Holes.{is_past, is_below, IsSolid}
use Rattle.raft_log_model_laws.specs.Table.{Table, content, span_of, compacted, cut_from, run_onto}
use Rattle.raft_log_model_laws.specs.Summary.{Summary, is_left, word, entries_over, directory_entries, directory_table, IsSummary}
use Rattle.raft_log_model_laws.proofs.Cases.{at_bool, if_false, from_lt_true, both, none_some}
use Rattle.raft_log_model_laws.proofs.TableSteps.{content_below, content_above}
use Rattle.raft_log_model_laws.proofs.Summaries.{JoinFits, content_kept, entries_content, not_left}
use Rattle.raft_log_model_laws.proofs.Joins.{by_left, some_kept, none_either, stands_in}
use Rattle.raft_log_model_laws.proofs.DirectoryTable.{key_over}

-- by its parts: where the summary says nothing the table answers
word_over : {E V : Type 0} (t : Table E V) (z : Summary E V) (rewrite append : List (Item E V)) (s : Slot)
    → ((s : Slot) → content t s ≡ holds s rewrite) → IsSummary z append
    → unwrap_or (word z s) (content t s) ≡ directory s rewrite append
word_over t z rewrite append s h k = ap₂ (λ w c. unwrap_or w c) (k.says s) (h s)

-- what stands at an index of the directory, by the two tables
stands_there : {E V : Type 0} (t : Table E V) (z : Summary E V) (rewrite append : List (Item E V)) (i : ℕ)
    → ((s : Slot) → content t s ≡ holds s rewrite) → IsSummary z append
    → directory (Index i) rewrite append ≡ (if is_left z i then content t (Index i) else content z.table (Index i))
stands_there t z rewrite append i h k =
    sym (word_over t z rewrite append (Index i) h k)
    ∙ by_left (is_left z i) (content z.table (Index i)) (content t (Index i))

-- no hole lies between what Append leaves of Rewrite's entries and Append's first one
no_gap_between : {E V : Type 0} (t : Table E V) (z : Summary E V) (rewrite append : List (Item E V))
    → ((s : Slot) → content t s ≡ holds s rewrite) → IsSummary z append
    → IsSolid (λ j. directory (Index j) rewrite append) → z.cleaned ≡ false → 0 < length z.table.entries
    → is_past (span_of (cut_from (compacted t z.low) z.high)) z.table.first ≡ true → ⊥
no_gap_between {E} {V} t z rewrite append h k solid clean some past =
    let kept : Table E V = cut_from (compacted t z.low) z.high in
    let end : ℕ = kept.first + length kept.entries in
    let tests : (nat_lt kept.first end ≡ true) × (nat_lt end z.table.first ≡ true) =
    both (nat_lt kept.first end) (nat_lt end z.table.first) past in
    let old : kept.first < end = from_lt_true kept.first end tests.0 in
    let apart : end < z.table.first = from_lt_true end z.table.first tests.1 in
    let last : (e : E) × (content kept (Index (end - 1)) ≡ Some (Entry e)) =
    stands_in kept (end - 1) (omega arith) (omega arith) in
    let got : ((nat_le z.low (end - 1) && is_below (end - 1) z.high) ≡ true) × (content t (Index (end - 1)) ≡ Some (Entry last.0)) =
    some_kept (nat_le z.low (end - 1) && is_below (end - 1) z.high) (content t (Index (end - 1))) (Entry last.0)
    (sym (content_kept t z (end - 1)) ∙ last.1) in
    let under : directory (Index (end - 1)) rewrite append ≡ Some (Entry last.0) =
    stands_there t z rewrite append (end - 1) h k
    ∙ ap₂ (λ b c. if b then c else content z.table (Index (end - 1))) (ap₂ (λ c b. not c && b) clean got.0) got.1 in
    let new : (e : E) × (content z.table (Index z.table.first) ≡ Some (Entry e)) =
    stands_in z.table z.table.first (omega arith) (omega arith) in
    let over : directory (Index z.table.first) rewrite append ≡ Some (Entry new.0) =
    stands_there t z rewrite append z.table.first h k
    ∙ (if_false (is_left z z.table.first) _ _
    (not_left z.cleaned (nat_le z.low z.table.first) (is_below z.table.first z.high) (k.sound some)) ∙ new.1) in
    let there : (c : Content E V) × (directory (Index end) rewrite append ≡ Some c) =
    solid (end - 1) end z.table.first (Entry last.0) (Entry new.0) (omega arith) (omega arith) under over in
    let none : directory (Index end) rewrite append ≡ None =
    stands_there t z rewrite append end h k
    ∙ none_either (is_left z end) (nat_le z.low end && is_below end z.high) (content t (Index end)) (content z.table (Index end))
    (ap (λ c. not c && (nat_le z.low end && is_below end z.high)) clean)
    (sym (content_kept t z end) ∙ content_above kept end (omega arith)) (content_below z.table end apart) in
    none_some (directory (Index end) rewrite append) there.0 none there.1

solid_fits : {E V : Type 0} (t : Table E V) (z : Summary E V) (rewrite append : List (Item E V))
    → ((s : Slot) → content t s ≡ holds s rewrite) → IsSummary z append
    → IsSolid (λ j. directory (Index j) rewrite append) → JoinFits t z
solid_fits t z rewrite append h k solid clean some =
    at_bool (is_past (span_of (cut_from (compacted t z.low) z.high)) z.table.first)
    (λ b. is_past (span_of (cut_from (compacted t z.low) z.high)) z.table.first ≡ b → b ≡ false)
    (λ _ past. absurd (no_gap_between t z rewrite append h k solid clean some past)) (λ _ _. refl) refl

-- without a gap the rule on gaps doesn't act
same_entries : {E V : Type 0} (t : Table E V) (z : Summary E V) → JoinFits t z → directory_entries t z ≡ entries_over t z
same_entries {E} {V} t z fits =
    let old : Table E V = cut_from (compacted t z.low) z.high in
    at_bool z.cleaned
    (λ b. z.cleaned ≡ b
    → (if b then z.table
    else (if nat_lt 0 (length z.table.entries)
    then (if is_past (span_of old) z.table.first then z.table else run_onto old z.table.first z.table.entries)
    else old))
    ≡ (if b then z.table
    else (if nat_lt 0 (length z.table.entries) then run_onto old z.table.first z.table.entries else old)))
    (λ _ _. refl)
    (λ _ clean. at_bool (nat_lt 0 (length z.table.entries))
    (λ d. nat_lt 0 (length z.table.entries) ≡ d
    → (if d then (if is_past (span_of old) z.table.first then z.table else run_onto old z.table.first z.table.entries) else old)
    ≡ (if d then run_onto old z.table.first z.table.entries else old))
    (λ _ some. if_false (is_past (span_of old) z.table.first) _ _ (fits clean (from_lt_true 0 (length z.table.entries) some)))
    (λ _ _. refl) refl)
    refl

-- at an index, and under a key
pub directory_of_any : {E V : Type 0} (t : Table E V) (z : Summary E V) (rewrite append : List (Item E V))
    → ((s : Slot) → content t s ≡ holds s rewrite) → IsSummary z append
    → IsSolid (λ j. directory (Index j) rewrite append)
    → (s : Slot) → content (directory_table t z) s ≡ directory s rewrite append
directory_of_any t z rewrite append h k solid (Index i) =
    ap (λ u. content u (Index i)) (same_entries t z (solid_fits t z rewrite append h k solid))
    ∙ (entries_content t z i k.sound (solid_fits t z rewrite append h k solid)
    ∙ sym (stands_there t z rewrite append i h k))
directory_of_any t z rewrite append h k solid (Key q) =
    key_over (z.table.values q) (t.values q) (z.cleaned || z.deleted q)
    ∙ word_over t z rewrite append (Key q) h k
