-- Consecutive segments of a list without holes, summed up and joined in any bracketing, say what the whole list says.
use Rattle.std.proofs.Common.{◌≡◌, ℕ, ◌+◌, ◌-◌, ◌<◌, ◌≤◌, List, ◌++◌, length, Bool, true, false, not, ◌&&◌, Option, Some, None, unwrap_or, nat_lt, nat_le, if◌then◌else◌, refl, sym, ap, ap₂, subst, ◌∙◌, arith}
use Rattle.std.specs.Option.{option_or}
use Rattle.raft_log_model_laws.specs.Item.{Item}
use Rattle.raft_log_model_laws.specs.Meaning.{Slot, Content, says, holds}
use Rattle.raft_log_model_laws.specs.Meaning.Slot.{Index}
use Rattle.raft_log_model_laws.specs.Meaning.Content.{Entry}
use Rattle.raft_log_model_laws.specs.Holes.{Spans, nothing, is_past, window, NoHole, is_below}
use Rattle.raft_log_model_laws.specs.Fragments.{Bracketing, all_of}
use Rattle.raft_log_model_laws.specs.Fragments.Bracketing.{One, Both}
use Rattle.raft_log_model_laws.specs.Table.{Table, content, span_of, compacted, cut_from}
use Rattle.raft_log_model_laws.specs.Summary.{IsSummary, Summary, no_summary, summary, is_left, word, join, join_all}
use Rattle.raft_log_model_laws.proofs.Cases.{at_bool, if_false, from_lt_true, both, none_some}
use Rattle.raft_log_model_laws.proofs.Words.{says_append, unwrap_or_option_or}
use Rattle.raft_log_model_laws.proofs.Holes.{no_hole_front, no_hole_later}
use Rattle.raft_log_model_laws.proofs.Windows.{one_run_fits, inside}
use Rattle.raft_log_model_laws.proofs.TableSteps.{content_below, content_within, content_above}
use Rattle.raft_log_model_laws.proofs.Summaries.{JoinFits, sound_after, summary_says, content_word, content_kept, join_word, join_sound, bound_rises, not_left}

pub by_left : {A : Type 0} (b : Bool) (c d : Option A) → unwrap_or (if b then None else Some c) d ≡ (if b then d else c)
by_left true c d = refl
by_left false c d = refl

pub some_kept : {A : Type 0} (b : Bool) (c : Option A) (x : A) → (if b then c else None) ≡ Some x → (b ≡ true) × (c ≡ Some x)
some_kept true c x h = (refl, h)
some_kept false c x h = cc

pub none_either : {A : Type 0} (left kept : Bool) (c d : Option A) → left ≡ kept → (if kept then c else None) ≡ None → d ≡ None → (if left then c else d) ≡ None
none_either true true c d e h k = h
none_either true false c d e h k = cc
none_either false kept c d e h k = k

low_case : (i first : ℕ) → (i < first → ⊥) → first ≤ i
low_case i first h = let k : ¬ (i < first) = h in omega arith

high_case : (i end : ℕ) → (end ≤ i → ⊥) → i < end
high_case i end h = let k : ¬ (end ≤ i) = h in omega arith

-- what its table holds is what stands after the segment
pub table_holds : {E V : Type 0} (z : Summary E V) (xs : List (Item E V)) (s : Slot) → IsSummary z xs → content z.table s ≡ holds s xs
table_holds z xs s h = content_word z s h.sound ∙ ap (λ a. unwrap_or a None) (h.says s)

pub is_summary : {E V : Type 0} (xs : List (Item E V)) → NoHole nothing xs → IsSummary (summary xs) xs
is_summary xs h = record { sound = sound_after no_summary xs (λ n. absurd (omega arith)); says = λ s. summary_says xs s h }

-- what stands after two segments, by their tables
two_hold : {E V : Type 0} (a z : Summary E V) (xs ys : List (Item E V)) (i : ℕ) → IsSummary a xs → IsSummary z ys
    → holds (Index i) (xs ++ ys) ≡ (if is_left z i then content a.table (Index i) else content z.table (Index i))
two_hold a z xs ys i p q =
    ap (λ o. unwrap_or o None) (says_append (Index i) xs ys)
    ∙ (unwrap_or_option_or (says (Index i) ys) (says (Index i) xs) None
    ∙ (ap₂ (λ o c. unwrap_or o c) (sym (q.says (Index i))) (sym (table_holds a xs (Index i) p))
    ∙ by_left (is_left z i) (content z.table (Index i)) (content a.table (Index i))))

pub stands_in : {E V : Type 0} (t : Table E V) (i : ℕ) → t.first ≤ i → i < t.first + length t.entries → (e : E) × (content t (Index i) ≡ Some (Entry e))
stands_in t i h k = ((inside i t.first t.entries h k).0, content_within t i h ∙ (inside i t.first t.entries h k).1)

-- what stands in what is left of the earlier table is left alone by the later segment, and stands in both
left_stands : {E V : Type 0} (a z : Summary E V) (xs ys : List (Item E V)) (i : ℕ) → IsSummary a xs → IsSummary z ys → z.cleaned ≡ false
    → (e : E) → content (cut_from (compacted a.table z.low) z.high) (Index i) ≡ Some (Entry e) → holds (Index i) (xs ++ ys) ≡ Some (Entry e)
left_stands a z xs ys i p q clean e h =
    let got : ((nat_le z.low i && is_below i z.high) ≡ true) × (content a.table (Index i) ≡ Some (Entry e)) =
    some_kept (nat_le z.low i && is_below i z.high) (content a.table (Index i)) (Entry e) (sym (content_kept a.table z i) ∙ h) in
    two_hold a z xs ys i p q
    ∙ (ap₂ (λ b c. if b then c else content z.table (Index i)) (ap₂ (λ c b. not c && b) clean got.0) got.1)

-- between what is left of the earlier table and the later run nothing stands
between_none : {E V : Type 0} (a z : Summary E V) (xs ys : List (Item E V)) (i : ℕ) → IsSummary a xs → IsSummary z ys → z.cleaned ≡ false
    → content (cut_from (compacted a.table z.low) z.high) (Index i) ≡ None → content z.table (Index i) ≡ None → holds (Index i) (xs ++ ys) ≡ None
between_none a z xs ys i p q clean h k =
    two_hold a z xs ys i p q
    ∙ none_either (is_left z i) (nat_le z.low i && is_below i z.high) (content a.table (Index i)) (content z.table (Index i))
    (ap (λ c. not c && (nat_le z.low i && is_below i z.high)) clean) (sym (content_kept a.table z i) ∙ h) k

later_stands : {E V : Type 0} (a z : Summary E V) (xs ys : List (Item E V)) (i : ℕ) → IsSummary a xs → IsSummary z ys
    → z.table.first ≤ i → i < z.table.first + length z.table.entries → (e : E) × (holds (Index i) (xs ++ ys) ≡ Some (Entry e))
later_stands a z xs ys i p q h k =
    let new : (e : _) × (content z.table (Index i) ≡ Some (Entry e)) = stands_in z.table i h k in (
      new.0,
      two_hold a z xs ys i p q
          ∙ (if_false (is_left z i) _ _ (not_left z.cleaned (nat_le z.low i) (is_below i z.high) (bound_rises z.table.first i z.high h (q.sound (omega arith)))) ∙ new.1),
    )

-- what stands lies within the one run
within_low : {E V : Type 0} (first end : ℕ) (m : ℕ → Option (Content E V)) (i : ℕ) (e : E) → Spans first end m → m i ≡ Some (Entry e) → first ≤ i
within_low first end m i e sp h = low_case i first (λ k. none_some (m i) _ (sp.none_below i k) h)

within_high : {E V : Type 0} (first end : ℕ) (m : ℕ → Option (Content E V)) (i : ℕ) (e : E) → Spans first end m → m i ≡ Some (Entry e) → i < end
within_high first end m i e sp h = high_case i end (λ k. none_some (m i) _ (sp.none_above i k) h)

no_hole_between : {E V : Type 0} (a z : Summary E V) (xs ys : List (Item E V)) → IsSummary a xs → IsSummary z ys → NoHole nothing (xs ++ ys)
    → z.cleaned ≡ false → 0 < length z.table.entries
    → is_past (span_of (cut_from (compacted a.table z.low) z.high)) z.table.first ≡ true → ⊥
no_hole_between a z xs ys p q h clean some past =
    let t : Table _ _ = cut_from (compacted a.table z.low) z.high in
    let end : ℕ = t.first + length t.entries in
    let m : ℕ → Option _ = λ i. holds (Index i) (xs ++ ys) in
    let tests : (nat_lt t.first end ≡ true) × (nat_lt end z.table.first ≡ true) = both (nat_lt t.first end) (nat_lt end z.table.first) past in
    let old : t.first < end = from_lt_true t.first end tests.0 in
    let apart : end < z.table.first = from_lt_true end z.table.first tests.1 in
    let last : (e : _) × (content t (Index (end - 1)) ≡ Some (Entry e)) = stands_in t (end - 1) (omega arith) (omega arith) in
    let under : m (end - 1) ≡ Some (Entry last.0) = left_stands a z xs ys (end - 1) p q clean last.0 last.1 in
    let over : (e : _) × (m z.table.first ≡ Some (Entry e)) = later_stands a z xs ys z.table.first p q (omega arith) (omega arith) in
    let sp : Spans (window nothing (xs ++ ys)).first (window nothing (xs ++ ys)).end m = one_run_fits (xs ++ ys) h in
    let low : (window nothing (xs ++ ys)).first ≤ end - 1 = within_low _ _ m (end - 1) last.0 sp under in
    let high : z.table.first < (window nothing (xs ++ ys)).end = within_high _ _ m z.table.first over.0 sp over.1 in
    let there : (e : _) × (m end ≡ Some (Entry e)) = sp.stands end (omega arith) (omega arith) in
    none_some (m end) (Entry there.0) (between_none a z xs ys end p q clean (content_above t end (omega arith)) (content_below z.table end apart)) there.1

pub join_fits : {E V : Type 0} (a z : Summary E V) (xs ys : List (Item E V)) → IsSummary a xs → IsSummary z ys → NoHole nothing (xs ++ ys)
    → JoinFits a.table z
join_fits a z xs ys p q h clean some =
    at_bool (is_past (span_of (cut_from (compacted a.table z.low) z.high)) z.table.first)
    (λ b. is_past (span_of (cut_from (compacted a.table z.low) z.high)) z.table.first ≡ b → b ≡ false)
    (λ _ past. absurd (no_hole_between a z xs ys p q h clean some past)) (λ _ _. refl) refl

-- two summaries joined sum up both segments
pub join_is_summary : {E V : Type 0} (a z : Summary E V) (xs ys : List (Item E V)) → IsSummary a xs → IsSummary z ys → NoHole nothing (xs ++ ys)
    → IsSummary (join a z) (xs ++ ys)
join_is_summary a z xs ys p q h = record {
  sound = join_sound a z p.sound q.sound;
  says = λ s. join_word a z s q.sound (join_fits a z xs ys p q h) ∙ (ap₂ option_or (q.says s) (p.says s) ∙ sym (says_append s xs ys));
}

-- any bracketing
pub all_joined : {E V : Type 0} (t : Bracketing (Item E V)) → NoHole nothing (all_of t) → IsSummary (join_all t) (all_of t)
all_joined (One xs) h = is_summary xs h
all_joined (Both s t) h =
    join_is_summary (join_all s) (join_all t) (all_of s) (all_of t)
    (all_joined s (no_hole_front nothing (all_of s) (all_of t) h)) (all_joined t (no_hole_later (all_of s) (all_of t) h)) h

pub bracketing_word : {E V : Type 0} (t : Bracketing (Item E V)) (s : Slot) → NoHole nothing (all_of t) → word (join_all t) s ≡ says s (all_of t)
bracketing_word t s h = (all_joined t h).says s

pub bracketing_table : {E V : Type 0} (t : Bracketing (Item E V)) (s : Slot) → NoHole nothing (all_of t) → content (join_all t).table s ≡ holds s (all_of t)
bracketing_table t s h = table_holds (join_all t) (all_of t) s (all_joined t h)

pub bracketings_agree : {E V : Type 0} (t u : Bracketing (Item E V)) (s : Slot) → all_of t ≡ all_of u → NoHole nothing (all_of t)
    → content (join_all t).table s ≡ content (join_all u).table s
bracketings_agree t u s e h =
    bracketing_table t s h ∙ (ap (λ xs. holds s xs) e ∙ sym (bracketing_table u s (subst (λ xs. NoHole nothing xs) e h)))
