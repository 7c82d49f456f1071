-- A directory's meaning by the last word, and by intervals of indexes, are one.
use Rattle.std.proofs.Common.{◌≡◌, ℕ, ◌-◌, ◌<◌, ◌≤◌, max, min, List, [], ◌∷◌, Bool, true, false, not, ◌&&◌, Option, Some, None, is_none, unwrap_or, nat_lt, nat_le, if◌then◌else◌, refl, sym, ap, ap₂, ◌∙◌, arith}
use Rattle.std.proofs.lemmas.Bool.Decides.{nat_tests}
use Rattle.std.specs.Option.{option_or}
use Rattle.raft_log_model_laws.specs.Item.{Item}
use Rattle.raft_log_model_laws.specs.Item.Item.{Run, Clean, Compact, Put, Del}
use Rattle.raft_log_model_laws.specs.Meaning.{Slot, Content, says, holds, directory}
use Rattle.raft_log_model_laws.specs.Meaning.Slot.{Index}
use Rattle.raft_log_model_laws.specs.Meaning.Content.{Entry}
use Rattle.raft_log_model_laws.specs.Holes.{Window, nothing, window, holds_past, NoHole, has_clean, low, least, high, is_below, is_silent, has_gap, directory_by_intervals, IsSolid}
use Rattle.raft_log_model_laws.proofs.Cases.{at_bool, at_option, lt_true, le_true, from_lt_true, both, none_some, and_true}
use Rattle.raft_log_model_laws.proofs.Words.{option_or_none}
use Rattle.raft_log_model_laws.proofs.Holes.{no_hole}
use Rattle.raft_log_model_laws.proofs.Windows.{one_run_fits}

none_of_two : {A : Type 0} (p q : Option A) → is_none (option_or p q) ≡ (is_none p && is_none q)
none_of_two None q = refl
none_of_two (Some x) q = refl

none_if : {A : Type 0} (b : Bool) (x : A) → is_none (if b then Some x else None) ≡ not b
none_if true x = refl
none_if false x = refl

and_comm : (a b : Bool) → (a && b) ≡ (b && a)
and_comm true true = refl
and_comm true false = refl
and_comm false true = refl
and_comm false false = refl

lt_min : (i f b : ℕ) → nat_lt i (min f b) ≡ (nat_lt i f && nat_lt i b)
lt_min i f b = grind (arith, nat_tests)

below_least : (i f : ℕ) (o : Option ℕ) → nat_lt i (least f o) ≡ (nat_lt i f && is_below i o)
below_least i f None = and_true (nat_lt i f)
below_least i f (Some b) = lt_min i f b

above_max : (c l i : ℕ) → nat_le (max c l) i ≡ (nat_le c i && nat_le l i)
above_max c l i = grind (arith, nat_tests)

past_not : (f i : ℕ) → not (nat_le f i) ≡ nat_lt i f
past_not f i = grind (arith, nat_tests)

not_past : (i c : ℕ) → not (nat_lt i c) ≡ nat_le c i
not_past i c = grind (arith, nat_tests)

a_run : (c l b t : Bool) → ((not c && (l && b)) && t) ≡ (not c && (l && (t && b)))
a_run true l b t = refl
a_run false true b t = and_comm b t
a_run false false b t = refl

a_compact : (c l b t : Bool) → ((not c && (l && b)) && t) ≡ (not c && ((t && l) && b))
a_compact true l b t = refl
a_compact false true true true = refl
a_compact false true true false = refl
a_compact false true false true = refl
a_compact false true false false = refl
a_compact false false b true = refl
a_compact false false b false = refl

and_false : (b : Bool) → (b && false) ≡ false
and_false true = refl
and_false false = refl

-- a list says nothing of an index exactly where the intervals leave it alone
pub silence : {E V : Type 0} (xs : List (Item E V)) (i : ℕ) → is_none (says (Index i) xs) ≡ is_silent xs i
silence [] i = sym (ap (λ b. b && true) (le_true 0 i (omega arith)))
silence (Run f [] ∷ xs) i = ap is_none (option_or_none (says (Index i) xs)) ∙ silence xs i
silence (Run f (e ∷ es) ∷ xs) i =
    none_of_two (says (Index i) xs) _
    ∙ (ap₂ (λ a b. a && b) (silence xs i) (none_if (nat_le f i) _ ∙ past_not f i)
    ∙ (a_run (has_clean xs) (nat_le (low xs) i) (is_below i (high xs)) (nat_lt i f)
    ∙ ap (λ b. not (has_clean xs) && (nat_le (low xs) i && b)) (sym (below_least i f (high xs)))))
silence (Clean ∷ xs) i = none_of_two (says (Index i) xs) _ ∙ and_false (is_none (says (Index i) xs))
silence (Compact c ∷ xs) i =
    none_of_two (says (Index i) xs) _
    ∙ (ap₂ (λ a b. a && b) (silence xs i) (none_if (nat_lt i c) _ ∙ not_past i c)
    ∙ (a_compact (has_clean xs) (nat_le (low xs) i) (is_below i (high xs)) (nat_le c i)
    ∙ ap (λ b. not (has_clean xs) && (b && is_below i (high xs))) (sym (above_max c (low xs) i))))
silence (Put k v ∷ xs) i = ap is_none (option_or_none (says (Index i) xs)) ∙ silence xs i
silence (Del k ∷ xs) i = ap is_none (option_or_none (says (Index i) xs)) ∙ silence xs i

min_is_first : (n b : ℕ) → min n b < b → n ≤ min n b
min_is_first n b h = omega arith

-- a word, and whether Rewrite's content is kept
by_word : {A : Type 0} (o : Option (Option A)) (silent gap : Bool) (p q : Option A)
    → is_none o ≡ silent → (silent ≡ true → gap ≡ false) → p ≡ q
    → option_or (unwrap_or o None) (if silent && not gap then p else None) ≡ unwrap_or o q
by_word None true true p q h g e = let z : true ≡ false = g refl in cc
by_word None true false p q h g e = e
by_word None false gap p q h g e = cc
by_word (Some None) true gap p q h g e = cc
by_word (Some None) false gap p q h g e = refl
by_word (Some (Some x)) silent gap p q h g e = refl

-- where no gap stays, the two are one
pub by_intervals : {E V : Type 0} (i : ℕ) (r a : List (Item E V)) → NoHole nothing r → has_gap (window nothing r) a ≡ false
    → directory_by_intervals i r a ≡ directory (Index i) r a
by_intervals i r a h g =
    by_word (says (Index i) a) (is_silent a i) (has_gap (window nothing r) a) (holds_past (Index i) r) (holds (Index i) r) (silence a i) (λ _. g)
    (ap (λ o. unwrap_or o None) (no_hole nothing (Index i) r h))

not_true : (a : Bool) → not a ≡ true → a ≡ false
not_true true h = cc
not_true false h = refl

from_none : {A : Type 0} (o : Option A) → is_none o ≡ true → o ≡ None
from_none None h = refl
from_none (Some x) h = cc

pub least_is_low : (n : ℕ) (o : Option ℕ) → least n o ≤ n
least_is_low n None = omega arith
least_is_low n (Some b) = omega arith

below_bound : (i n : ℕ) (o : Option ℕ) → i < least n o → is_below i o ≡ true
below_bound i n None h = refl
below_bound i n (Some b) h = lt_true i b (omega arith)

at_the_end : (n : ℕ) (o : Option ℕ) → is_below (least n o) o ≡ true → n ≤ least n o
at_the_end n None h = omega arith
at_the_end n (Some b) h = min_is_first n b (from_lt_true (min n b) b h)

-- what Append holds stands in the directory
pub append_decides : {E V : Type 0} (s : Slot) (r a : List (Item E V)) (x : Content E V) → holds s a ≡ Some x → directory s r a ≡ Some x
append_decides s r a x h =
    at_option (says s a) (λ o. unwrap_or o None ≡ Some x → unwrap_or o (holds s r) ≡ Some x) (λ _ k. cc) (λ p _ k. k) h

-- where Append says nothing Rewrite answers
pub rewrite_answers : {E V : Type 0} (s : Slot) (r a : List (Item E V)) → says s a ≡ None → directory s r a ≡ holds s r
rewrite_answers s r a h = ap (λ o. unwrap_or o (holds s r)) h

-- what stands although Append doesn't hold it: Append says nothing of it, and Rewrite holds it
from_rewrite : {A : Type 0} (o : Option (Option A)) (q : Option A) (x : A) → unwrap_or o None ≡ None → unwrap_or o q ≡ Some x → (is_none o ≡ true) × (q ≡ Some x)
from_rewrite None q x h k = (refl, k)
from_rewrite (Some None) q x h k = cc
from_rewrite (Some (Some y)) q x h k = cc

-- what is left of Rewrite's run stands
kept_stands : {E V : Type 0} (r a : List (Item E V)) (j : ℕ) → NoHole nothing r → has_clean a ≡ false
    → max (window nothing r).first (low a) ≤ j → j < least (window nothing r).end (high a)
    → (e : E) × (directory (Index j) r a ≡ Some (Entry e))
kept_stands r a j h clean lo hi =
    let quiet : is_silent a j ≡ true =
    ap₂ (λ b c. not b && c) clean (ap₂ (λ b c. b && c) (le_true (low a) j (omega arith)) (below_bound j (window nothing r).end (high a) hi)) in
    let silent : says (Index j) a ≡ None = from_none (says (Index j) a) (silence a j ∙ quiet) in
    let there : (e : _) × (holds (Index j) r ≡ Some (Entry e)) =
    (one_run_fits r h).stands j (omega arith) (omega (arith, least_is_low (window nothing r).end (high a))) in
    (there.0, rewrite_answers (Index j) r a silent ∙ there.1)

-- between what is left of Rewrite's run and Append's first entry nothing stands
gap_is_empty : {E V : Type 0} (r a : List (Item E V)) (x : Content E V) → NoHole nothing r → NoHole nothing a
    → least (window nothing r).end (high a) < (window nothing a).first
    → directory (Index (least (window nothing r).end (high a))) r a ≡ Some x → ⊥
gap_is_empty r a x hr ha below stands =
    let j : ℕ = least (window nothing r).end (high a) in
    let from : (is_none (says (Index j) a) ≡ true) × (holds (Index j) r ≡ Some x) =
    from_rewrite (says (Index j) a) (holds (Index j) r) x ((one_run_fits a ha).none_below j below) stands in
    let parts : (nat_le (low a) j ≡ true) × (is_below j (high a) ≡ true) =
    both _ _ ((both _ _ (sym (silence a j) ∙ from.0)).1) in
    let none : holds (Index j) r ≡ None = (one_run_fits r hr).none_above j (at_the_end (window nothing r).end (high a) parts.1) in
    none_some _ x none from.1

-- a map without a hole leaves no gap
no_gap : {E V : Type 0} (i : ℕ) (r a : List (Item E V)) → NoHole nothing r → NoHole nothing a
    → IsSolid (λ j. directory (Index j) r a) → is_silent a i ≡ true → has_gap (window nothing r) a ≡ true → ⊥
no_gap i r a hr ha solid silent gap =
    let w : Window = window nothing r in
    let v : Window = window nothing a in
    let clean : has_clean a ≡ false = not_true _ ((both _ _ silent).0) in
    let hi : ℕ = least w.end (high a) in
    let parts : (nat_lt (max w.first (low a)) hi ≡ true) × ((nat_lt v.first v.end && nat_lt hi v.first) ≡ true) = both _ _ gap in
    let tests : (nat_lt v.first v.end ≡ true) × (nat_lt hi v.first ≡ true) = both _ _ parts.1 in
    let left : max w.first (low a) < hi = from_lt_true _ _ parts.0 in
    let some : v.first < v.end = from_lt_true _ _ tests.0 in
    let apart : hi < v.first = from_lt_true _ _ tests.1 in
    let under : (e : _) × (directory (Index (hi - 1)) r a ≡ Some (Entry e)) = kept_stands r a (hi - 1) hr clean (omega arith) (omega arith) in
    let new : (e : _) × (holds (Index v.first) a ≡ Some (Entry e)) = (one_run_fits a ha).stands v.first (omega arith) some in
    let between : (c : _) × (directory (Index hi) r a ≡ Some c) =
    solid (hi - 1) hi v.first _ _ (omega arith) (omega arith) under.1 (append_decides (Index v.first) r a _ new.1) in
    gap_is_empty r a between.0 hr ha apart between.1

-- where no run leaves a hole and what stands leaves none, the two are one
pub by_intervals_solid : {E V : Type 0} (i : ℕ) (r a : List (Item E V)) → NoHole nothing r → NoHole nothing a
    → IsSolid (λ j. directory (Index j) r a) → directory_by_intervals i r a ≡ directory (Index i) r a
by_intervals_solid i r a hr ha solid =
    by_word (says (Index i) a) (is_silent a i) (has_gap (window nothing r) a) (holds_past (Index i) r) (holds (Index i) r) (silence a i)
    (λ silent. at_bool (has_gap (window nothing r) a) (λ b. has_gap (window nothing r) a ≡ b → b ≡ false) (λ _ g. absurd (no_gap i r a hr ha solid silent g)) (λ _ _. refl) refl)
    (ap (λ o. unwrap_or o None) (no_hole nothing (Index i) r hr))
