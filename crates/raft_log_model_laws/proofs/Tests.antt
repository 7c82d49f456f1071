-- What one item says of a slot, each fact once: the rest of the proofs cites these and never looks into `write`.
use Rattle.std.proofs.Common.{◌≡◌, ℕ, ◌+◌, ◌-◌, ◌<◌, ◌≤◌, List, [], ◌∷◌, length, Bool, true, false, Option, Some, None, option_map, slice_get, nat_lt, nat_le, bytes_eq, refl, ap, ◌∙◌, arith}
use Rattle.std.proofs.lemmas.Option.{slice_get_past}
use Rattle.std.proofs.lemmas.Slice.Eq.{bytes_eq-Decides}
use Rattle.raft_log_model_laws.specs.Item.Item.{Run, Compact, Put, Del}
use Rattle.raft_log_model_laws.specs.Meaning.{Content, write}
use Rattle.raft_log_model_laws.specs.Meaning.Slot.{Index, Key}
use Rattle.raft_log_model_laws.specs.Meaning.Content.{Entry, Value}
use Rattle.raft_log_model_laws.proofs.Cases.{if_true, if_false, lt_true, lt_false, le_true, le_false}

-- no entry stands at an index past a run's last
pub past_the_end : {E V : Type 0} (f i : ℕ) (es : List E) → f + length es ≤ i → ◌≡◌ {A = Option (Content E V)} (option_map Entry (slice_get es (i - f))) None
past_the_end f i es h = ap (option_map Entry) (slice_get_past es (i - f) (omega arith))

pub run_sets : {E V : Type 0} (i f : ℕ) (es : List E) → f ≤ i → 0 < length es
    → write {V = V} (Index i) (Run f es) ≡ Some (option_map Entry (slice_get es (i - f)))
run_sets i f [] h n = absurd (omega arith)
run_sets i f (e ∷ es) h n = if_true (nat_le f i) _ _ (le_true f i h)

pub run_truncates : {E V : Type 0} (i f : ℕ) (es : List E) → f + length es ≤ i → 0 < length es → write {V = V} (Index i) (Run f es) ≡ Some None
run_truncates i f es h n = run_sets i f es (omega arith) n ∙ ap Some (past_the_end f i es h)

pub run_leaves : {E V : Type 0} (i f : ℕ) (es : List E) → i < f → write {V = V} (Index i) (Run f es) ≡ None
run_leaves i f [] h = refl
run_leaves i f (e ∷ es) h = if_false (nat_le f i) _ _ (le_false f i h)

pub compact_removes : {E V : Type 0} (i c : ℕ) → i < c → write {E = E} {V = V} (Index i) (Compact c) ≡ Some None
compact_removes i c h = if_true (nat_lt i c) _ _ (lt_true i c h)

pub compact_leaves : {E V : Type 0} (i c : ℕ) → c ≤ i → write {E = E} {V = V} (Index i) (Compact c) ≡ None
compact_leaves i c h = if_false (nat_lt i c) _ _ (lt_false i c h)

pub same_key : (l k : List ℕ) → l ≡ k → bytes_eq l k ≡ true
same_key l k h = (bytes_eq-Decides l k).1 h

other_test : (b : Bool) → (b ≡ true → ⊥) → b ≡ false
other_test true h = absurd (h refl)
other_test false h = refl

pub other_key : (l k : List ℕ) → (l ≡ k → ⊥) → bytes_eq l k ≡ false
other_key l k h = other_test _ (λ e. h ((bytes_eq-Decides l k).0 e))

pub from_same_key : (l k : List ℕ) → bytes_eq l k ≡ true → l ≡ k
from_same_key l k h = (bytes_eq-Decides l k).0 h

pub put_sets : {E V : Type 0} (l k : List ℕ) (v : V) → l ≡ k → write {E = E} (Key k) (Put l v) ≡ Some (Some (Value v))
put_sets l k v h = if_true (bytes_eq l k) _ _ (same_key l k h)

pub put_leaves : {E V : Type 0} (l k : List ℕ) (v : V) → (l ≡ k → ⊥) → write {E = E} (Key k) (Put l v) ≡ None
put_leaves l k v h = if_false (bytes_eq l k) _ _ (other_key l k h)

pub del_leaves : {E V : Type 0} (l k : List ℕ) → (l ≡ k → ⊥) → write {E = E} {V = V} (Key k) (Del l) ≡ None
del_leaves l k h = if_false (bytes_eq l k) _ _ (other_key l k h)
