-- What stands by the computed last word stands by the last item that speaks, and the other way round.
use Rattle.std.proofs.Common.{◌≡◌, ◌-◌, ◌<◌, ◌≤◌, ◌↔◌, List, [], ◌∷◌, Bool, true, false, Option, Some, None, unwrap_or, option_map, slice_get, nat_lt, nat_le, bytes_eq, if◌then◌else◌, refl, sym, ap, ap₂, ◌∙◌, arith}
use Rattle.std.specs.Option.{option_or}
use Rattle.raft_log_model_laws.specs.Item.{Item}
use Rattle.raft_log_model_laws.specs.Item.Item.{Run, Clean, Compact, Put, Del}
use Rattle.raft_log_model_laws.specs.Meaning.{Slot, Content, write, says, holds}
use Rattle.raft_log_model_laws.specs.Meaning.Slot.{Index, Key}
use Rattle.raft_log_model_laws.specs.Meaning.Content.{Entry, Value}
use Rattle.raft_log_model_laws.specs.Stands.{Speaks, Gives, NoneSpeaks, StandsIn}
use Rattle.raft_log_model_laws.proofs.Cases.{at_option, lt_true, le_true, from_le_true}
use Rattle.raft_log_model_laws.proofs.Words.{says_append}
use Rattle.raft_log_model_laws.proofs.Tests.{from_same_key, same_key, put_sets, put_leaves, del_leaves, compact_leaves, run_leaves, run_sets}

-- an item that says nothing doesn't speak
none_if : {A : Type 0} (b : Bool) (x : A) → (if b then Some x else None) ≡ None → b ≡ true → ⊥
none_if true x h k = cc
none_if false x h k = cc

pub quiet : {E V : Type 0} (s : Slot) (x : Item E V) → write s x ≡ None → Speaks s x → ⊥
quiet (Index i) (Run f []) h k = k
quiet (Index i) (Run f (e ∷ es)) h k = none_if (nat_le f i) _ h (le_true f i k)
quiet (Index i) Clean h k = cc
quiet (Index i) (Compact c) h k = none_if (nat_lt i c) _ h (lt_true i c k)
quiet (Index i) (Put l v) h k = k
quiet (Index i) (Del l) h k = k
quiet (Key q) (Run f es) h k = k
quiet (Key q) Clean h k = cc
quiet (Key q) (Compact c) h k = k
quiet (Key q) (Put l v) h k = none_if (bytes_eq l q) _ h (same_key l q k)
quiet (Key q) (Del l) h k = none_if (bytes_eq l q) _ h (same_key l q k)

-- an item that doesn't speak says nothing
pub says_nothing : {E V : Type 0} (s : Slot) (x : Item E V) → (Speaks s x → ⊥) → write s x ≡ None
says_nothing (Index i) (Run f []) h = refl
says_nothing (Index i) (Run f (e ∷ es)) h = run_leaves i f (e ∷ es) (let k : ¬ (f ≤ i) = h in omega arith)
says_nothing (Index i) Clean h = absurd (h tt)
says_nothing (Index i) (Compact c) h = compact_leaves i c (let k : ¬ (i < c) = h in omega arith)
says_nothing (Index i) (Put l v) h = refl
says_nothing (Index i) (Del l) h = refl
says_nothing (Key q) (Run f es) h = refl
says_nothing (Key q) Clean h = absurd (h tt)
says_nothing (Key q) (Compact c) h = refl
says_nothing (Key q) (Put l v) h = put_leaves l q v h
says_nothing (Key q) (Del l) h = del_leaves l q h

some_if : {A : Type 0} (b : Bool) (x : A) (y : A) → (if b then Some x else None) ≡ Some y → (b ≡ true) × (x ≡ y)
some_if true x y h = (refl, cc)
some_if false x y h = cc

an_entry : {E V : Type 0} (o : Option E) (e : E) → ◌≡◌ {A = Option (Content E V)} (option_map Entry o) (Some (Entry e)) → o ≡ Some e
an_entry None e h = cc
an_entry (Some d) e h = cc

no_value : {E V : Type 0} (o : Option E) (v : V) → ◌≡◌ {A = Option (Content E V)} (option_map Entry o) (Some (Value v)) → ⊥
no_value None v h = cc
no_value (Some d) v h = cc

not_an_entry : {E V : Type 0} (v : V) (e : E) → ◌≡◌ {A = Option (Content E V)} (Some (Value v)) (Some (Entry e)) → ⊥
not_an_entry v e h = cc

none_is_not : {A : Type 0} (x : A) → None ≡ Some x → ⊥
none_is_not x h = cc

-- an item whose word is the content gives it
pub word_gives : {E V : Type 0} (s : Slot) (c : Content E V) (x : Item E V) → write s x ≡ Some (Some c) → Gives s c x
word_gives (Index i) (Entry e) (Run f []) h = cc
word_gives (Index i) (Entry e) (Run f (d ∷ es)) h =
    let got : (nat_le f i ≡ true) × (option_map Entry (slice_get (d ∷ es) (i - f)) ≡ Some (Entry e)) = some_if (nat_le f i) _ _ h in
    (from_le_true f i got.0, an_entry (slice_get (d ∷ es) (i - f)) e got.1)
word_gives (Index i) (Value v) (Run f []) h = cc
word_gives (Index i) (Value v) (Run f (d ∷ es)) h = no_value (slice_get (d ∷ es) (i - f)) v ((some_if (nat_le f i) _ _ h).1)
word_gives (Index i) (Entry e) Clean h = cc
word_gives (Index i) (Value v) Clean h = cc
word_gives (Index i) (Entry e) (Compact c) h = none_is_not _ ((some_if (nat_lt i c) _ _ h).1)
word_gives (Index i) (Value v) (Compact c) h = none_is_not _ ((some_if (nat_lt i c) _ _ h).1)
word_gives (Index i) (Entry e) (Put l w) h = cc
word_gives (Index i) (Value v) (Put l w) h = cc
word_gives (Index i) (Entry e) (Del l) h = cc
word_gives (Index i) (Value v) (Del l) h = cc
word_gives (Key q) (Entry e) (Run f es) h = cc
word_gives (Key q) (Value v) (Run f es) h = cc
word_gives (Key q) (Entry e) Clean h = cc
word_gives (Key q) (Value v) Clean h = cc
word_gives (Key q) (Entry e) (Compact b) h = cc
word_gives (Key q) (Value v) (Compact b) h = cc
word_gives (Key q) (Value v) (Put l w) h =
    let got : (bytes_eq l q ≡ true) × (Some (Value w) ≡ Some (Value v)) = some_if (bytes_eq l q) _ _ h in
    (from_same_key l q got.0, let e = got.1 in cc)
word_gives (Key q) (Entry e) (Put l w) h = not_an_entry w e ((some_if (bytes_eq l q) _ _ h).1)
word_gives (Key q) (Entry e) (Del l) h = none_is_not _ ((some_if (bytes_eq l q) _ _ h).1)
word_gives (Key q) (Value v) (Del l) h = none_is_not _ ((some_if (bytes_eq l q) _ _ h).1)

-- an item that gives the content has it for its word
pub gives_word : {E V : Type 0} (s : Slot) (c : Content E V) (x : Item E V) → Gives s c x → write s x ≡ Some (Some c)
gives_word (Index i) (Entry e) (Run f []) h = absurd (none_is_not _ h.1)
gives_word (Index i) (Entry e) (Run f (d ∷ es)) h = run_sets i f (d ∷ es) h.0 (omega arith) ∙ ap (λ o. Some (option_map Entry o)) h.1
gives_word (Index i) (Entry e) Clean h = absurd h
gives_word (Index i) (Entry e) (Compact c) h = absurd h
gives_word (Index i) (Entry e) (Put l w) h = absurd h
gives_word (Index i) (Entry e) (Del l) h = absurd h
gives_word (Index i) (Value v) x h = absurd h
gives_word (Key q) (Value v) (Put l w) h = put_sets l q w h.0 ∙ ap (λ a. Some (Some (Value a))) h.1
gives_word (Key q) (Value v) (Run f es) h = absurd h
gives_word (Key q) (Value v) Clean h = absurd h
gives_word (Key q) (Value v) (Compact c) h = absurd h
gives_word (Key q) (Value v) (Del l) h = absurd h
gives_word (Key q) (Entry e) x h = absurd h

second_none : {A : Type 0} (p q : Option A) → option_or p q ≡ None → (p ≡ None) × (q ≡ None)
second_none None q h = (refl, h)
second_none (Some x) q h = cc

pub none_speaks : {E V : Type 0} (s : Slot) (xs : List (Item E V)) → says s xs ≡ None → NoneSpeaks s xs
none_speaks s [] h = tt
none_speaks s (x ∷ xs) h =
    let parts : (says s xs ≡ None) × (write s x ≡ None) = second_none (says s xs) (write s x) h in
    (quiet s x parts.1, none_speaks s xs parts.0)

pub none_said : {E V : Type 0} (s : Slot) (xs : List (Item E V)) → NoneSpeaks s xs → says s xs ≡ None
none_said s [] h = refl
none_said s (x ∷ xs) h = ap₂ option_or (none_said s xs h.1) (says_nothing s x h.0)

longer : {E V : Type 0} (s : Slot) (c : Content E V) (x : Item E V) (xs : List (Item E V)) → StandsIn s c xs → StandsIn s c (x ∷ xs)
longer s c x xs h = record {
  before = x ∷ h.before;
  last = h.last;
  later = h.later;
  is_all = ap (λ ys. x ∷ ys) h.is_all;
  gives = h.gives;
  silent = h.silent;
}

held : {A : Type 0} (o : Option (Option A)) (c : A) → unwrap_or o None ≡ Some c → o ≡ Some (Some c)
held None c h = cc
held (Some p) c h = ap Some h

by_last : {E V : Type 0} (s : Slot) (c : Content E V) (x : Item E V) (xs : List (Item E V))
    → (says s xs ≡ Some (Some c) → StandsIn s c xs) → option_or (says s xs) (write s x) ≡ Some (Some c) → StandsIn s c (x ∷ xs)
by_last s c x xs rest =
    at_option (says s xs) (λ o. (o ≡ says s xs) → option_or o (write s x) ≡ Some (Some c) → StandsIn s c (x ∷ xs))
    (λ _ e h. record { before = []; last = x; later = xs; is_all = refl; gives = word_gives s c x h; silent = none_speaks s xs (sym e) })
    (λ w _ e h. longer s c x xs (rest (sym e ∙ h))) refl

-- what the last word says stands
pub word_stands : {E V : Type 0} (s : Slot) (c : Content E V) (xs : List (Item E V)) → says s xs ≡ Some (Some c) → StandsIn s c xs
word_stands s c [] h = absurd (none_is_not _ h)
word_stands s c (x ∷ xs) h = by_last s c x xs (word_stands s c xs) h

pub stands : {E V : Type 0} (s : Slot) (c : Content E V) (xs : List (Item E V)) → holds s xs ≡ Some c → StandsIn s c xs
stands s c xs h = word_stands s c xs (held (says s xs) c h)

pub stood : {E V : Type 0} (s : Slot) (c : Content E V) (xs : List (Item E V)) → StandsIn s c xs → holds s xs ≡ Some c
stood s c xs h =
    ap (λ ys. holds s ys) h.is_all
    ∙ ap (λ o. unwrap_or o None)
    (says_append s h.before (h.last ∷ h.later)
    ∙ ap (λ o. option_or o (says s h.before))
    (ap (λ o. option_or o (write s h.last)) (none_said s h.later h.silent) ∙ gives_word s c h.last h.gives))

pub stands_exactly : {E V : Type 0} (s : Slot) (c : Content E V) (xs : List (Item E V)) → (holds s xs ≡ Some c) ↔ StandsIn s c xs
stands_exactly s c xs = (stands s c xs, stood s c xs)
