-- What the judge reads of slots is what the contents have; and what contents have was written.
use Rattle.std.proofs.Common.{◌≡◌, ◌⊎◌, ◌↔◌, ◌≤◌, ◌<◌, ◌-◌, ◌+◌, ℕ, suc, Bool, true, false, List, [], ◌∷◌, length, map, drop, get_or, Option, None, Some, unwrap_or, inl, inr, append-nil, ap, refl, sym, subst, ◌∙◌, arith, if◌then◌else◌, ◌==◌, nat_lt, nat_le, option_map, slice_get, bytes_eq}
use Rattle.std.specs.Global.{Vec}
use Rattle.std.specs.Prelude.{◌||◌}
use Rattle.std.proofs.lemmas.List.{drop_more}
use Rattle.std.proofs.lemmas.Option.{slice_get_cases}
use Rattle.std.proofs.lemmas.Slice.Eq.{bytes_eq-Decides}
use Rattle.raft_log_model_laws.specs.Item.{Item, Tagged}
use Rattle.raft_log_model_laws.specs.Item.Item.{Run, Clean, Compact, Put, Del}
use Rattle.raft_log_model_laws.specs.Groups.{of_group, taken}
use Rattle.raft_log_model_laws.specs.Meaning.{Content, Slot, after, write}
use Rattle.raft_log_model_laws.specs.Meaning.Slot.{Index, Key}
use Rattle.raft_log_model_laws.specs.Meaning.Content.{Entry, Value}
use Rattle.raft_log_model_laws.proofs.Public.{after_append, eq_false, from_eq_true, from_le_true, from_lt_false, from_lt_true, if_false, if_true, le_false, le_true}
use Rattle.raft_log_world.specs.Reads.{Contents, HasNone, all_bytes}
use Rattle.raft_log_judge.specs.declared.change.Change.{Change}
use Rattle.raft_log_judge.specs.Changes.{says_of, tagged}
use Rattle.raft_log_judge.specs.Contents.{AllGone, IsBefore, IsGone, NoneIn, after_all}
use Rattle.raft_log_judge.specs.Folds.{entry_step, folded, folded_all, in_group, is_same, value_step}
use Rattle.raft_log_judge.specs.Judging.{no_contents}
use Rattle.raft_log_judge.proofs.Viewing.{taken_twice}

abbrev Slots : Type 0
Slots = Slot → Option (Content (List ℕ) (List ℕ))

abbrev As : Type 0
As = List ℕ → Content (List ℕ) (List ℕ)

-- the flag says whether the content is what is wanted
abbrev pub Agrees : As → Option (List ℕ) → Bool → Option (Content (List ℕ) (List ℕ)) → Type 0
Agrees shape want flag content = (flag ≡ true) ↔ (content ≡ option_map shape want)

-- The same bytes, as entries or as values.

module _ (shape : As) (one : (a b : List ℕ) → shape a ≡ shape b → a ≡ b) where
  same_agrees : (found want : Option (List ℕ)) → Agrees shape want (is_same found want) (option_map shape found)
  same_agrees None None = (λ yes. refl, λ is. refl)
  same_agrees None (Some want) = (λ yes. absurd (let never : ⊥ = cc in never), λ is. absurd (let never : ⊥ = cc in never))
  same_agrees (Some bytes) None = (λ yes. absurd (let never : ⊥ = cc in never), λ is. absurd (let never : ⊥ = cc in never))
  same_agrees (Some bytes) (Some want) = (
    λ yes. ap (λ (b : List ℕ). Some (shape b)) ((bytes_eq-Decides bytes want).0 yes),
    λ is. (bytes_eq-Decides bytes want).1 (one bytes want (let same : shape bytes ≡ shape want = cc in same)),
  )

abbrev entry_of : As
entry_of bytes = Entry bytes

abbrev value_of : As
value_of bytes = Value bytes

one_entry : (a b : List ℕ) → entry_of a ≡ entry_of b → a ≡ b
one_entry a b is = cc

one_value : (a b : List ℕ) → value_of a ≡ value_of b → a ≡ b
one_value a b is = cc

-- flags

pub to_not : (b : Bool) → b ≡ false → b ≡ true → ⊥
to_not b off on = let same : false ≡ true = sym off ∙ on in let never : ⊥ = cc in never

-- Lists.

-- the element at an index, and those after it
pub first_left : {X : Type 0} (xs : List X) (i : ℕ) (d x : X) → i < length xs → x ≡ get_or xs i d → drop i xs ≡ x ∷ drop (i + 1) xs
first_left {X} xs i d x lt is = drop_more xs i d lt ∙ ap (λ (y : X). y ∷ drop (i + 1) xs) (sym is)

pub empty_list : {X : Type 0} (xs : List X) → length xs ≡ 0 → xs ≡ []
empty_list [] is = refl
empty_list (x ∷ xs) is = absurd (let never : ⊥ = omega (arith, is) in never)

pub length_bytes : (entries : List (Vec ℕ)) → length (all_bytes entries) ≡ length entries
length_bytes [] = refl
length_bytes (e ∷ es) = ap suc (length_bytes es)

-- Steps.

entry_agrees : (i : ℕ) (want : Option (List ℕ)) (flag : Bool) (m : Slots) (x : Item (List ℕ) (List ℕ)) → Agrees Entry want flag (m (Index i)) → Agrees Entry want (entry_step i want flag x) (unwrap_or (write (Index i) x) (m (Index i)))
entry_agrees i want flag m (Run f []) h = h
entry_agrees i want flag m (Run f (e ∷ es)) h = by (nat_lt i f) refl
  where
    long : (length (e ∷ es) == 0) ≡ false
    long = eq_false (length (e ∷ es)) 0 (λ is. omega (arith, is))

    by : (b : Bool) → nat_lt i f ≡ b → Agrees Entry want (entry_step i want flag (Run f (e ∷ es))) (unwrap_or (write (Index i) (Run f (e ∷ es))) (m (Index i)))
    by true c =
        let less = from_lt_true i f c in
        let untouched : write {E = List ℕ} {V = List ℕ} (Index i) (Run f (e ∷ es)) ≡ None = if_false (nat_le f i) _ None (le_false f i less) in
        let same : entry_step i want flag (Run f (e ∷ es)) ≡ flag = ap (λ (b : Bool). if b || nat_lt i f then flag else is_same (slice_get (e ∷ es) (i - f)) want) long ∙ if_true (nat_lt i f) _ _ c in
        subst (λ (b : Bool). Agrees Entry want b (unwrap_or (write (Index i) (Run f (e ∷ es))) (m (Index i)))) (sym same)
        (subst (λ (w : Option (Option (Content (List ℕ) (List ℕ)))). Agrees Entry want flag (unwrap_or w (m (Index i)))) (sym untouched) h)
    by false c =
        let low = from_lt_false i f c in
        let found = slice_get (e ∷ es) (i - f) in
        let touched : write {E = List ℕ} {V = List ℕ} (Index i) (Run f (e ∷ es)) ≡ Some (option_map Entry found) = if_true (nat_le f i) _ None (le_true f i low) in
        let same : entry_step i want flag (Run f (e ∷ es)) ≡ is_same found want = ap (λ (b : Bool). if b || nat_lt i f then flag else is_same found want) long ∙ if_false (nat_lt i f) _ _ c in
        subst (λ (b : Bool). Agrees Entry want b (unwrap_or (write (Index i) (Run f (e ∷ es))) (m (Index i)))) (sym same)
        (subst (λ (w : Option (Option (Content (List ℕ) (List ℕ)))). Agrees Entry want (is_same found want) (unwrap_or w (m (Index i)))) (sym touched) (same_agrees Entry one_entry found want))
entry_agrees i want flag m Clean h = same_agrees Entry one_entry None want
entry_agrees i want flag m (Compact c) h = by (nat_lt i c)
  where
    by : (b : Bool) → Agrees Entry want (if b then is_same None want else flag) (unwrap_or (if b then Some None else None) (m (Index i)))
    by true = same_agrees Entry one_entry None want
    by false = h
entry_agrees i want flag m (Put k v) h = h
entry_agrees i want flag m (Del k) h = h

value_agrees : (k : List ℕ) (want : Option (List ℕ)) (flag : Bool) (m : Slots) (x : Item (List ℕ) (List ℕ)) → Agrees Value want flag (m (Key k)) → Agrees Value want (value_step k want flag x) (unwrap_or (write (Key k) x) (m (Key k)))
value_agrees k want flag m (Run f es) h = h
value_agrees k want flag m Clean h = same_agrees Value one_value None want
value_agrees k want flag m (Compact c) h = h
value_agrees k want flag m (Put l v) h = by (bytes_eq l k)
  where
    by : (b : Bool) → Agrees Value want (if b then is_same (Some v) want else flag) (unwrap_or (if b then Some (Some (Value v)) else None) (m (Key k)))
    by true = same_agrees Value one_value (Some v) want
    by false = h
value_agrees k want flag m (Del l) h = by (bytes_eq l k)
  where
    by : (b : Bool) → Agrees Value want (if b then is_same None want else flag) (unwrap_or (if b then Some None else None) (m (Key k)))
    by true = same_agrees Value one_value None want
    by false = h

-- Items and batches.

module _ (shape : As) (want : Option (List ℕ)) (s : Slot) (step : Bool → Item (List ℕ) (List ℕ) → Bool)
    (ok : (flag : Bool) (m : Slots) (x : Item (List ℕ) (List ℕ)) → Agrees shape want flag (m s) → Agrees shape want (step flag x) (unwrap_or (write s x) (m s))) (g : ℕ) where
  folded_agrees : (xs : List (Tagged (List ℕ) (List ℕ))) (flag : Bool) (m : Slots) → Agrees shape want flag (m s) → Agrees shape want (folded (in_group g step) flag xs) (after m (of_group g xs) s)
  folded_agrees [] flag m h = h
  folded_agrees (x ∷ xs) flag m h = by (x.group == g) (folded_agrees xs (step flag x.item) (after m (x.item ∷ [])) (ok flag m x.item h)) (folded_agrees xs flag m h)
    where
      by : (b : Bool) → Agrees shape want (folded (in_group g step) (step flag x.item) xs) (after (after m (x.item ∷ [])) (of_group g xs) s) → Agrees shape want (folded (in_group g step) flag xs) (after m (of_group g xs) s)
          → Agrees shape want (folded (in_group g step) (if b then step flag x.item else flag) xs) (after m (if b then x.item ∷ of_group g xs else of_group g xs) s)
      by true one other = subst (Agrees shape want (folded (in_group g step) (step flag x.item) xs)) (sym (after_append m (x.item ∷ []) (of_group g xs) s)) one
      by false one other = other

  all_agree : (batches : List (List Change)) (flag : Bool) (m : Contents) → Agrees shape want flag (m g s) → Agrees shape want (folded_all (in_group g step) flag batches) (taken m (map says_of batches) g s)
  all_agree [] flag m h = h
  all_agree (batch ∷ batches) flag m h =
      let first : Agrees shape want (folded (in_group g step) flag (map tagged batch)) (taken m (says_of batch ∷ []) g s) =
      subst (λ (xs : List (Tagged (List ℕ) (List ℕ))). Agrees shape want (folded (in_group g step) flag (map tagged batch)) (after (m g) (of_group g xs) s)) (sym (append-nil (map tagged batch)))
      (folded_agrees (map tagged batch) flag (m g) h) in
      subst (λ (c : Contents). Agrees shape want (folded_all (in_group g step) (folded (in_group g step) flag (map tagged batch)) batches) (c g s)) (taken_twice m (says_of batch ∷ []) (map says_of batches))
      (all_agree batches (folded (in_group g step) flag (map tagged batch)) (taken m (says_of batch ∷ [])) first)

pub entry_read : (batches : List (List Change)) (g i : ℕ) (want : Option (List ℕ)) → Agrees Entry want (folded_all (in_group g (entry_step i want)) (is_same None want) batches) (after_all batches g (Index i))
entry_read batches g i want = all_agree Entry want (Index i) (entry_step i want) (entry_agrees i want) g batches (is_same None want) no_contents (same_agrees Entry one_entry None want)

pub value_read : (batches : List (List Change)) (g : ℕ) (k : List ℕ) (want : Option (List ℕ)) → Agrees Value want (folded_all (in_group g (value_step k want)) (is_same None want) batches) (after_all batches g (Key k))
value_read batches g k want = all_agree Value want (Key k) (value_step k want) (value_agrees k want) g batches (is_same None want) no_contents (same_agrees Value one_value None want)

-- What contents have was written.

-- the item may have put something there
abbrev pub Covers : Slot → Item (List ℕ) (List ℕ) → Type 0
Covers (Index i) (Run f es) = (f ≤ i) × (i < f + length es)
Covers (Key k) (Put l v) = l ≡ k
Covers s x = ⊥

abbrev pub CoveredIn : ℕ → Slot → List (Tagged (List ℕ) (List ℕ)) → Type 0
CoveredIn g s [] = ⊥
CoveredIn g s (x ∷ xs) = ((x.group ≡ g) × Covers s x.item) ⊎ CoveredIn g s xs

abbrev pub CoveredAll : ℕ → Slot → List (List Change) → Type 0
CoveredAll g s [] = ⊥
CoveredAll g s (batch ∷ batches) = CoveredIn g s (map tagged batch) ⊎ CoveredAll g s batches

one_covered : (s : Slot) (m : Slots) (x : Item (List ℕ) (List ℕ)) → m s ≡ None → (unwrap_or (write s x) (m s) ≡ None) ⊎ Covers s x
one_covered (Index i) m (Run f []) h = inl h
one_covered (Index i) m (Run f (e ∷ es)) h = by (nat_le f i) refl
  where
    by : (b : Bool) → nat_le f i ≡ b → (unwrap_or (if b then Some (option_map Entry (slice_get (e ∷ es) (i - f))) else None) (m (Index i)) ≡ None) ⊎ ((f ≤ i) × (i < f + length (e ∷ es)))
    by true c = elim (slice_get_cases (e ∷ es) (i - f)).1 [
      | inl within ↦ (let low = from_le_true f i c in let less = within.1 in inr (low, omega (arith, low, less)))
      | inr past ↦ inl (ap (λ (o : Option (List ℕ)). option_map Entry o) past.1)
    ]
    by false c = inl h
one_covered (Index i) m Clean h = inl refl
one_covered (Index i) m (Compact c) h = by (nat_lt i c)
  where
    by : (b : Bool) → (unwrap_or (if b then Some None else None) (m (Index i)) ≡ None) ⊎ ⊥
    by true = inl refl
    by false = inl h
one_covered (Index i) m (Put k v) h = inl h
one_covered (Index i) m (Del k) h = inl h
one_covered (Key k) m (Run f es) h = inl h
one_covered (Key k) m Clean h = inl refl
one_covered (Key k) m (Compact c) h = inl h
one_covered (Key k) m (Put l v) h = by (bytes_eq l k) refl
  where
    by : (b : Bool) → bytes_eq l k ≡ b → (unwrap_or (if b then Some (Some (Value v)) else None) (m (Key k)) ≡ None) ⊎ (l ≡ k)
    by true c = inr ((bytes_eq-Decides l k).0 c)
    by false c = inl h
one_covered (Key k) m (Del l) h = by (bytes_eq l k)
  where
    by : (b : Bool) → (unwrap_or (if b then Some None else None) (m (Key k)) ≡ None) ⊎ ⊥
    by true = inl refl
    by false = inl h

abbrev Later : ℕ → Slot → List (Tagged (List ℕ) (List ℕ)) → Slots → Type 0
Later g s xs n = (after n (of_group g xs) s ≡ None) ⊎ CoveredIn g s xs

covered_in : (g : ℕ) (s : Slot) (xs : List (Tagged (List ℕ) (List ℕ))) (m : Slots) → m s ≡ None → (after m (of_group g xs) s ≡ None) ⊎ CoveredIn g s xs
covered_in g s [] m h = inl h
covered_in g s (x ∷ xs) m h = by (x.group == g) refl (λ n none. covered_in g s xs n none)
  where
    later : (n : Slots) → Later g s xs n → (after n (of_group g xs) s ≡ None) ⊎ CoveredIn g s (x ∷ xs)
    later n (inl none) = inl none
    later n (inr is) = inr (inr is)

    by : (b : Bool) → (x.group == g) ≡ b → ((n : Slots) → n s ≡ None → Later g s xs n) → (after m (if b then x.item ∷ of_group g xs else of_group g xs) s ≡ None) ⊎ CoveredIn g s (x ∷ xs)
    by true c more = elim (one_covered s m x.item h) [
      | inl none ↦ subst (λ (o : Option (Content (List ℕ) (List ℕ))). (o ≡ None) ⊎ CoveredIn g s (x ∷ xs)) (sym (after_append m (x.item ∷ []) (of_group g xs) s)) (later (after m (x.item ∷ [])) (more (after m (x.item ∷ [])) none))
      | inr covers ↦ inr (inl (from_eq_true x.group g c, covers))
    ]
    by false c more = later m (more m h)

covered_all : (g : ℕ) (s : Slot) (batches : List (List Change)) (m : Contents) → m g s ≡ None → (taken m (map says_of batches) g s ≡ None) ⊎ CoveredAll g s batches
covered_all g s [] m h = inl h
covered_all g s (batch ∷ batches) m h = elim (covered_in g s (map tagged batch) (m g) h) [
  | inl none ↦ (
      let first : taken m (says_of batch ∷ []) g s ≡ None = ap (λ (xs : List (Tagged (List ℕ) (List ℕ))). after (m g) (of_group g xs) s) (append-nil (map tagged batch)) ∙ none in
      elim (covered_all g s batches (taken m (says_of batch ∷ [])) first) [
        | inl gone ↦ inl (ap (λ (c : Contents). c g s) (sym (taken_twice m (says_of batch ∷ []) (map says_of batches))) ∙ gone)
        | inr covered ↦ inr (inr covered)
      ]
      )
  | inr covered ↦ inr (inl covered)
]

pub covered : (g : ℕ) (s : Slot) (batches : List (List Change)) → (after_all batches g s ≡ None) ⊎ CoveredAll g s batches
covered g s batches = covered_all g s batches no_contents refl

-- Entries that are gone.

-- the entries of a run within the bounds, by one range of indexes
pub gone_between : (m : Contents) (g begin : ℕ) (end : Option ℕ) (first count low high : ℕ) (entries : List (List ℕ)) → count ≡ length entries → begin ≤ low → first ≤ low → (low ≡ begin) ⊎ (low ≡ first)
    → ((i : ℕ) → i < high → (i < first + count) × IsBefore end i) → ((i : ℕ) → i < first + count → IsBefore end i → i < high)
    → HasNone m g low high ↔ IsGone m g begin end (Run first entries)
gone_between m g begin end first count low high entries counted above from which below all = (
  λ none i b before f past. none i (lowest i b f which) (all i (omega (arith, counted, past)) before),
  λ gone i l h. (let lower = below i h in let less = lower.0 in gone i (omega (arith, above, l)) lower.1 (omega (arith, from, l)) (omega (arith, less, counted))),
)
  where
    lowest : (i : ℕ) → begin ≤ i → first ≤ i → (low ≡ begin) ⊎ (low ≡ first) → low ≤ i
    lowest i b f (inl is) = omega (arith, is, b)
    lowest i b f (inr is) = omega (arith, is, f)

abbrev pub GoneAll : Contents → ℕ → ℕ → Option ℕ → List (List Change) → Type 0
GoneAll m g begin end [] = Unit {0}
GoneAll m g begin end (batch ∷ batches) = AllGone m g begin end (map tagged batch) × GoneAll m g begin end batches

module _ (m : Contents) (g begin : ℕ) (end : Option ℕ) where
  item_gone : (x : Item (List ℕ) (List ℕ)) → NoneIn m g begin end → IsGone m g begin end x
  item_gone (Run f es) none = λ i low high from below. none i low high
  item_gone Clean none = tt
  item_gone (Compact c) none = tt
  item_gone (Put k v) none = tt
  item_gone (Del k) none = tt

  pub all_gone : (xs : List (Tagged (List ℕ) (List ℕ))) → NoneIn m g begin end → AllGone m g begin end xs
  all_gone [] none = tt
  all_gone (x ∷ xs) none = (λ same. item_gone x.item none, all_gone xs none)

  module _ (i : ℕ) (low : begin ≤ i) (high : IsBefore end i) where
    item_at : (x : Item (List ℕ) (List ℕ)) → IsGone m g begin end x → Covers (Index i) x → m g (Index i) ≡ None
    item_at (Run f es) gone covers = gone i low high covers.0 covers.1
    item_at Clean gone covers = absurd covers
    item_at (Compact c) gone covers = absurd covers
    item_at (Put k v) gone covers = absurd covers
    item_at (Del k) gone covers = absurd covers

    gone_in : (xs : List (Tagged (List ℕ) (List ℕ))) → AllGone m g begin end xs → CoveredIn g (Index i) xs → m g (Index i) ≡ None
    gone_in [] gone is = absurd is
    gone_in (x ∷ xs) gone (inl is) = item_at x.item (gone.0 is.0) is.1
    gone_in (x ∷ xs) gone (inr is) = gone_in xs gone.1 is

    gone_all : (batches : List (List Change)) → GoneAll m g begin end batches → CoveredAll g (Index i) batches → m g (Index i) ≡ None
    gone_all [] gone is = absurd is
    gone_all (batch ∷ batches) gone (inl is) = gone_in (map tagged batch) gone.0 is
    gone_all (batch ∷ batches) gone (inr is) = gone_all batches gone.1 is

pub none_left : (batches : List (List Change)) (g begin : ℕ) (end : Option ℕ) → GoneAll (after_all batches) g begin end batches → NoneIn (after_all batches) g begin end
none_left batches g begin end gone i low high = elim (covered g (Index i) batches) [
  | inl none ↦ none
  | inr is ↦ gone_all (after_all batches) g begin end i low high batches gone is
]
