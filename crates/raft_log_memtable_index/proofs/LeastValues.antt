-- The least file of a queue's values, told by the slots of a map.
use Rattle.std.proofs.Common.{◌≡◌, ℕ, ◌≤◌, ◌⊎◌, inl, inr, min, Bool, true, false, not, List, [], ◌∷◌, map, Option, Some, None, if◌then◌else◌, nat_le, bytes_eq, refl, sym, ap, subst, ◌∙◌, arith, le_refl}
use Rattle.std.specs.Cmp.Lexicographic.{slice_cmp}
use Rattle.std.specs.List.Sorted.{IsStrictlySortedBy}
use Rattle.std.specs.Map.{keys_of}
use Rattle.std.specs.Ordering.{nat_cmp}
use Rattle.std.proofs.lemmas.Slice.Eq.{bytes_eq-Decides}
use Rattle.raft_log_model_laws.proofs.Public.{at_bool, at_option, from_le_false, from_le_true, if_true}
use Rattle.raft_log_machine_laws.proofs.Public.{no_word}
use Rattle.raft_log_memtable_index.specs.Shown.{KeyValue}
use Rattle.raft_log_memtable_index.specs.declared.key_map.HeldValue.{HeldValue}
use Rattle.raft_log_memtable_index.specs.declared.key_map.KeySlot.{KeySlot}
use Rattle.raft_log_memtable_index.specs.LeastFiles.{file_of_value, least_over, least_value, lesser, IsLeastValue}
use Rattle.raft_log_memtable_index.specs.Keys.{held_in, slot_at, value_of}
use Rattle.raft_log_memtable_index.proofs.Listing.{none_there, AllAbove}

pub same_number : (a b : ℕ) → ◌≡◌ {A = Option ℕ} (Some a) (Some b) → a ≡ b
same_number a b h = cc

pub lesser_left : (a : ℕ) (o : Option ℕ) → (m : ℕ) × (lesser (Some a) o ≡ Some m) × (m ≤ a)
lesser_left a None = (a, refl, le_refl a)
lesser_left a (Some b) = (min a b, refl, omega arith)

pub lesser_right : (o : Option ℕ) (b : ℕ) → (m : ℕ) × (lesser o (Some b) ≡ Some m) × (m ≤ b)
lesser_right None b = (b, refl, le_refl b)
lesser_right (Some a) b = (min a b, refl, omega arith)

-- the lesser of two is one of them
pub lesser_is_one : (a b : Option ℕ) (n : ℕ) → lesser a b ≡ Some n → (a ≡ Some n) ⊎ (b ≡ Some n)
lesser_is_one None b n h = inr h
lesser_is_one (Some a) None n h = inl h
lesser_is_one (Some a) (Some b) n h =
    let least = same_number (min a b) n h in
    at_bool (nat_le a b) (λ t. nat_le a b ≡ t → (◌≡◌ {A = Option ℕ} (Some a) (Some n)) ⊎ (◌≡◌ {A = Option ℕ} (Some b) (Some n)))
    (λ _ below. let low = from_le_true a b below in let same : a ≡ n = omega (arith, least, low) in inl (ap (λ (m : ℕ). Some m) same))
    (λ _ above. let high = from_le_false a b above in let same : b ≡ n = omega (arith, least, high) in inr (ap (λ (m : ℕ). Some m) same)) refl

-- what was found before bounds the answer
from_before : (appended : Bool) (acc : ℕ) (ss : List KeySlot) → (n : ℕ) × (least_over appended (Some acc) ss ≡ Some n) × (n ≤ acc)
from_before appended acc [] = (acc, refl, le_refl acc)
from_before appended acc (s ∷ ss) =
    let one = lesser_left acc (file_of_value appended s.held) in
    let rest = from_before appended one.0 ss in
    (rest.0, ap (λ o. least_over appended o ss) one.1 ∙ rest.1, (let a = one.2 in let b = rest.2 in omega (arith, a, b)))

-- and so does each value in the queue
pub from_value : (appended : Bool) (acc : Option ℕ) (slots : List (List ℕ × KeySlot)) (k : List ℕ) (s : KeySlot) (m : ℕ) → slot_at slots k ≡ Some s
    → file_of_value appended s.held ≡ Some m → (n : ℕ) × (least_over appended acc (map (λ e. e.1) slots) ≡ Some n) × (n ≤ m)
from_value appended acc [] k s m h f = no_word s h
from_value appended acc (e ∷ es) k s m h f =
    at_bool (bytes_eq k e.0)
    (λ b. (if b then Some e.1 else slot_at es k) ≡ Some s
    → (n : ℕ) × (least_over appended (lesser acc (file_of_value appended e.1.held)) (map (λ e. e.1) es) ≡ Some n) × (n ≤ m))
    (λ _ here. let same : e.1 ≡ s = cc in
    let one = lesser_right acc m in
    let rest = from_before appended one.0 (map (λ e. e.1) es) in (
      rest.0,
      ap (λ o. least_over appended (lesser acc o) (map (λ e. e.1) es)) (ap (λ x. file_of_value appended x.held) same ∙ f)
          ∙ ap (λ o. least_over appended o (map (λ e. e.1) es)) one.1 ∙ rest.1,
      (let a = one.2 in let b = rest.2 in omega (arith, a, b)),
    ))
    (λ _ later. from_value appended (lesser acc (file_of_value appended e.1.held)) es k s m later f) h

-- a value that shows has a slot, and its file is told
pub shown_file : (appended : Bool) (o : Option KeySlot) (h : KeyValue) → held_in o ≡ Some h → h.appended ≡ appended
    → (s : KeySlot) × (o ≡ Some s) × (file_of_value appended s.held ≡ Some h.file)
shown_file appended None h e a = no_word h e
shown_file appended (Some s) h e a = (s, refl, told s.held e)
  where
    in_queue : (b c : Bool) → b ≡ c → (if c then b else not b) ≡ true
    in_queue true true h = refl
    in_queue true false h = cc
    in_queue false true h = cc
    in_queue false false h = refl

    told : (o : Option HeldValue) → held_in (Some (record { held = o; deleted = s.deleted })) ≡ Some h → file_of_value appended o ≡ Some h.file
    told None e = no_word h e
    told (Some x) e =
        let same : value_of x ≡ h = cc in
        if_true (if appended then x.appended else not x.appended) (Some x.file) None (in_queue x.appended appended (ap (λ v. v.appended) same ∙ a))
        ∙ ap (λ v. Some v.file) same

-- a file that is told is that of a value in the queue
file_shows : (appended : Bool) (s : KeySlot) (n : ℕ) → file_of_value appended s.held ≡ Some n
    → (h : KeyValue) × (held_in (Some s) ≡ Some h) × (h.appended ≡ appended) × (h.file ≡ n)
file_shows appended s n e = shows s.held e
  where
    in_queue : (b c : Bool) → (if c then b else not b) ≡ true → b ≡ c
    in_queue true true h = refl
    in_queue true false h = cc
    in_queue false true h = cc
    in_queue false false h = refl

    shows : (o : Option HeldValue) → file_of_value appended o ≡ Some n
        → (h : KeyValue) × (held_in (Some (record { held = o; deleted = s.deleted })) ≡ Some h) × (h.appended ≡ appended) × (h.file ≡ n)
    shows None e = no_word n e
    shows (Some x) e =
        at_bool (if appended then x.appended else not x.appended)
        (λ b. (if appended then x.appended else not x.appended) ≡ b → (if b then Some x.file else None) ≡ Some n
        → (h : KeyValue) × (held_in (Some (record { held = Some x; deleted = s.deleted })) ≡ Some h) × (h.appended ≡ appended) × (h.file ≡ n))
        (λ t is file. (value_of x, refl, in_queue x.appended appended is, same_number x.file n file))
        (λ t is file. no_word n file) refl e

-- the answer is what was found before, or the file of a key's slot
from_one : (appended : Bool) (acc : Option ℕ) (es : List (List ℕ × KeySlot)) (n : ℕ) → IsStrictlySortedBy (slice_cmp nat_cmp) (keys_of es)
    → least_over appended acc (map (λ e. e.1) es) ≡ Some n
    → (acc ≡ Some n) ⊎ ((k : List ℕ) × (s : KeySlot) × (slot_at es k ≡ Some s) × (file_of_value appended s.held ≡ Some n))
unfolding IsStrictlySortedBy
from_one appended acc [] n sorted h = inl h
from_one appended acc (e ∷ es) n sorted h = elim (from_one appended (lesser acc (file_of_value appended e.1.held)) es n sorted.1 h) [
  | inl before ↦ elim (lesser_is_one acc (file_of_value appended e.1.held) n before) [
    | inl earlier ↦ inl earlier
    | inr here ↦ inr (e.0, e.1, if_true (bytes_eq e.0 e.0) (Some e.1) (slot_at es e.0) ((bytes_eq-Decides e.0 e.0).1 refl), here)
  ]
  | inr later ↦ inr (later.0, later.1, behind later.0 later.1 later.2, later.3)
]
  where
    behind : (k : List ℕ) (s : KeySlot) → slot_at es k ≡ Some s → slot_at (e ∷ es) k ≡ Some s
    behind k s there =
        at_bool (bytes_eq k e.0) (λ b. bytes_eq k e.0 ≡ b → (if b then Some e.1 else slot_at es k) ≡ Some s)
        (λ t same. no_word s (sym (none_there k es (subst (λ j. AllAbove j es) (sym ((bytes_eq-Decides k e.0).0 same)) sorted.0)) ∙ there))
        (λ t same. there) refl

-- So it is the least file of all values that the keys have
pub least_is : (appended : Bool) (es : List (List ℕ × KeySlot)) → IsStrictlySortedBy (slice_cmp nat_cmp) (keys_of es)
    → IsLeastValue appended (λ k. held_in (slot_at es k)) (least_value appended es)
least_is appended es sorted =
    at_option (least_value appended es) (λ o. least_value appended es ≡ o → IsLeastValue appended (λ k. held_in (slot_at es k)) o)
    (λ t none k h held there.
    let slot = shown_file appended (slot_at es k) h held there in
    let bound = from_value appended None es k slot.0 h.file slot.1 slot.2 in
    no_word bound.0 (sym none ∙ bound.1))
    (λ n t some. (
      λ k h held there.
          let slot = shown_file appended (slot_at es k) h held there in
          let bound = from_value appended None es k slot.0 h.file slot.1 slot.2 in
          let same = same_number n bound.0 (sym some ∙ bound.1) in
          let low = bound.2 in omega (arith, same, low),
      found n (from_one appended None es n sorted some),
    )) refl
  where
    found : (n : ℕ) → (◌≡◌ {A = Option ℕ} None (Some n)) ⊎ ((k : List ℕ) × (s : KeySlot) × (slot_at es k ≡ Some s) × (file_of_value appended s.held ≡ Some n))
        → (k : List ℕ) × (h : KeyValue) × (held_in (slot_at es k) ≡ Some h) × (h.appended ≡ appended) × (h.file ≡ n)
    found n (inl none) = no_word n none
    found n (inr there) =
        let value = file_shows appended there.1 n there.3 in
        (there.0, value.0, ap held_in there.2 ∙ value.1, value.2, value.3)
