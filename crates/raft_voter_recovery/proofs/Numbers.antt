-- What the index and the term that stand in stored bytes tell of the entry.
use Rattle.std.proofs.Common.{◌≡◌, ◌≢◌, ◌∙◌, ◌⊎◌, ℕ, ◌+◌, ◌==◌, ◌&&◌, ◌^◌, ◌<◌, ◌≤◌, nat_le, Bool, true, false, if◌then◌else◌, bytes_eq, List, [], ◌∷◌, ◌++◌, length, take, drop, Option, Some, None, refl, sym, ap, subst, inl, inr, arith, append-nil, take-append-drop}
use Rattle.std.specs.Int.{from_be_bytes, w64}
use Rattle.std.specs.List.{list_all}
use Rattle.std.proofs.lemmas.Bool.{cases_Bool}
use Rattle.std.proofs.lemmas.Bool.Decides.{nat_tests}
use Rattle.std.proofs.lemmas.List.{take_at, drop_at}
use Rattle.std.proofs.lemmas.Nat.{from_be_bytes-to_be_bytes_8}
use Rattle.std.proofs.lemmas.Slice.Eq.{bytes_eq-Decides}
use Rattle.raft_log_model_laws.proofs.Public.{from_eq_false, from_eq_true, from_le_false, from_le_true}
use Rattle.raft_voter_messages.specs.declared.reply.Entry.{Entry}
use Rattle.raft_voter_messages.specs.declared.stored.StoredFault.{StoredFault}
use Rattle.raft_voter_messages.specs.declared.stored.StoredFault.TheVariants as faults
use Rattle.raft_voter_messages.specs.Ranges.{fits}
use Rattle.raft_voter_messages.specs.StoredForms.{EntryFault, IsEntry, IsEntryForm1, entry_form_1, number_text, stored_entry_fits}
use Rattle.raft_voter_messages.proofs.Public.{entry_in_range, length-entry, length-number_text}
use Rattle.raft_voter_recovery.specs.Numbers.{both, number_in, numbers_in, numbers_text, term_told}

-- A number.

number_value : (n : ℕ) → n < 2 ^ 64 → from_be_bytes w64 (number_text n) ≡ n
unfolding number_text
number_value n small = from_be_bytes-to_be_bytes_8 n small

-- a number that begins these bytes is read
pub number_read : (n : ℕ) (rest : List ℕ) → n < 2 ^ 64 → number_in (number_text n ++ rest) ≡ Some n
unfolding number_in
number_read n rest small =
    let front : take 8 (number_text n ++ rest) ≡ number_text n = take_at (number_text n) rest 8 (length-number_text n) in
    let same : bytes_eq (number_text n) (number_text n) ≡ true = (bytes_eq-Decides (number_text n) (number_text n)).1 refl in
    ap (λ (f : List ℕ). if bytes_eq (number_text (from_be_bytes w64 f)) f then Some (from_be_bytes w64 f) else None) front
    ∙ ap (λ (v : ℕ). if bytes_eq (number_text v) (number_text n) then Some v else None) (number_value n small)
    ∙ ap (λ (b : Bool). if b then Some n else None) same

-- a number that was read begins the bytes
pub number_known : (bytes : List ℕ) (n : ℕ) → number_in bytes ≡ Some n → bytes ≡ number_text n ++ drop 8 bytes
unfolding number_in
number_known bytes n is = by (bytes_eq (number_text (from_be_bytes w64 (take 8 bytes))) (take 8 bytes)) refl is
  where
    by : (b : Bool) → bytes_eq (number_text (from_be_bytes w64 (take 8 bytes))) (take 8 bytes) ≡ b
        → (if b then Some (from_be_bytes w64 (take 8 bytes)) else None) ≡ Some n → bytes ≡ number_text n ++ drop 8 bytes
    by true same one =
        let value : from_be_bytes w64 (take 8 bytes) ≡ n = cc in
        let front : number_text n ≡ take 8 bytes = ap number_text (sym value) ∙ (bytes_eq-Decides (number_text (from_be_bytes w64 (take 8 bytes))) (take 8 bytes)).0 same in
        sym (take-append-drop 8 bytes) ∙ ap (λ x. x ++ drop 8 bytes) (sym front)
    by false same none = absurd (let no : ⊥ = cc in no)

-- The index and the term.

first_of : Option (ℕ × ℕ) → ℕ
first_of None = 0
first_of (Some p) = p.0

second_of : Option (ℕ × ℕ) → ℕ
second_of None = 0
second_of (Some p) = p.1

some_pair : (a b c d : ℕ) → ◌≡◌ {A = Option (ℕ × ℕ)} (Some (a, b)) (Some (c, d)) → (a ≡ c) × (b ≡ d)
unfolding first_of second_of
some_pair a b c d h = (ap first_of h, ap second_of h)

module _ (body : List ℕ) where
  pub numbers_read : (own : List ℕ) (i t : ℕ) → body ≡ number_text i ++ (number_text t ++ own) → i < 2 ^ 64 → t < 2 ^ 64
      → both (number_in body) (number_in (drop 8 body)) ≡ Some (i, t)
  numbers_read own i t is fi ft =
      let rest : drop 8 body ≡ number_text t ++ own = ap (drop 8) is ∙ drop_at (number_text i) (number_text t ++ own) 8 (length-number_text i) in
      let first : number_in body ≡ Some i = ap number_in is ∙ number_read i (number_text t ++ own) fi in
      let second : number_in (drop 8 body) ≡ Some t = ap number_in rest ∙ number_read t own ft in
      rw (first, second) refl

  numbers_known : (i t : ℕ) → both (number_in body) (number_in (drop 8 body)) ≡ Some (i, t) → body ≡ number_text i ++ (number_text t ++ drop 8 (drop 8 body))
  numbers_known i t is = by (number_in body) (number_in (drop 8 body)) refl refl is
    where
      by : (a b : Option ℕ) → number_in body ≡ a → number_in (drop 8 body) ≡ b → both a b ≡ Some (i, t) → body ≡ number_text i ++ (number_text t ++ drop 8 (drop 8 body))
      by None b at bt h = absurd (let no : ⊥ = cc in no)
      by (Some j) None at bt h = absurd (let no : ⊥ = cc in no)
      by (Some j) (Some u) at bt h =
          let same = some_pair j u i t h in
          number_known body i (at ∙ ap Some same.0) ∙ ap (λ x. number_text i ++ x) (number_known (drop 8 body) t (bt ∙ ap Some same.1))

  -- the numbers of an entry are read
  entry_numbers_read : (e : Entry) → IsEntryForm1 body e → both (number_in body) (number_in (drop 8 body)) ≡ Some (e.index, e.term)
  entry_numbers_read e one =
      let fit : stored_entry_fits e ≡ true = one.in_range in
      let bounds : (e.index < 2 ^ 64) × (e.term < 2 ^ 64) = grind (arith, nat_tests) in
      numbers_read e.bytes e.index e.term one.text bounds.0 bounds.1

  -- numbers in range are those of an entry
  entry_is : (i t : ℕ) → both (number_in body) (number_in (drop 8 body)) ≡ Some (i, t) → fits i ≡ true → fits t ≡ true → length body ≤ 65551
      → (e : Entry) × IsEntryForm1 body e × (e.index ≡ i) × (e.term ≡ t)
  entry_is i t is fi ft short =
      let own : List ℕ = drop 8 (drop 8 body) in
      let text : body ≡ number_text i ++ (number_text t ++ own) = numbers_known i t is in
      let size : length body ≡ 16 + length own = length-entry body own i t text in
      let fit : list_all fits (i ∷ t ∷ []) ≡ true = rw (fi, ft) refl in (
        record { index = i; term = t; bytes = own },
        record { text = text; in_range = entry_in_range i t own fit (omega (arith, size, short)) },
        refl,
        refl,
      )

  -- where none are read, or one is out of range, no entry has these bytes
  no_entry : (o : Option (ℕ × ℕ)) → both (number_in body) (number_in (drop 8 body)) ≡ o → (e : Entry) → IsEntryForm1 body e
      → ((o ≡ None) ⊎ ((i t : ℕ) × (o ≡ Some (i, t)) × ((fits i ≡ false) ⊎ (fits t ≡ false)))) → ⊥
  no_entry o at e one (inl none) = let read = entry_numbers_read e one in let no : ⊥ = cc in no
  no_entry o at e one (inr (i, t, some, inl out)) =
      let read = entry_numbers_read e one in
      let own : stored_entry_fits e ≡ true = one.in_range in
      let fit : fits e.index ≡ true = grind (arith, nat_tests) in
      let same : e.index ≡ i = (some_pair e.index e.term i t (sym read ∙ at ∙ some)).0 in
      let again : fits i ≡ true = ap fits (sym same) ∙ fit in
      let no : ⊥ = cc in no
  no_entry o at e one (inr (i, t, some, inr out)) =
      let read = entry_numbers_read e one in
      let own : stored_entry_fits e ≡ true = one.in_range in
      let fit : fits e.term ≡ true = grind (arith, nat_tests) in
      let same : e.term ≡ t = (some_pair e.index e.term i t (sym read ∙ at ∙ some)).1 in
      let again : fits t ≡ true = ap fits (sym same) ∙ fit in
      let no : ⊥ = cc in no

-- What is read.

-- the numbers in bytes that were split so
pub numbers_are : (bytes body rest own : List ℕ) (form i t : ℕ) → bytes ≡ form ∷ body → form ≡ 1 → 16 ≤ length body → length body ≤ 65551 → body ≡ number_text i ++ rest
    → rest ≡ number_text t ++ own → i < 2 ^ 64 → t < 2 ^ 64 → numbers_in bytes ≡ Some (i, t)
numbers_are bytes body rest own form i t whole one long short first second fi ft =
    let is_form : (form == 1) ≡ true = grind (arith, nat_tests) in
    let is_long : nat_le 16 (length body) ≡ true = grind (arith, nat_tests) in
    let is_short : nat_le (length body) 65551 ≡ true = grind (arith, nat_tests) in
    let read = numbers_read body own i t (first ∙ ap (λ x. number_text i ++ x) second) fi ft in
    let all : numbers_in (form ∷ body) ≡ Some (i, t) = rw (is_form, is_long, is_short) read in
    ap numbers_in whole ∙ all

-- numbers that are written are read again
pub numbers_again : (o : Option (ℕ × ℕ)) (i t : ℕ) → o ≡ Some (i, t) → i < 2 ^ 64 → t < 2 ^ 64 → numbers_in (numbers_text o) ≡ o
numbers_again o i t is fi ft =
    let body : List ℕ = number_text i ++ (number_text t ++ []) in
    let size = length-entry body [] i t refl in
    let read : numbers_in (1 ∷ body) ≡ Some (i, t) = numbers_are (1 ∷ body) body (number_text t ++ []) [] 1 i t refl refl (omega (arith, size)) (omega (arith, size)) refl refl fi ft in
    ap (λ (x : Option (ℕ × ℕ)). numbers_in (numbers_text x)) is ∙ read ∙ sym is

-- What is told.

-- the term that is told of the entry at an index is its own
pub entry_told : (bytes : List ℕ) (index t : ℕ) → term_told index (numbers_in bytes) ≡ Some t → (e : Entry) × IsEntry bytes index e × (e.term ≡ t)
entry_told [] index t is = absurd (let no : ⊥ = cc in no)
entry_told (form ∷ body) index t is = by (form == 1) (nat_le 16 (length body)) (nat_le (length body) 65551) refl refl refl is
  where
    of_numbers : (o : Option (ℕ × ℕ)) → form ≡ 1 → length body ≤ 65551 → both (number_in body) (number_in (drop 8 body)) ≡ o → term_told index o ≡ Some t
        → (e : Entry) × IsEntry (form ∷ body) index e × (e.term ≡ t)
    of_numbers None one short at h = absurd (let no : ⊥ = cc in no)
    of_numbers (Some (i, u)) one short at h = by_tests (i == index) (fits i) (fits u) refl refl refl h
      where
        by_tests : (a b c : Bool) → (i == index) ≡ a → fits i ≡ b → fits u ≡ c → (if a && b && c then Some u else None) ≡ Some t
            → (e : Entry) × IsEntry (form ∷ body) index e × (e.term ≡ t)
        by_tests true true true same fi fu h =
            let e = entry_is body i u at fi fu short in
            let term : u ≡ t = cc in
            let here : i ≡ index = from_eq_true i index same in (
              e.0,
              record { text = ap (λ f. f ∷ body) one ∙ ap (λ x. 1 ∷ x) e.1.text; in_range = e.1.in_range; at_index = e.2 ∙ here },
              e.3 ∙ term,
            )
        by_tests true true false same fi fu h = absurd (let no : ⊥ = cc in no)
        by_tests true false c same fi fu h = absurd (let no : ⊥ = cc in no)
        by_tests false b c same fi fu h = absurd (let no : ⊥ = cc in no)

    by : (a b c : Bool) → (form == 1) ≡ a → nat_le 16 (length body) ≡ b → nat_le (length body) 65551 ≡ c
        → term_told index (if a && b && c then both (number_in body) (number_in (drop 8 body)) else None) ≡ Some t
        → (e : Entry) × IsEntry (form ∷ body) index e × (e.term ≡ t)
    by true true true one long short h =
        of_numbers (both (number_in body) (number_in (drop 8 body))) (from_eq_true form 1 one) (from_le_true (length body) 65551 short) refl h
    by true true false one long short h = absurd (let no : ⊥ = cc in no)
    by true false c one long short h = absurd (let no : ⊥ = cc in no)
    by false b c one long short h = absurd (let no : ⊥ = cc in no)

-- where none is told, the bytes are those of no entry at the index
pub entry_untold : (bytes : List ℕ) (index : ℕ) → term_told index (numbers_in bytes) ≡ None → (fault : StoredFault) × (fault ≢ faults.Memory) × EntryFault fault bytes index
entry_untold [] index is = (faults.Length, λ h. let no : ⊥ = cc in no, refl)
entry_untold (form ∷ body) index is = by (form == 1) (nat_le 16 (length body)) (nat_le (length body) 65551) refl refl refl is
  where
    Untold : Type 0
    Untold = (fault : StoredFault) × (fault ≢ faults.Memory) × EntryFault fault (form ∷ body) index

    of_numbers : (o : Option (ℕ × ℕ)) → form ≡ 1 → 16 ≤ length body → length body ≤ 65551 → both (number_in body) (number_in (drop 8 body)) ≡ o → term_told index o ≡ None → Untold
    of_numbers None one long short at h =
        (faults.Range, λ h. let no : ⊥ = cc in no, inl (one, (long, short, λ e is. no_entry body None at e is (inl refl))))
    of_numbers (Some (i, u)) one long short at h = by_tests (i == index) (fits i) (fits u) refl refl refl h
      where
        by_tests : (a b c : Bool) → (i == index) ≡ a → fits i ≡ b → fits u ≡ c → (if a && b && c then Some u else None) ≡ None → Untold
        by_tests a false c same fi fu h =
            (faults.Range, λ h. let no : ⊥ = cc in no, inl (one, (long, short, λ e is. no_entry body (Some (i, u)) at e is (inr (i, u, refl, inl fi)))))
        by_tests a true false same fi fu h =
            (faults.Range, λ h. let no : ⊥ = cc in no, inl (one, (long, short, λ e is. no_entry body (Some (i, u)) at e is (inr (i, u, refl, inr fu)))))
        by_tests false true true same fi fu h =
            let e = entry_is body i u at fi fu short in
            (faults.Index, λ h. let no : ⊥ = cc in no, inl (one, (e.0, e.1, λ at_index. from_eq_false i index same (sym e.2 ∙ at_index))))
        by_tests true true true same fi fu h = absurd (let no : ⊥ = cc in no)

    by : (a b c : Bool) → (form == 1) ≡ a → nat_le 16 (length body) ≡ b → nat_le (length body) 65551 ≡ c
        → term_told index (if a && b && c then both (number_in body) (number_in (drop 8 body)) else None) ≡ None → Untold
    by true true true one long short h =
        of_numbers (both (number_in body) (number_in (drop 8 body))) (from_eq_true form 1 one) (from_le_true 16 (length body) long) (from_le_true (length body) 65551 short) refl h
    by true true false one long short h =
        (faults.Length, λ h. let no : ⊥ = cc in no, inl (from_eq_true form 1 one, inr (from_le_false (length body) 65551 short)))
    by true false c one long short h =
        (faults.Length, λ h. let no : ⊥ = cc in no, inl (from_eq_true form 1 one, inl (from_le_false 16 (length body) long)))
    by false b c one long short h =
        (faults.Form, λ h. let no : ⊥ = cc in no, inr (from_eq_false form 1 one, refl))
