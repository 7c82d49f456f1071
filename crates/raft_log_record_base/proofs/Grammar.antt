-- Each rule of a grammar keeps the two laws of its reader, and no spelling begins another.
use Rattle.std.proofs.Common.{◌≡◌, ℕ, zero, suc, ◌+◌, ◌-◌, ◌<◌, Bool, true, false, cond, List, [], ◌∷◌, ◌++◌, Result, Ok, Err, refl, sym, ap, ◌∙◌, ◌⊎◌, inl, inr, append_assoc, arith}
use Rattle.std.proofs.lemmas.List.{append-nil, append_cancel_right}
use Rattle.raft_log_record_base.specs.Grammar.{Reader, IsReader, IsPrefixFree, ◌>>=◌, IsKnown, Then, Mapped, mapped_at, Times, times_at, Choice, choice_at, ReadsAs, Decodes}

-- the value of a step that did not fail
pub bind_ok : {A B E : Type 0} (r : Result A E) (f : A → Result B E) (y : B) → (r >>= f) ≡ Ok y → (x : A) × (r ≡ Ok x) × (f x ≡ Ok y)
bind_ok (Ok x) f y e = (x, refl, e)
bind_ok (Err d) f y e = absurd cc

abbrev pub done : {A E : Type 0} → A → Result A E
done x = Ok x

pub ok_is : {A E : Type 0} (x y : A) → done {E = E} x ≡ done y → x ≡ y
ok_is x y e = cc

-- which way a test went
pub chosen : {A : Type 0} (b : Bool) (x y z : A) → cond b x y ≡ z → ((b ≡ true) × (x ≡ z)) ⊎ ((b ≡ false) × (y ≡ z))
chosen true x y z e = inl (refl, e)
chosen false x y z e = inr (refl, e)

-- ---- the rules

pub is_known : {X E : Type 0} (x : X) → IsReader {E = E} (λ bytes. Ok (x, bytes)) (IsKnown x)
is_known {X = X} {E = E} x = record {
  takes = λ bytes y e. let p = ok_is {E = E} (x, bytes) y e in ([], (refl, sym (ap (λ (q : X × List ℕ). q.0) p)), ap (λ (q : X × List ℕ). q.1) p);
  again = λ text rest z h. ap (λ (q : X × List ℕ). Ok q) (rw (h.0, h.1) refl);
}

pub is_then : {A B E : Type 0} {p : Reader A E} {P : List ℕ → A → Type 0} {q : A → Reader B E} {Q : A → List ℕ → B → Type 0}
    → IsReader p P → ((x : A) → IsReader (q x) (Q x)) → IsReader (λ bytes. p bytes >>= λ r. q r.0 r.1) (Then P Q)
is_then {A = A} {B = B} {E = E} {p = p} {P = P} {q = q} {Q = Q} first second = record {
  takes = λ bytes y e.
      let a = bind_ok (p bytes) (λ (r : A × List ℕ). q r.0 r.1) y e in
      let one = first.takes bytes a.0 a.1 in
      let two = (second a.0.0).takes a.0.1 y a.2 in
      (one.0 ++ two.0, (a.0.0, one.0, two.0, one.1, two.1, refl), one.2 ∙ ap (λ (l : List ℕ). one.0 ++ l) two.2 ∙ sym (append_assoc one.0 two.0 y.1));
  again = λ text rest y h.
      let grouped : text ++ rest ≡ h.1 ++ (h.2 ++ rest) = ap (λ (l : List ℕ). l ++ rest) h.5 ∙ append_assoc h.1 h.2 rest in
      let one : p (text ++ rest) ≡ Ok (h.0, h.2 ++ rest) = ap p grouped ∙ first.again h.1 (h.2 ++ rest) h.0 h.3 in
      ap (λ (r : Result (A × List ℕ) E). r >>= λ r. q r.0 r.1) one ∙ (second h.0).again h.2 rest y h.4;
}

pub is_mapped : {A B E : Type 0} {p : Reader A E} {P : List ℕ → A → Type 0} (f : A → B) → IsReader p P → IsReader (mapped_at f p) (Mapped f P)
is_mapped {A = A} {B = B} {E = E} {p = p} {P = P} f h = record {
  takes = λ bytes y e.
      let a = bind_ok (p bytes) (λ (r : A × List ℕ). Ok (f r.0, r.1)) y e in
      let one = h.takes bytes a.0 a.1 in
      let same = ok_is {E = E} (f a.0.0, a.0.1) y a.2 in
      (one.0, (a.0.0, one.1, sym (ap (λ (q : B × List ℕ). q.0) same)), one.2 ∙ ap (λ (q : B × List ℕ). one.0 ++ q.1) same);
  again = λ text rest y g.
      ap (λ (r : Result (A × List ℕ) E). r >>= λ r. Ok (f r.0, r.1)) (h.again text rest g.0 g.1) ∙ ap (λ (z : B). Ok (z, rest)) (sym g.2);
}

pub is_times : {A E : Type 0} {p : Reader A E} {P : List ℕ → A → Type 0} → IsReader p P → (n : ℕ) → IsReader (times_at p n) (Times P n)
unfolding times_at Times
is_times h zero = is_known []
is_times {A = A} {E = E} {p = p} {P = P} h (suc n) =
    is_then {p = p} {P = P} {q = λ x bytes. times_at p n bytes >>= λ xs. Ok (x ∷ xs.0, xs.1)} {Q = λ x. Then (Times P n) (λ xs. IsKnown (x ∷ xs))} h
    (λ x. is_then {p = times_at p n} {P = Times P n} {q = λ xs bytes. Ok (x ∷ xs, bytes)} {Q = λ xs. IsKnown (x ∷ xs)} (is_times h n) (λ xs. is_known (x ∷ xs)))

pub is_choice : {A E : Type 0} {p q : Reader A E} {P Q : List ℕ → A → Type 0} (b : Bool) → IsReader p P → IsReader q Q → IsReader (choice_at b p q) (Choice b P Q)
is_choice true h k = record { takes = h.takes; again = h.again }
is_choice false h k = record { takes = k.takes; again = k.again }

-- ---- no spelling begins another

pub prefix_free : {X E : Type 0} {read : Reader X E} {P : List ℕ → X → Type 0} → IsReader read P → IsPrefixFree P
prefix_free {X = X} {E = E} {read = read} h a b x y m n p q e =
    let same = ok_is {E = E} (m, x) (n, y) (sym (h.again a x m p) ∙ ap read e ∙ h.again b y n q) in
    let rests : x ≡ y = ap (λ (z : X × List ℕ). z.1) same in
    (append_cancel_right a b y (ap (λ (z : List ℕ). a ++ z) (sym rests) ∙ e), ap (λ (z : X × List ℕ). z.0) same)

-- ---- decoders

pub decodes : {X E : Type 0} (result : Result X E) (old new : List ℕ) {read : Reader X E} {P : List ℕ → X → Type 0} → IsReader read P → ReadsAs result old new (read old) → Decodes P result old new
decodes {X = X} {E = E} (Ok y) old new {read = read} h t = record {
  found = h.takes old (y, new) t;
  only = λ text rest x p e.
      let same = ok_is {E = E} (y, new) (x, rest) (sym t ∙ ap read e ∙ h.again text rest x p) in
      (ap (λ (q : X × List ℕ). Ok q.0) same, ap (λ (q : X × List ℕ). q.1) same);
}
decodes (Err d) old new {read = read} h t = record {
  found = t.1;
  only = λ text rest x p e. let k = sym t.0 ∙ ap read e ∙ h.again text rest x p in absurd cc;
}

-- ---- loops over a count: what was read before, and what is still read

abbrev pub with_front : {A E : Type 0} → List A → Result (List A × List ℕ) E → Result (List A × List ℕ) E
with_front front read = read >>= λ x. Ok (front ++ x.0, x.1)

regroup : {A E : Type 0} (front : List A) (n : A) (read : Result (List A × List ℕ) E) → with_front front (read >>= λ x. Ok (n ∷ x.0, x.1)) ≡ with_front (front ++ n ∷ []) read
regroup {A = A} {E = E} front n (Ok x) = let same : front ++ (n ∷ x.0) ≡ (front ++ n ∷ []) ++ x.0 = simp append_assoc in rw same refl
regroup front n (Err f) = refl

-- one more is read
pub times_go_on : {A E : Type 0} (p : Reader A E) (front : List A) (count i : ℕ) (bytes : List ℕ) (n : A) (after : List ℕ) (total : Result (List A × List ℕ) E) → i < count → p bytes ≡ Ok (n, after)
    → with_front front (times_at p (count - i) bytes) ≡ total → with_front (front ++ n ∷ []) (times_at p (count - (i + 1)) after) ≡ total
unfolding times_at
times_go_on p front count i bytes n after total lt h so_far =
    let k : count - i ≡ suc (count - (i + 1)) = omega arith in
    let one : with_front front (times_at p (count - i) bytes) ≡ with_front (front ++ n ∷ []) (times_at p (count - (i + 1)) after) = rw (k, h) (regroup front n (times_at p (count - (i + 1)) after)) in
    sym one ∙ so_far

-- one is refused
pub times_fail : {A E : Type 0} (p : Reader A E) (front : List A) (count i : ℕ) (bytes : List ℕ) (e : E) (total : Result (List A × List ℕ) E) → i < count → p bytes ≡ Err e
    → with_front front (times_at p (count - i) bytes) ≡ total → total ≡ Err e
unfolding times_at
times_fail p front count i bytes e total lt h so_far =
    let k : count - i ≡ suc (count - (i + 1)) = omega arith in
    let one : with_front front (times_at p (count - i) bytes) ≡ Err e = rw (k, h) refl in
    sym so_far ∙ one

-- all are read
pub times_done : {A E : Type 0} (p : Reader A E) (front : List A) (count i : ℕ) (bytes : List ℕ) (total : Result (List A × List ℕ) E) → count ≡ i
    → with_front front (times_at p (count - i) bytes) ≡ total → total ≡ Ok (front, bytes)
unfolding times_at
times_done p front count i bytes total le so_far =
    let k : count - i ≡ zero = omega arith in
    let one : with_front front (times_at p (count - i) bytes) ≡ Ok (front, bytes) = rw k (simp append-nil) in
    sym so_far ∙ one
