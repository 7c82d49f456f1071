-- What is copied of a group, step by step.
use Rattle.std.proofs.Common.{◌≡◌, ◌⊎◌, ℕ, zero, suc, ◌+◌, ◌-◌, ◌<◌, ◌≤◌, ◌&&◌, Bool, true, false, if◌then◌else◌, List, [], ◌∷◌, ◌++◌, length, take, drop, Option, Some, None, nat_le, inl, inr, refl, sym, ap, ap₂, ◌∙◌, arith}
use Rattle.std.proofs.lemmas.List.{length-drop, length-take, length-append}
use Rattle.std.proofs.lemmas.Bool.{false≢true}
use Rattle.raft_log_model_laws.proofs.Public.{at_bool, le_true}
use Rattle.raft_log_machine_laws.proofs.Public.{no_word}
use Rattle.raft_log_extents.specs.declared.place.Place.{Place}
use Rattle.raft_log_extents.specs.Counts.{passing}
use Rattle.raft_log_memtable_index.specs.Shown.{KeyValue, Shown}
use Rattle.raft_log_memtable_index.specs.Bridge.{moved_run}
use Rattle.raft_log_memtable_index.specs.Listing.{is_asked}
use Rattle.raft_log_purge_copy.specs.Moving.{IsPartlyRewritten, IsRewrittenTo, ValueMayMove, copied_value, with_copied_values}

-- Lists.

drop_nil : {A : Type 0} (n : ℕ) → drop {A = A} n [] ≡ []
drop_nil zero = refl
drop_nil (suc n) = refl

drop_more : {A : Type 0} (a b : ℕ) (xs : List A) → drop (a + b) xs ≡ drop b (drop a xs)
drop_more zero b xs = let same : 0 + b ≡ b = omega arith in ap (λ (n : ℕ). drop n xs) same
drop_more (suc a) b [] = drop_nil (suc a + b) ∙ sym (drop_nil b)
drop_more (suc a) b (x ∷ xs) = let same : suc a + b ≡ suc (a + b) = omega arith in ap (λ (n : ℕ). drop n (x ∷ xs)) same ∙ drop_more a b xs

take_fewer : {A : Type 0} (a b : ℕ) (xs : List A) → a ≤ b → take a (take b xs) ≡ take a xs
take_fewer zero b xs low = refl
take_fewer (suc a) zero xs low = absurd (omega (arith, low))
take_fewer (suc a) (suc b) [] low = refl
take_fewer (suc a) (suc b) (x ∷ xs) low = ap (λ l. x ∷ l) (take_fewer a b xs (omega (arith, low)))

-- what stands on both sides of a cut
behind_cut : {A : Type 0} (n : ℕ) (xs ys : List A) → length xs ≡ n → drop n (xs ++ ys) ≡ ys
behind_cut zero [] ys long = refl
behind_cut zero (x ∷ xs) ys long = absurd (omega (arith, long))
behind_cut (suc n) [] ys long = absurd (omega (arith, long))
behind_cut (suc n) (x ∷ xs) ys long = behind_cut n xs ys (omega (arith, long))

before_cut : {A : Type 0} (n : ℕ) (xs ys : List A) → length xs ≡ n → take n (xs ++ ys) ≡ xs
before_cut zero [] ys long = refl
before_cut zero (x ∷ xs) ys long = absurd (omega (arith, long))
before_cut (suc n) [] ys long = absurd (omega (arith, long))
before_cut (suc n) (x ∷ xs) ys long = ap (λ l. x ∷ l) (before_cut n xs ys (omega (arith, long)))

-- Places that pass the gate.

pub passing_all : (gate : ℕ) (ps : List Place) → passing gate ps ≤ length ps
passing_all gate [] = omega arith
passing_all gate (p ∷ ps) =
    at_bool (nat_le p.file gate) (λ b. (if b then suc (passing gate ps) else 0) ≤ suc (length ps))
    (λ _. let rest = passing_all gate ps in omega (arith, rest)) (λ _. omega arith)

-- behind some that pass the others do
passing_behind : (gate n : ℕ) (ps : List Place) → n ≤ passing gate ps → n + passing gate (drop n ps) ≡ passing gate ps
passing_behind gate zero ps low = omega arith
passing_behind gate (suc n) [] low = absurd (omega (arith, low))
passing_behind gate (suc n) (p ∷ ps) low =
    at_bool (nat_le p.file gate)
    (λ b. suc n ≤ (if b then suc (passing gate ps) else 0) → suc n + passing gate (drop n ps) ≡ (if b then suc (passing gate ps) else 0))
    (λ _ h. let rest = passing_behind gate n ps (omega (arith, h)) in omega (arith, rest)) (λ _ h. absurd (omega (arith, h))) low

-- Parts of a group's copies.

pub partly_same : (gate : ℕ) (v : Shown) → IsPartlyRewritten gate v v
partly_same gate v = record {
  first = refl;
  all = refl;
  count = 0;
  few = omega arith;
  rewritten = omega arith;
  front = refl;
  behind = refl;
  values = λ k. inl refl;
  cleaned = refl;
  compacted = refl;
  deleted = refl;
  noted = refl;
}

-- a value that was copied isn't copied again
copied_then : (gate : ℕ) (a b c : Option KeyValue) → ValueMayMove gate a b → ValueMayMove gate b c → ValueMayMove gate a c
copied_then gate a b c (inl same) (inl still) = inl (still ∙ same)
copied_then gate a b c (inl same) (inr (h, is, asked, there)) = inr (h, sym same ∙ is, asked, there)
copied_then gate a b c (inr (h, is, asked, (n, moved))) (inl still) = inr (h, is, asked, (n, still ∙ moved))
copied_then gate a b c (inr (h, is, asked, (n, moved))) (inr (k, there, again, rest)) =
    let same : record { bytes = h.bytes; appended = false; file = n } ≡ k = cc in
    absurd (false≢true (ap (λ (x : KeyValue). is_asked (Some gate) x) same ∙ again))

pub partly_then : (gate : ℕ) (u v w : Shown) → IsPartlyRewritten gate u v → IsPartlyRewritten gate v w → IsPartlyRewritten gate u w
partly_then gate u v w p q =
    let few = p.few in
    let then_few = q.few in
    let up = p.rewritten in
    let up_again = q.rewritten in
    let left : drop v.rewritten v.places ≡ drop p.count (drop u.rewritten u.places) = p.behind ∙ ap (λ (n : ℕ). drop n u.places) p.rewritten ∙ drop_more u.rewritten p.count u.places in
    let same : passing gate (drop v.rewritten v.places) ≡ passing gate (drop p.count (drop u.rewritten u.places)) = ap (passing gate) left in
    let sum = passing_behind gate p.count (drop u.rewritten u.places) p.few in
    let at : w.rewritten ≡ v.rewritten + q.count = q.rewritten in record {
      first = q.first ∙ p.first;
      all = q.all ∙ p.all;
      count = p.count + q.count;
      few = omega (arith, few, then_few, same, sum);
      rewritten = omega (arith, up, up_again);
      front = sym (take_fewer u.rewritten v.rewritten w.places (omega (arith, up))) ∙ ap (take u.rewritten) q.front ∙ take_fewer u.rewritten v.rewritten v.places (omega (arith, up)) ∙ p.front;
      behind = q.behind ∙ ap (λ (n : ℕ). drop n v.places) at ∙ drop_more v.rewritten q.count v.places ∙ ap (drop q.count) p.behind ∙ sym (drop_more v.rewritten q.count u.places) ∙ ap (λ (n : ℕ). drop n u.places) (sym at);
      values = λ k. copied_then gate (u.held k) (v.held k) (w.held k) (p.values k) (q.values k);
      cleaned = q.cleaned ∙ p.cleaned;
      compacted = q.compacted ∙ p.compacted;
      deleted = q.deleted ∙ p.deleted;
      noted = q.noted ∙ p.noted;
    }

-- the first entries in Append were copied, some of those that pass the gate
pub run_is_part : (gate : ℕ) (v : Shown) (ps : List Place) → 0 < length ps → length ps ≤ passing gate (drop v.rewritten v.places)
    → IsPartlyRewritten gate v (moved_run v (v.first + v.rewritten) ps)
run_is_part gate v ps some few =
    let back : (v.first + v.rewritten) - v.first ≡ v.rewritten = omega arith in
    let most = passing_all gate (drop v.rewritten v.places) in
    let left = length-drop v.rewritten v.places in
    let low : v.rewritten + length ps ≤ length v.places = omega (arith, some, few, most, left) in
    let front : List Place = take v.rewritten v.places in
    let rest : List Place = drop (v.rewritten + length ps) v.places in
    let long : length front ≡ v.rewritten = omega (arith, length-take v.rewritten v.places, low) in
    let there : (moved_run v (v.first + v.rewritten) ps).places ≡ front ++ (ps ++ rest) = ap (λ (n : ℕ). take n v.places ++ (ps ++ drop (n + length ps) v.places)) back in
    let count : (moved_run v (v.first + v.rewritten) ps).rewritten ≡ v.rewritten + length ps = omega (arith, back) in
    let tail = length-drop (v.rewritten + length ps) v.places in
    let inner = length-append ps rest in
    let outer = length-append front (ps ++ rest) in record {
      first = refl;
      all = ap length there ∙ omega (arith, outer, inner, tail, long, low);
      count = length ps;
      few = few;
      rewritten = count;
      front = ap (take v.rewritten) there ∙ before_cut v.rewritten front (ps ++ rest) long;
      behind =
          ap₂ (λ (n : ℕ) (l : List Place). drop n l) count there ∙ drop_more v.rewritten (length ps) (front ++ (ps ++ rest)) ∙ ap (drop (length ps)) (behind_cut v.rewritten front (ps ++ rest) long)
          ∙ behind_cut (length ps) ps rest refl
          ∙ ap (λ (n : ℕ). drop n v.places) (sym count);
      values = λ k. inl refl;
      cleaned = refl;
      compacted = refl;
      deleted = refl;
      noted = refl;
    }

-- all values up to the gate were
value_may : (gate n : ℕ) (o : Option KeyValue) → ValueMayMove gate o (copied_value gate n o)
value_may gate n None = inl refl
value_may gate n (Some h) =
    at_bool (is_asked (Some gate) h)
    (λ b. is_asked (Some gate) h ≡ b → ValueMayMove gate (Some h) (if b then Some (record { bytes = h.bytes; appended = false; file = n }) else Some h))
    (λ _ asked. inr (h, refl, asked, (n, refl))) (λ _ asked. inl refl) refl

pub values_are_part : (gate n : ℕ) (v : Shown) → IsPartlyRewritten gate v (with_copied_values gate n v)
values_are_part gate n v = record {
  first = refl;
  all = refl;
  count = 0;
  few = omega arith;
  rewritten = omega arith;
  front = refl;
  behind = refl;
  values = λ k. value_may gate n (v.held k);
  cleaned = refl;
  compacted = refl;
  deleted = refl;
  noted = refl;
}

-- Nothing is left up to the gate.

past_gate : (gate : ℕ) (h : KeyValue) → h.appended ≡ true → is_asked (Some gate) h ≡ false → gate < h.file
past_gate gate h appended asked = elim (at_most h.file gate) [
  | inl low ↦ absurd (false≢true (sym asked ∙ ap₂ (λ (a b : Bool). a && b) appended (le_true h.file gate low)))
  | inr high ↦ high
]
  where
    at_most : (a b : ℕ) → (a ≤ b) ⊎ (b < a)
    at_most a b = grind arith

value_past : (gate n : ℕ) (o : Option KeyValue) (h : KeyValue) → copied_value gate n o ≡ Some h → h.appended ≡ true → gate < h.file
value_past gate n None h is appended = no_word h is
value_past gate n (Some k) h is appended =
    at_bool (is_asked (Some gate) k)
    (λ b. is_asked (Some gate) k ≡ b → (if b then Some (record { bytes = k.bytes; appended = false; file = n }) else Some k) ≡ Some h → gate < h.file)
    (λ _ asked there. let same : record { bytes = k.bytes; appended = false; file = n } ≡ h = cc in absurd (false≢true (ap (λ (x : KeyValue). x.appended) same ∙ appended)))
    (λ _ asked there. let same : k ≡ h = cc in past_gate gate h appended (ap (λ (x : KeyValue). is_asked (Some gate) x) (sym same) ∙ asked)) refl is

-- once all entries were copied, and then the values
pub then_rewritten : (gate n : ℕ) (v : Shown) → passing gate (drop v.rewritten v.places) ≡ 0 → IsRewrittenTo gate (with_copied_values gate n v)
then_rewritten gate n v none = record { entries = none; values = λ k h is appended. value_past gate n (v.held k) h is appended }
