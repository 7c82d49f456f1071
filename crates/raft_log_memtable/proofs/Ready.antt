-- A table that was prepared for items one after another takes them one after another.
use Rattle.std.proofs.Common.{◌≡◌, ℕ, ◌+◌, ◌-◌, ◌≤◌, length, Bool, true, false, List, [], ◌∷◌, ◌++◌, map, if◌then◌else◌, nat_lt, ◌&&◌, bytes_eq, refl, sym, ap, subst, ◌∙◌, arith}
use Rattle.std.proofs.lemmas.List.{length-map}
use Rattle.raft_log_model_laws.specs.Item.{Item}
use Rattle.raft_log_model_laws.specs.Item.Item.{Run, Clean, Compact, Put, Del}
use Rattle.raft_log_model_laws.specs.Holes.{Window}
use Rattle.raft_log_model_laws.specs.Renamed.{renamed}
use Rattle.raft_log_model_laws.proofs.Public.{same_key}
use Rattle.raft_log_machine_laws.specs.Whereabouts.{top, with_key}
use Rattle.raft_log_extents.specs.declared.place.Place.{Place}
use Rattle.raft_log_memtable_index.specs.Shown.{Shown, span, next_span, stepped, MayFollow, MayAllFollow}
use Rattle.raft_log_memtable_index.proofs.Public.{span_stepped}
use Rattle.raft_log_memtable.specs.Room.{Promise, count_of, promised, kept, HasRoom, CanTake, needs, AllHave, span_after, IsForgotten, IsReady}

key_stays : (b : Bool) (old : Bool) → old ≡ true → (if b then true else old) ≡ true
key_stays true old h = refl
key_stays false old h = h

pub key_here : (has : List ℕ → Bool) (k : List ℕ) → with_key has k true k ≡ true
key_here has k = either (bytes_eq k k) (has k) (same k)
  where
    either : (b : Bool) (old : Bool) → b ≡ true → (if b then true else old) ≡ true
    either true old h = refl
    either false old h = absurd (let clash : false ≡ true = h in let never : ⊥ = cc in never)

    same : (l : List ℕ) → bytes_eq l l ≡ true
    same l = same_key l l refl

module _ {E V : Type 0} where
  pub needs-append : (xs ys : List (Item E V)) → needs (xs ++ ys) ≡ needs xs + needs ys
  needs-append [] ys = omega arith
  needs-append (x ∷ xs) ys = ap (λ n. count_of x + n) (needs-append xs ys) ∙ omega arith

  room_stays : (has : List ℕ → Bool) (k : List ℕ) (x : Item E V) → HasRoom has x → HasRoom (with_key has k true) x
  room_stays has k (Run f es) h = tt
  room_stays has k Clean h = tt
  room_stays has k (Compact c) h = tt
  room_stays has k (Put l v) h = key_stays (bytes_eq k l) (has l) h
  room_stays has k (Del l) h = key_stays (bytes_eq k l) (has l) h

  all_stay : (has : List ℕ → Bool) (k : List ℕ) (xs : List (Item E V)) → AllHave has xs → AllHave (with_key has k true) xs
  all_stay has k [] h = tt
  all_stay has k (x ∷ xs) h = (room_stays has k x h.0, all_stay has k xs h.1)

  have-append : (has : List ℕ → Bool) (xs ys : List (Item E V)) → AllHave has xs → AllHave has ys → AllHave has (xs ++ ys)
  have-append has [] ys h k = k
  have-append has (x ∷ xs) ys h k = (h.0, have-append has xs ys h.1 k)

  follow-append : (w : Window) (xs : List (Item E V)) (x : Item E V) → MayAllFollow w xs → MayFollow (span_after w xs) x → MayAllFollow w (xs ++ x ∷ [])
  follow-append w [] x h k = (k, tt)
  follow-append w (y ∷ xs) x h k = (h.0, follow-append (next_span w y) xs x h.1 k)

  after-append : (w : Window) (xs : List (Item E V)) (x : Item E V) → span_after w (xs ++ x ∷ []) ≡ next_span (span_after w xs) x
  after-append w [] x = refl
  after-append w (y ∷ xs) x = after-append (next_span w y) xs x

  -- what was promised before stays promised
  keys_more : (q : Promise) (xs : List (Item E V)) (x : Item E V) → AllHave q.has xs → AllHave (promised q x).has (xs ++ x ∷ [])
  keys_more q xs (Run f es) h = have-append q.has xs (Run f es ∷ []) h (tt, tt)
  keys_more q xs Clean h = have-append q.has xs (Clean ∷ []) h (tt, tt)
  keys_more q xs (Compact c) h = have-append q.has xs (Compact c ∷ []) h (tt, tt)
  keys_more q xs (Put k v) h = have-append (with_key q.has k true) xs (Put k v ∷ []) (all_stay q.has k xs h) (key_here q.has k, tt)
  keys_more q xs (Del k) h = have-append (with_key q.has k true) xs (Del k ∷ []) (all_stay q.has k xs h) (key_here q.has k, tt)

  room_more : (q : Promise) (n : ℕ) (x : Item E V) → n ≤ q.wanted → n + (count_of x + 0) ≤ (promised q x).wanted
  room_more q n (Run f es) h = omega arith
  room_more q n Clean h = omega arith
  room_more q n (Compact c) h = omega arith
  room_more q n (Put k v) h = omega arith
  room_more q n (Del k) h = omega arith

  ends_more : (q : Promise) (x : Item E V) → (promised q x).ends ≡ next_span q.ends x
  ends_more q (Run f es) = refl
  ends_more q Clean = refl
  ends_more q (Compact c) = refl
  ends_more q (Put k v) = refl
  ends_more q (Del k) = refl

  pub ready_none : (v : Shown) (q : Promise) → q.ends ≡ span v → IsReady {E = E} {V = V} v q []
  ready_none v q h = record { room = omega arith; keys = tt; follows = tt; ends = h }

  pub ready_more : (v : Shown) (q : Promise) (xs : List (Item E V)) (x : Item E V) → IsReady v q xs → MayFollow q.ends x → IsReady v (promised q x) (xs ++ x ∷ [])
  ready_more v q xs x r h = record {
    room = subst (λ n. n ≤ (promised q x).wanted) (sym (needs-append xs (x ∷ []))) (room_more q (needs xs) x r.room);
    keys = keys_more q xs x r.keys;
    follows = follow-append (span v) xs x r.follows (subst (λ w. MayFollow w x) r.ends h);
    ends = ends_more q x ∙ ap (λ w. next_span w x) r.ends ∙ sym (after-append (span v) xs x);
  }

  pub ready_can : (v : Shown) (q : Promise) (x : Item E V) (xs : List (Item E V)) → IsReady v q (x ∷ xs) → CanTake v q x
  ready_can v q x xs r = ((let room = r.room in omega arith), r.keys.0, r.follows.0)

  room_next : (q : Promise) (n : ℕ) (x : Item E V) → count_of x + n ≤ q.wanted → n ≤ (kept q x).wanted
  room_next q n (Run f es) h = omega arith
  room_next q n Clean h = omega arith
  room_next q n (Compact c) h = omega arith
  room_next q n (Put k v) h = omega arith
  room_next q n (Del k) h = omega arith

  kept_has : (q : Promise) (x : Item E V) → (kept q x).has ≡ q.has
  kept_has q (Run f es) = refl
  kept_has q Clean = refl
  kept_has q (Compact c) = refl
  kept_has q (Put k v) = refl
  kept_has q (Del k) = refl

  kept_ends : (q : Promise) (x : Item E V) → (kept q x).ends ≡ q.ends
  kept_ends q (Run f es) = refl
  kept_ends q Clean = refl
  kept_ends q (Compact c) = refl
  kept_ends q (Put k v) = refl
  kept_ends q (Del k) = refl

pub ready_next : (n : ℕ) (v : Shown) (q : Promise) (x : Item Place (List ℕ)) (xs : List (Item Place (List ℕ))) → IsReady v q (x ∷ xs) → IsReady (stepped n v x) (kept q x) xs
ready_next n v q x xs r =
    let same = span_stepped n v x r.follows.0.0 in
    record {
      room = room_next q (needs xs) x r.room;
      keys = subst (λ has. AllHave has xs) (sym (kept_has q x)) r.keys.1;
      follows = subst (λ w. MayAllFollow w xs) (sym same) r.follows.1;
      ends = kept_ends q x ∙ r.ends ∙ ap (λ w. span_after w xs) (sym same);
    }

-- two ends, where a run of this length begins
abbrev ends : ℕ → ℕ → ℕ → Window
ends a n l = record { first = a; end = n + l }

-- It doesn't matter what stands for an entry.
module _ {E F V : Type 0} (f : E → F) where
  count_renamed : (x : Item E V) → count_of (renamed f x) ≡ count_of x
  count_renamed (Run n es) = length-map es f
  count_renamed Clean = refl
  count_renamed (Compact c) = refl
  count_renamed (Put k v) = refl
  count_renamed (Del k) = refl

  pub needs_renamed : (xs : List (Item E V)) → needs (map (renamed f) xs) ≡ needs xs
  needs_renamed [] = refl
  needs_renamed (x ∷ xs) = ap (λ n. n + needs (map (renamed f) xs)) (count_renamed x) ∙ ap (λ n. count_of x + n) (needs_renamed xs)

  have_renamed : (has : List ℕ → Bool) (xs : List (Item E V)) → AllHave has xs → AllHave has (map (renamed f) xs)
  have_renamed has [] h = tt
  have_renamed has (Run n es ∷ xs) h = (tt, have_renamed has xs h.1)
  have_renamed has (Clean ∷ xs) h = (tt, have_renamed has xs h.1)
  have_renamed has (Compact c ∷ xs) h = (tt, have_renamed has xs h.1)
  have_renamed has (Put k v ∷ xs) h = (h.0, have_renamed has xs h.1)
  have_renamed has (Del k ∷ xs) h = (h.0, have_renamed has xs h.1)

  span_renamed : (w : Window) (x : Item E V) → next_span w (renamed f x) ≡ next_span w x
  span_renamed w (Run n []) = refl
  span_renamed w (Run n (e ∷ es)) = ap (ends (if nat_lt w.first n && nat_lt w.first w.end then w.first else n) n) (length-map (e ∷ es) f)
  span_renamed w Clean = refl
  span_renamed w (Compact c) = refl
  span_renamed w (Put k v) = refl
  span_renamed w (Del k) = refl

  follow_renamed : (w : Window) (x : Item E V) → MayFollow w x → MayFollow w (renamed f x)
  follow_renamed w (Run n []) h = (tt, h.1)
  follow_renamed w (Run n (e ∷ es)) h = (h.0, subst (λ l. n + l ≤ top) (sym (length-map (e ∷ es) f)) h.1)
  follow_renamed w Clean h = h
  follow_renamed w (Compact c) h = h
  follow_renamed w (Put k v) h = h
  follow_renamed w (Del k) h = h

  all_renamed : (w : Window) (xs : List (Item E V)) → MayAllFollow w xs → MayAllFollow w (map (renamed f) xs)
  all_renamed w [] h = tt
  all_renamed w (x ∷ xs) h = (follow_renamed w x h.0, subst (λ u. MayAllFollow u (map (renamed f) xs)) (sym (span_renamed w x)) (all_renamed (next_span w x) xs h.1))

  after_renamed : (w : Window) (xs : List (Item E V)) → span_after w (map (renamed f) xs) ≡ span_after w xs
  after_renamed w [] = refl
  after_renamed w (x ∷ xs) = ap (λ u. span_after u (map (renamed f) xs)) (span_renamed w x) ∙ after_renamed (next_span w x) xs

  pub ready_renamed : (v : Shown) (q : Promise) (xs : List (Item E V)) → IsReady v q xs → IsReady v q (map (renamed f) xs)
  ready_renamed v q xs r = record {
    room = subst (λ n. n ≤ q.wanted) (sym (needs_renamed xs)) r.room;
    keys = have_renamed q.has xs r.keys;
    follows = all_renamed (span v) xs r.follows;
    ends = r.ends ∙ sym (after_renamed (span v) xs);
  }

-- what was prepared alone can be taken
pub prepared_takes : {E V : Type 0} (v now : Shown) (q next : Promise) (x : Item E V) → now ≡ v → q.ends ≡ span v → MayFollow q.ends x → next ≡ promised q x → CanTake now next x
prepared_takes v now q next x same ends follows is =
    subst (λ w. CanTake w next x) (sym same)
    (subst (λ p. CanTake v p x) (sym is) (ready_can v (promised q x) x [] (ready_more v q [] x (ready_none v q ends) follows)))

-- and once it was taken, the ends that were promised are those of the entries
pub taken_rests : (n : ℕ) (v now : Shown) (q next : Promise) (x : Item Place (List ℕ)) → now ≡ v → q.ends ≡ span v → MayFollow q.ends x → next ≡ promised q x → (kept next x).ends ≡ span (stepped n now x)
taken_rests n v now q next x same ends follows is =
    ap (λ p. (kept p x).ends) is ∙ (ready_next n v (promised q x) x [] (ready_more v q [] x (ready_none v q ends) follows)).ends ∙ ap (λ u. span (stepped n u x)) (sym same)

-- of what was prepared alone nothing is promised any more
pub taken_forgets : {E V : Type 0} (q : Promise) (x : Item E V) → IsForgotten q → IsForgotten (kept (promised q x) x)
taken_forgets q (Run f es) h = ((let none = h.0 in let left : q.wanted + length es - length es ≡ 0 = omega (arith, none) in left), h.1)
taken_forgets q Clean h = h
taken_forgets q (Compact c) h = h
taken_forgets q (Put k v) h = h
taken_forgets q (Del k) h = h
