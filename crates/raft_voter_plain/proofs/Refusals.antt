-- The refused places of a round are those whose reply is Refused.
use Rattle.std.proofs.Common.{◌≡◌, ℕ, ◌+◌, ◌<◌, ◌≤◌, ◌==◌, ◌||◌, ◌∙◌, nat_lt, nat_le, Bool, true, false, cond, not, List, [], ◌∷◌, ◌++◌, length, append_assoc, refl, sym, ap, subst, arith}
use Rattle.std.proofs.lemmas.Bool.Decides.{nat_tests}
use Rattle.raft_voter_messages.specs.declared.reply.Reply.{Reply}
use Rattle.raft_voter_messages.specs.declared.reply.Reply.TheVariants.{Granted, Denied, Matched, Mismatch, Stale, Base, Entries, Gone, Unknown, Status as StatusReply, Retired, Refused}
use Rattle.raft_voter_messages.specs.declared.request.Request.{Request}
use Rattle.raft_voter_messages.specs.declared.request.Request.TheVariants.{Vote, Append, Compact, Install, Read, Status, Retire}
use Rattle.raft_voter.specs.Rounds.{World, after, after_one, are_rising, is_among, replies_from, taken_from}
use Rattle.raft_voter.specs.Rules.{agrees_at, can_compact, grants, next, next_in_range, reply, reply_in_range}
use Rattle.raft_voter_messages.specs.Ranges.{in_range}
use Rattle.raft_voter.specs.State.{State, adopt_term, last_index}
use Rattle.raft_voter.specs.Service.{Answers, is_refused, out_of_range, refused_from}
use Rattle.raft_voter_plain.specs.Store.{replies_in_turn}
use Rattle.raft_voter.proofs.Public.{by_test}
use Rattle.raft_voter_plain.proofs.Ranges.{put_same}

named_refused : (r : Reply) → is_refused r ≡ true → r ≡ Refused
named_refused (Granted n) h = cc
named_refused (Denied n) h = cc
named_refused (Matched n) h = cc
named_refused (Mismatch n) h = cc
named_refused (Stale n) h = cc
named_refused (Base n) h = cc
named_refused (Entries es) h = cc
named_refused (Gone n) h = cc
named_refused (Unknown n) h = cc
named_refused (StatusReply s) h = cc
named_refused Retired h = cc
named_refused Refused h = refl

-- a voter refuses nothing that is in range
answered : (v : State) (q : Request) → is_refused (reply_in_range v q) ≡ false
answered v (Vote term candidate index last) =
    by_test (λ r. is_refused r ≡ false) (grants v term candidate index last) (Granted term) (Denied (adopt_term v term).term) (λ _. refl) (λ _. refl)
answered v (Append term prev prev_term commit sent) =
    by_test (λ r. is_refused r ≡ false) (nat_lt term v.term) (Stale v.term) _ (λ _. refl)
    (λ _. by_test (λ r. is_refused r ≡ false) (nat_lt prev v.base_index) (Base v.base_index) _ (λ _. refl)
    (λ _. by_test (λ r. is_refused r ≡ false) (agrees_at v prev prev_term) (Matched _) (Mismatch _) (λ _. refl) (λ _. refl)))
answered v (Compact index) = by_test (λ r. is_refused r ≡ false) (can_compact v index) (Base index) (Base v.base_index) (λ _. refl) (λ _. refl)
answered v (Install term index entry_term) =
    by_test (λ r. is_refused r ≡ false) (nat_lt term v.term) (Stale v.term) _ (λ _. refl)
    (λ _. by_test (λ r. is_refused r ≡ false) (nat_le index v.base_index) (Base v.base_index) (Base index) (λ _. refl) (λ _. refl))
answered v (Read from to) =
    by_test (λ r. is_refused r ≡ false) (nat_le from v.base_index) (Gone v.base_index) _ (λ _. refl)
    (λ _. by_test (λ r. is_refused r ≡ false) (nat_le to from) (Entries []) _ (λ _. refl)
    (λ _. by_test (λ r. is_refused r ≡ false) (nat_lt (last_index v + 1) to) (Unknown (last_index v)) (Entries _) (λ _. refl) (λ _. refl)))
answered v Status = refl
answered v Retire = refl

-- and it refuses all that isn't
refuses : (v : State) (q : Request) → is_refused (reply v q) ≡ not (in_range q)
refuses v q =
    by_test (λ r. is_refused r ≡ not (in_range q)) (in_range q) (reply_in_range v q) Refused (λ e. answered v q ∙ sym (ap not e)) (λ e. sym (ap not e))

turned : (b : Bool) (xs ys : List ℕ) → cond (not b) ys xs ≡ cond b xs ys
turned true xs ys = refl
turned false xs ys = refl

-- of requests that are taken in turn those out of range are refused
pub refused_in_turn : (place : ℕ) (W : World) (qs : List (ℕ × Request)) → refused_from place (replies_in_turn W qs) ≡ out_of_range place qs
refused_in_turn place W [] = refl
refused_in_turn place W (q ∷ qs) =
    rw (refuses (W q.0) q.1, refused_in_turn (place + 1) (after_one W q) qs) (turned (in_range q.1) (out_of_range (place + 1) qs) (place ∷ out_of_range (place + 1) qs))

-- what is refused changes nothing
refused_stays_at : (v : State) (q : Request) (fit : Bool) → is_refused (cond fit (reply_in_range v q) Refused) ≡ true → cond fit (next_in_range v q) v ≡ v
refused_stays_at v q true h = let out = answered v q in cc
refused_stays_at v q false h = refl

refused_stays : (W : World) (q : ℕ × Request) → is_refused (reply (W q.0) q.1) ≡ true → after_one W q ≡ W
refused_stays W q h = put_same W q.0 (next (W q.0) q.1) (refused_stays_at (W q.0) q.1 (in_range q.1) h)

-- Places.

-- places before one aren't it
abbrev AreBelow : ℕ → List ℕ → Type 0
AreBelow k ps = (j : ℕ) → k ≤ j → is_among ps j ≡ false

among_append : (ps qs : List ℕ) (k : ℕ) → is_among (ps ++ qs) k ≡ (is_among ps k || is_among qs k)
among_append [] qs k = refl
among_append (p ∷ ps) qs k = elim (p == k) as (λ b. (b || is_among (ps ++ qs) k) ≡ ((b || is_among ps k) || is_among qs k)) [ true ↦ refl | false ↦ among_append ps qs k ]

later : (k j : ℕ) (rs : List Reply) → k < j → is_among (refused_from j rs) k ≡ false
later k j [] h = refl
later k j (r ∷ rs) h =
    by_test (λ ps. is_among ps k ≡ false) (is_refused r) (j ∷ refused_from (j + 1) rs) (refused_from (j + 1) rs)
    (λ _. let out : (j == k) ≡ false = grind (arith, nat_tests) in rw out (later k (j + 1) rs (omega arith))) (λ _. later k (j + 1) rs (omega arith))

none_here : (k : ℕ) (pre more : List ℕ) → AreBelow k pre → is_among more k ≡ false → is_among (pre ++ more) k ≡ false
none_here k pre more below h = among_append pre more k ∙ rw (below k (omega arith), h) refl

here : (k : ℕ) (rs : List Reply) (pre : List ℕ) → AreBelow k pre → is_among (pre ++ k ∷ refused_from (k + 1) rs) k ≡ true
here k rs pre below =
    let own : (k == k) ≡ true = grind (arith, nat_tests) in
    among_append pre (k ∷ refused_from (k + 1) rs) k ∙ rw (below k (omega arith), own) refl

below_more : (k : ℕ) (pre : List ℕ) → AreBelow k pre → AreBelow (k + 1) pre
below_more k pre below = λ j h. below j (omega arith)

below_push : (k : ℕ) (pre : List ℕ) → AreBelow k pre → AreBelow (k + 1) (pre ++ k ∷ [])
below_push k pre below = λ j h.
    let out : (k == j) ≡ false = grind (arith, nat_tests) in
    among_append pre (k ∷ []) j ∙ rw (below j (omega arith), out) refl

-- The replies and the world, place by place.

abbrev Goes : ℕ → ℕ → World → List (ℕ × Request) → List ℕ → Type 0
Goes k n W qs ps = (replies_in_turn W qs ≡ replies_from k ps W qs) × (after W qs ≡ after W (taken_from k n ps qs))

goes_at : (k n : ℕ) (W : World) (q : ℕ × Request) (qs : List (ℕ × Request)) (pre : List ℕ) (refused : Bool) → is_refused (reply (W q.0) q.1) ≡ refused → AreBelow k pre → k < n
    → ((p : List ℕ) → AreBelow (k + 1) p → Goes (k + 1) n (after_one W q) qs (p ++ refused_from (k + 1) (replies_in_turn (after_one W q) qs)))
    → Goes k n W (q ∷ qs) (pre ++ refused_from k (replies_in_turn W (q ∷ qs)))
goes_at k n W q qs pre true h below short next_ones =
    let rest = refused_from (k + 1) (replies_in_turn (after_one W q) qs) in
    let same : after_one W q ≡ W = refused_stays W q h in
    let named : reply (W q.0) q.1 ≡ Refused = named_refused (reply (W q.0) q.1) h in
    let at : is_among (pre ++ k ∷ rest) k ≡ true = here k (replies_in_turn (after_one W q) qs) pre below in
    let more = next_ones (pre ++ k ∷ []) (below_push k pre below) in
    let shift : (pre ++ k ∷ []) ++ rest ≡ pre ++ k ∷ rest = append_assoc pre (k ∷ []) rest in
    let P : List ℕ → Type 0 = λ ps. Goes (k + 1) n (after_one W q) qs ps in
    let goes : P (pre ++ k ∷ rest) = subst P shift more in
    let inside : nat_lt k n ≡ true = grind (arith, nat_tests) in
    rw h (
      rw at (ap (λ r. r ∷ replies_in_turn (after_one W q) qs) named ∙ ap (λ rs. Refused ∷ rs) (goes.0 ∙ ap (λ (X : World). replies_from (k + 1) (pre ++ k ∷ rest) X qs) same)),
      rw (at, inside) (goes.1 ∙ ap (λ (X : World). after X (taken_from (k + 1) n (pre ++ k ∷ rest) qs)) same),
    )
goes_at k n W q qs pre false h below short next_ones =
    let rest = refused_from (k + 1) (replies_in_turn (after_one W q) qs) in
    let out : is_among (pre ++ rest) k ≡ false = none_here k pre rest below (later k (k + 1) (replies_in_turn (after_one W q) qs) (omega arith)) in
    let goes = next_ones pre (below_more k pre below) in
    let inside : nat_lt k n ≡ true = grind (arith, nat_tests) in
    rw h (rw out (ap (λ rs. reply (W q.0) q.1 ∷ rs) goes.0), rw (out, inside) goes.1)

goes : (k n : ℕ) (W : World) (qs : List (ℕ × Request)) (pre : List ℕ) → AreBelow k pre → k + length qs ≤ n
    → Goes k n W qs (pre ++ refused_from k (replies_in_turn W qs))
goes k n W [] pre below h = (refl, refl)
goes k n W (q ∷ qs) pre below h =
    goes_at k n W q qs pre (is_refused (reply (W q.0) q.1)) refl below (omega arith) (λ p b. goes (k + 1) n (after_one W q) qs p b (omega arith))

rising : (low k high : ℕ) (rs : List Reply) → low ≤ k → k + length rs ≤ high → are_rising low high (refused_from k rs) ≡ true
rising low k high [] a b = refl
rising low k high (r ∷ rs) a b =
    by_test (λ ps. are_rising low high ps ≡ true) (is_refused r) (k ∷ refused_from (k + 1) rs) (refused_from (k + 1) rs)
    (λ _. let first : nat_le low k ≡ true = grind (arith, nat_tests) in let last : nat_lt k high ≡ true = grind (arith, nat_tests) in rw (first, last) (rising (k + 1) (k + 1) high rs (omega arith) (omega arith)))
    (λ _. rising low (k + 1) high rs (omega arith) (omega arith))

length-replies : (W : World) (qs : List (ℕ × Request)) → length (replies_in_turn W qs) ≡ length qs
length-replies W [] = refl
length-replies W (q ∷ qs) = let more = length-replies (after_one W q) qs in omega arith

pub answers : (W X : World) (qs : List (ℕ × Request)) (rs : List Reply) → rs ≡ replies_in_turn W qs → X ≡ after W qs → Answers W qs rs X
answers W X qs rs e f =
    let size = length-replies W qs in
    let both = goes 0 (length qs) W qs [] (λ j h. refl) (omega arith) in
    rw e (record { rising = rising 0 0 (length qs) (replies_in_turn W qs) (omega arith) (omega arith); told = both.0; taken = f ∙ both.1 })
