-- Requests in range keep voters in range.
use Rattle.std.proofs.Common.{◌≡◌, ℕ, suc, zero, ◌+◌, ◌-◌, ◌^◌, ◌≤◌, ◌<◌, ◌==◌, ◌&&◌, ◌∙◌, nat_lt, nat_le, Bool, true, false, List, [], ◌∷◌, ◌++◌, length, take, drop, Some, None, unwrap_or, slice_get, refl, arith}
use Rattle.std.specs.Prelude.{max, min}
use Rattle.std.proofs.Math.Nat.{le-max_left, le-max_right, max-le, min-le_left}
use Rattle.std.proofs.lemmas.Bool.{leb-true, ltb-true}
use Rattle.std.proofs.lemmas.Bool.Decides.{nat_tests}
use Rattle.std.proofs.lemmas.List.Folds.{list_all-append}
use Rattle.std.specs.List.{list_all}
use Rattle.std.specs.Option.{option_map}
use Rattle.raft_voter_messages.specs.declared.request.Request.{Request}
use Rattle.raft_voter_messages.specs.declared.request.Request.TheVariants.{Vote, Append, Compact, Install, Read, Status, Retire}
use Rattle.raft_voter_messages.specs.Ranges.{entries_fit, entry_fits, fits, in_range, total_bytes}
use Rattle.raft_voter.specs.InRange.{IsInRange, IsStorable}
use Rattle.raft_voter.specs.Laws.{RangeIsKept, StorableIsKept}
use Rattle.raft_voter_outline.specs.Outlines.{append_write, write_of}
use Rattle.raft_voter_outline.specs.declared.outline.decision.Write.{Write}
use Rattle.raft_voter_outline.specs.declared.outline.decision.Write.TheVariants.{StateAlone}
use Rattle.raft_voter_outline.specs.Rules.{agrees_at, appended, can_compact, compacted, grants, installed, matching, merged, next_in_range}
use Rattle.raft_voter_outline.specs.State.{State, adopt_term, entry_at, fresh, last_index, term_at}
use Rattle.raft_voter_outline.proofs.Public.{append_small, base_small-next, by_test, does_append, does_compact, does_install, does_vote, written_small, Does}

left : (a b : Bool) → (a && b) ≡ true → a ≡ true
left true b h = refl
left false b h = h

right : (a b : Bool) → (a && b) ≡ true → b ≡ true
right true b h = h
right false b h = cc

both : (a b : Bool) → a ≡ true → b ≡ true → (a && b) ≡ true
both a b e f = rw (e, f) refl

all_take : (n : ℕ) (es : List (ℕ × List ℕ)) → list_all entry_fits es ≡ true → list_all entry_fits (take n es) ≡ true
all_take zero es h = refl
all_take (suc n) [] h = refl
all_take (suc n) (e ∷ es) h = both _ _ (left (entry_fits e) _ h) (all_take n es (right (entry_fits e) _ h))

all_drop : (n : ℕ) (es : List (ℕ × List ℕ)) → list_all entry_fits es ≡ true → list_all entry_fits (drop n es) ≡ true
all_drop zero es h = h
all_drop (suc n) [] h = refl
all_drop (suc n) (e ∷ es) h = all_drop n es (right (entry_fits e) _ h)

all_append : (es fs : List (ℕ × List ℕ)) → list_all entry_fits es ≡ true → list_all entry_fits fs ≡ true → list_all entry_fits (es ++ fs) ≡ true
all_append es fs h k = list_all-append entry_fits es fs ∙ both _ _ h k

all_merged : (old sent : List (ℕ × List ℕ)) → list_all entry_fits old ≡ true → list_all entry_fits sent ≡ true → list_all entry_fits (merged old sent) ≡ true
all_merged old sent h k =
    by_test (λ es. list_all entry_fits es ≡ true) (matching old sent == length sent) old _ (λ _. h)
    (λ _. all_append (take (matching old sent) old) (drop (matching old sent) sent) (all_take _ old h) (all_drop _ sent k))

term_of_fits : (es : List (ℕ × List ℕ)) (k : ℕ) → list_all entry_fits es ≡ true → fits (unwrap_or (option_map (λ e. e.0) (slice_get es k)) 0) ≡ true
term_of_fits [] k h = refl
term_of_fits (e ∷ es) zero h = left (fits e.0) _ (left (entry_fits e) _ h)
term_of_fits (e ∷ es) (suc k) h = term_of_fits es k (right (entry_fits e) _ h)

term_at_fits : (v : State) (i : ℕ) → IsInRange v → fits (unwrap_or (term_at v i) 0) ≡ true
term_at_fits v i r =
    by_test (λ o. fits (unwrap_or o 0) ≡ true) (i == v.base_index) (Some v.base_term) (option_map (λ e. e.0) (entry_at v i)) (λ _. r.base_term)
    (λ _. by_test (λ o. fits (unwrap_or (option_map (λ (e : ℕ × List ℕ). e.0) o) 0) ≡ true) (nat_lt v.base_index i) (slice_get v.log (i - v.base_index - 1)) None (λ _. term_of_fits v.log _ r.log) (λ _. refl))

fits_max : (a b : ℕ) → fits a ≡ true → fits b ≡ true → fits (max a b) ≡ true
fits_max a b h k =
    let one : a < 2 ^ 63 = ltb-true a (2 ^ 63) h in
    let two : b < 2 ^ 63 = ltb-true b (2 ^ 63) k in
    let top : ℕ = 2 ^ 63 - 1 in
    let le : max a b ≤ top = max-le (omega (arith, one)) (omega (arith, two)) in
    grind (arith, nat_tests)

fits_min : (a b : ℕ) → fits a ≡ true → fits (min a b) ≡ true
fits_min a b h = let le : min a b ≤ a = min-le_left a b in grind (arith, nat_tests)

adopted : (v : State) (t : ℕ) → IsInRange v → fits t ≡ true → IsInRange (adopt_term v t)
adopted v t r h =
    by_test IsInRange (nat_lt v.term t) (record v { term = t; vote = None }) v
    (λ _. record { term = h; vote = refl; base_index = r.base_index; base_term = r.base_term; commit = r.commit; committed = r.committed; log = r.log }) (λ _. r)

next_fits : (v : State) (q : Request) → IsInRange v → in_range q ≡ true → IsInRange (next_in_range v q)
next_fits v (Vote term candidate index last) r h =
    let others = right (fits term) (list_all fits (candidate ∷ index ∷ last ∷ [])) h in
    let a = adopted v term r (left (fits term) (list_all fits (candidate ∷ index ∷ last ∷ [])) h) in
    by_test IsInRange (grants v term candidate index last) (record (adopt_term v term) { vote = Some candidate }) (adopt_term v term)
    (λ _. record { term = a.term; vote = left (fits candidate) (list_all fits (index ∷ last ∷ [])) others; base_index = a.base_index; base_term = a.base_term; commit = a.commit; committed = a.committed; log = a.log }) (λ _. a)
next_fits v (Append term prev prev_term commit sent) r h =
    let numbers = list_all fits (term ∷ prev_term ∷ commit ∷ []) in
    let own = left numbers (entries_fit prev sent) h in
    let sum = right numbers (entries_fit prev sent) h in
    let brought = right (fits (prev + length sent) && nat_le (length sent) 1024) (list_all entry_fits sent) (left (fits (prev + length sent) && nat_le (length sent) 1024 && list_all entry_fits sent) (nat_le (total_bytes sent) 1048576) sum) in
    let others = right (fits term) (list_all fits (prev_term ∷ commit ∷ [])) own in
    let last = right (fits prev_term) (list_all fits (commit ∷ [])) others in
    let a = adopted v term r (left (fits term) (list_all fits (prev_term ∷ commit ∷ [])) own) in
    let w = adopt_term v term in
    let known = min commit (prev + length sent) in
    let raised : fits (max w.commit known) ≡ true = fits_max w.commit known a.commit (fits_min commit (prev + length sent) (left (fits commit) true last)) in
    let up : w.commit ≤ max w.commit known = le-max_left w.commit known in
    by_test IsInRange (nat_lt term v.term) v _ (λ _. r)
    (λ _. by_test IsInRange (agrees_at v prev prev_term) (appended w prev commit sent) w
    (λ _. record {
      term = a.term;
      vote = a.vote;
      base_index = a.base_index;
      base_term = a.base_term;
      commit = raised;
      committed = omega (arith, a.committed, up);
      log = all_append (take (prev - w.base_index) w.log) (merged (drop (prev - w.base_index) w.log) sent)
          (all_take (prev - w.base_index) w.log a.log) (all_merged (drop (prev - w.base_index) w.log) sent (all_drop (prev - w.base_index) w.log a.log) brought);
    }) (λ _. a))
next_fits v (Compact index) r h =
    by_test IsInRange (can_compact v index) (compacted v index) v
    (λ can. record { term = r.term; vote = r.vote; base_index = h; base_term = term_at_fits v index r; commit = r.commit; committed = leb-true index v.commit (right (nat_lt v.base_index index && nat_le index (last_index v)) (nat_le index v.commit) can); log = all_drop (index - v.base_index) v.log r.log }) (λ _. r)
next_fits v (Install term index entry_term) r h =
    let others = right (fits term) (list_all fits (index ∷ entry_term ∷ [])) h in
    let last = right (fits index) (list_all fits (entry_term ∷ [])) others in
    let a = adopted v term r (left (fits term) (list_all fits (index ∷ entry_term ∷ [])) h) in
    let w = adopt_term v term in
    by_test IsInRange (nat_lt term v.term) v _ (λ _. r)
    (λ _. by_test IsInRange (nat_le index v.base_index) w (installed w index entry_term) (λ _. a)
    (λ _. record {
      term = a.term;
      vote = a.vote;
      base_index = left (fits index) (list_all fits (entry_term ∷ [])) others;
      base_term = left (fits entry_term) true last;
      commit = fits_max w.commit index a.commit (left (fits index) (list_all fits (entry_term ∷ [])) others);
      committed = le-max_right w.commit index;
      log = by_test (λ es. list_all entry_fits es ≡ true) (agrees_at w index entry_term) (drop (index - w.base_index) w.log) []
          (λ _. all_drop (index - w.base_index) w.log a.log) (λ _. refl);
    }))
next_fits v (Read from to) r h = r
next_fits v Status r h = r
next_fits v Retire r h = record { term = refl; vote = refl; base_index = refl; base_term = refl; commit = refl; committed = omega arith; log = refl }

fresh_fits : IsInRange fresh
fresh_fits = record { term = refl; vote = refl; base_index = refl; base_term = refl; commit = refl; committed = omega arith; log = refl }

pub range_is_kept : RangeIsKept
range_is_kept = (fresh_fits, λ v q r. by_test IsInRange (in_range q) (next_in_range v q) v (λ h. next_fits v q r h) (λ _. r))

-- The last index stays in range.

end_written :
    (v : State) (q : Request) (w : Write) → Does v q w → (next_in_range v q).base_index < 2 ^ 63 → last_index v < 2 ^ 63
    → last_index (next_in_range v q) < 2 ^ 63
end_written v q w does base small =
    rw does.log_is (written_small w q v (next_in_range v q).base_index does.can does.rests base small)

end_kept :
    (q : Request) (v : State) → in_range q ≡ true → last_index v < 2 ^ 63 → last_index (next_in_range v q) < 2 ^ 63
end_kept (Vote t c i u) v fit small =
    let base = base_small-next (Vote t c i u) v fit (omega (arith, small)) in
    end_written v (Vote t c i u) StateAlone (does_vote v t c i u) base small
end_kept (Append t p u c sent) v fit small =
    let base = base_small-next (Append t p u c sent) v fit (omega (arith, small)) in
    let does = does_append v t p u c sent (append_small t p u c sent fit) in
    end_written v (Append t p u c sent) (append_write v t p u sent) does base small
end_kept (Compact i) v fit small =
    let base = base_small-next (Compact i) v fit (omega (arith, small)) in
    end_written v (Compact i) (write_of v (Compact i)) (does_compact v i) base small
end_kept (Install t i u) v fit small =
    let base = base_small-next (Install t i u) v fit (omega (arith, small)) in
    end_written v (Install t i u) (write_of v (Install t i u)) (does_install v t i u) base small
end_kept (Read from to) v fit small = small
end_kept Status v fit small = small
end_kept Retire v fit small = omega arith

fresh_is_storable : IsStorable fresh
fresh_is_storable = record { in_range = fresh_fits; end_fits = omega arith }

pub storable_is_kept : StorableIsKept
storable_is_kept = (
  fresh_is_storable,
  λ v q s. record {
    in_range = range_is_kept.1 v q s.in_range;
    end_fits = by_test (λ (w : State). last_index w < 2 ^ 63) (in_range q) (next_in_range v q) v (λ h. end_kept q v h s.end_fits) (λ _. s.end_fits);
  },
)
