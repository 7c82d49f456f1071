-- What a Read is answered.
use Rattle.std.proofs.Common.{◌≡◌, ℕ, zero, suc, ◌+◌, ◌-◌, ◌≤◌, ◌<◌, List, [], ◌∷◌, length, take, drop, nat_lt, nat_le, true, Some, refl, sym, ap, ◌∙◌, inl, inr, arith}
use Rattle.std.specs.Prelude.{slice_get}
use Rattle.std.proofs.lemmas.Bool.{cases_Bool}
use Rattle.std.proofs.lemmas.Bool.Decides.{nat_tests}
use Rattle.std.proofs.lemmas.List.{length-drop, length-take-le}
use Rattle.raft_voter_messages.specs.declared.reply.Entry.{Entry}
use Rattle.raft_voter_messages.specs.declared.reply.Reply.TheVariants.{Entries, Gone, Unknown, Refused}
use Rattle.raft_voter_messages.specs.declared.request.Request.TheVariants.{Read}
use Rattle.raft_voter_messages.specs.Ranges.{in_range}
use Rattle.raft_voter_outline.specs.State.{State, entry_at, last_index}
use Rattle.raft_voter_outline.specs.Rules.{entries_between, numbered}
use Rattle.raft_voter.specs.Laws.{EntriesAreTheLog}
use Rattle.raft_voter_outline.proofs.Public.{get_drop, Pair}
use Rattle.raft_voter.proofs.Numbering.{length-numbered}

-- the k-th of them
numbered_at :
    (es : List Pair) (i k : ℕ) → k < length es
    → (e : Entry) × (slice_get (numbered i es) k ≡ Some e) × (e.index ≡ i + k) × (slice_get es k ≡ Some (e.term, e.bytes))
numbered_at [] i k h = absurd (omega (arith, h))
numbered_at (x ∷ es) i zero h = (record { index = i; term = x.0; bytes = x.1 }, refl, omega arith, refl)
numbered_at (x ∷ es) i (suc k) h =
    let rest = numbered_at es (i + 1) k (omega (arith, h)) in
    (rest.0, rest.1, omega (arith, rest.2), rest.3)

get_take : (n : ℕ) (es : List Pair) (k : ℕ) → k < n → slice_get (take n es) k ≡ slice_get es k
get_take zero es k h = absurd (omega (arith, h))
get_take (suc n) [] k h = refl
get_take (suc n) (e ∷ es) zero h = refl
get_take (suc n) (e ∷ es) (suc k) h = get_take n es k (omega (arith, h))

-- entries that are there
between :
    (v : State) (from to : ℕ) → v.base_index < from → from ≤ to → to ≤ last_index v + 1
    → (length (entries_between v from to) ≡ to - from)
    × ((k : ℕ) → k < length (entries_between v from to)
    → (e : Entry) × (slice_get (entries_between v from to) k ≡ Some e) × (e.index ≡ from + k) × (entry_at v (from + k) ≡ Some (e.term, e.bytes)))
between v from to above order within =
    let start = from - v.base_index - 1 in
    let some = take (to - from) (drop start v.log) in
    let left : length (drop start v.log) ≡ length v.log - start = length-drop start v.log in
    let size : length some ≡ to - from = length-take-le (to - from) (drop start v.log) (omega (arith, left, above, order, within)) in
    let whole : length (entries_between v from to) ≡ to - from = length-numbered from some ∙ size in (
      whole,
      λ k h.
          let found = numbered_at some from k (omega (arith, h, whole, size)) in
          let inside : nat_lt v.base_index (from + k) ≡ true = grind (arith, nat_tests) in
          let place : start + k ≡ from + k - v.base_index - 1 = omega (arith, above) in
          let there : slice_get v.log (from + k - v.base_index - 1) ≡ Some (found.0.term, found.0.bytes) =
          ap (λ j. slice_get v.log j) (sym place) ∙ sym (get_drop start v.log k)
          ∙ sym (get_take (to - from) (drop start v.log) k (omega (arith, h, whole))) ∙ found.3 in
          (found.0, found.1, found.2, rw inside there),
    )

none_read : (v : State) (from to : ℕ) (es : List Entry) → [] ≡ es → to ≤ from
    → (length es ≡ to - from)
    × ((k : ℕ) → k < length es → (e : Entry) × (slice_get es k ≡ Some e) × (e.index ≡ from + k) × (entry_at v (from + k) ≡ Some (e.term, e.bytes)))
none_read v from to [] same below = (omega (arith, below), λ k h. absurd (omega (arith, h)))
none_read v from to (e ∷ es) same below = absurd (cc)

pub entries_are_the_log : EntriesAreTheLog
entries_are_the_log v from to es is = elim (cases_Bool (in_range (Read from to))) [
  | inr out ↦ let whole : Refused ≡ Entries es = rw out at is in absurd (cc)
  | inl fit ↦ elim (cases_Bool (nat_le from v.base_index)) [
    | inl gone ↦ let whole : Gone v.base_index ≡ Entries es = rw (fit, gone) at is in absurd (cc)
    | inr above ↦ elim (cases_Bool (nat_le to from)) [
      | inl nothing ↦
          let whole : Entries [] ≡ Entries es = rw (fit, above, nothing) at is in
          none_read v from to es (cc) (grind (arith, nat_tests))
      | inr some ↦ elim (cases_Bool (nat_lt (last_index v + 1) to)) [
        | inl past ↦ let whole : Unknown (last_index v) ≡ Entries es = rw (fit, above, some, past) at is in absurd (cc)
        | inr within ↦
            let whole : Entries (entries_between v from to) ≡ Entries es = rw (fit, above, some, within) at is in
            let same : entries_between v from to ≡ es = cc in
            rw (← same) (between v from to (grind (arith, nat_tests)) (grind (arith, nat_tests)) (grind (arith, nat_tests)))
      ]
    ]
  ]
]
