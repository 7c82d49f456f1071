use Rattle.std.proofs.Common.{◌≡◌, ◌≢◌, ℕ, ◌+◌, ◌-◌, ◌≤◌, ◌<◌, ◌==◌, List, ◌++◌, length, take, drop, true, false, Option, None, Some, refl, sym, ap, ◌∙◌, inl, inr, arith}
use Rattle.std.specs.Prelude.{slice_get, min, nat_lt, if◌then◌else◌, IsSomeAnd}
use Rattle.std.proofs.lemmas.Bool.{cases_Bool, cases_lt, eq-eqb, ltb-true, ltb-false}
use Rattle.std.proofs.lemmas.Bool.Decides.{nat_tests}
use Rattle.std.proofs.lemmas.List.{take-append-drop}
use Rattle.std.proofs.lemmas.Option.{slice_get_within}
use Rattle.raft_voter_messages.specs.declared.reply.Reply.TheVariants.{Matched, Mismatch, Stale, Base, Refused}
use Rattle.raft_voter_messages.specs.declared.request.Request.TheVariants.{Append}
use Rattle.raft_voter_outline.specs.State.{State, adopt_term, entry_at, last_index, term_at}
use Rattle.raft_voter_outline.specs.Rules.{agrees_at, appended, matching, merged, merged_log, next, reply}
use Rattle.raft_voter_messages.specs.Ranges.{in_range}
use Rattle.raft_voter.specs.Laws.{BringsOther, MatchedAppend, sent_at}
use Rattle.raft_voter_outline.proofs.Public.{base-adopt_term, get_back, get_drop, get_front, get_merged_back, get_merged_front, log-adopt_term, matches_before, matching-le, other_there, reaches, term_of, Pair}

-- What a matched Append had to meet.
pub record Matches (v : State) (t p u commit last : ℕ) (sent : List Pair) : Type 0 where
  pub fit : in_range (Append t p u commit sent) ≡ true
  pub current : nat_lt t v.term ≡ false
  pub above : v.base_index ≤ p
  pub agrees : agrees_at v p u ≡ true
  pub ends : last ≡ p + length sent

pub matches_of :
    (v : State) (t p u commit last : ℕ) (sent : List Pair) → reply v (Append t p u commit sent) ≡ Matched last → Matches v t p u commit last sent
matches_of v t p u commit last sent is = elim (cases_Bool (in_range (Append t p u commit sent))) [
  | inr out ↦ let whole : Refused ≡ Matched last = rw out at is in absurd (cc)
  | inl fit ↦ elim (cases_Bool (nat_lt t v.term)) [
    | inl stale ↦ let whole : Stale v.term ≡ Matched last = rw (fit, stale) at is in absurd (cc)
    | inr current ↦ elim (cases_Bool (nat_lt p v.base_index)) [
      | inl below ↦ let whole : Base v.base_index ≡ Matched last = rw (fit, current, below) at is in absurd (cc)
      | inr above ↦ elim (cases_Bool (agrees_at v p u)) [
        | inr differs ↦
            let whole : Mismatch (min (last_index v) (p - 1)) ≡ Matched last = rw (fit, current, above, differs) at is in
            absurd (cc)
        | inl agrees ↦
            let whole : Matched (p + length sent) ≡ Matched last = rw (fit, current, above, agrees) at is in
            record {
              fit = fit;
              current = current;
              above = ltb-false p v.base_index above;
              agrees = agrees;
              ends = cc;
            }
      ]
    ]
  ]
]

pub next_matched :
    (v : State) (t p u commit last : ℕ) (sent : List Pair) → Matches v t p u commit last sent
    → next v (Append t p u commit sent) ≡ appended (adopt_term v t) p commit sent
next_matched v t p u commit last sent m = rw (m.fit, m.current, m.agrees) refl

-- the entry at an index, of a log above a base
abbrev pub entry_in : ℕ → List Pair → ℕ → Option Pair
entry_in base log i = if nat_lt base i then slice_get log (i - base - 1) else None

pub base-next_matched :
    (v : State) (t p u commit last : ℕ) (sent : List Pair) → Matches v t p u commit last sent
    → (next v (Append t p u commit sent)).base_index ≡ v.base_index
base-next_matched v t p u commit last sent m =
    ap (λ (w : State). w.base_index) (next_matched v t p u commit last sent m) ∙ base-adopt_term v t

pub log-next_matched :
    (v : State) (t p u commit last : ℕ) (sent : List Pair) → Matches v t p u commit last sent
    → (next v (Append t p u commit sent)).log ≡ merged_log v p sent
log-next_matched v t p u commit last sent m =
    ap (λ (w : State). w.log) (next_matched v t p u commit last sent m) ∙ rw (base-adopt_term v t, log-adopt_term v t) refl

pub entry-next_matched :
    (v : State) (t p u commit last i : ℕ) (sent : List Pair) → Matches v t p u commit last sent
    → entry_at (next v (Append t p u commit sent)) i ≡ entry_in v.base_index (merged_log v p sent) i
entry-next_matched v t p u commit last i sent m =
    ap (λ (b : ℕ). entry_in b (next v (Append t p u commit sent)).log i) (base-next_matched v t p u commit last sent m)
    ∙ ap (λ (l : List Pair). entry_in v.base_index l i) (log-next_matched v t p u commit last sent m)

-- entries up to the one before those sent stay
pub entry_before :
    (b p i : ℕ) (log more : List Pair) → b ≤ p → p - b ≤ length log → i ≤ p
    → entry_in b (take (p - b) log ++ more) i ≡ entry_in b log i
entry_before b p i log more above within before = elim (cases_Bool (nat_lt b i)) [
  | inl inside ↦
      let below : b < i = ltb-true b i inside in
      rw inside (get_front (p - b) log more (i - b - 1) (omega arith) within)
  | inr out ↦ rw out refl
]

-- those after it are the merged ones
pub entry_behind :
    (b p i : ℕ) (log more : List Pair) → b ≤ p → p - b ≤ length log → p < i
    → entry_in b (take (p - b) log ++ more) i ≡ slice_get more (i - p - 1)
entry_behind b p i log more above within behind =
    let inside : nat_lt b i ≡ true = grind (arith, nat_tests) in
    let place : i - b - 1 ≡ (p - b) + (i - p - 1) = omega arith in
    rw (inside, place) (get_back (p - b) log more (i - p - 1) within)

pub entry_own :
    (b p i : ℕ) (log : List Pair) → b ≤ p → p < i → entry_in b log i ≡ slice_get (drop (p - b) log) (i - p - 1)
entry_own b p i log above behind =
    let inside : nat_lt b i ≡ true = grind (arith, nat_tests) in
    let place : i - b - 1 ≡ (p - b) + (i - p - 1) = omega arith in
    rw (inside, place) (sym (get_drop (p - b) log (i - p - 1)))

pub term_own :
    (v : State) (p i : ℕ) → v.base_index ≤ p → p < i
    → term_at v i ≡ term_of (slice_get (drop (p - v.base_index) v.log) (i - p - 1))
term_own v p i above behind =
    let apart : (i == v.base_index) ≡ false = grind (arith, nat_tests) in
    rw apart (ap term_of (entry_own v.base_index p i v.log above behind))

-- Where the first other term comes.

pub brings_first :
    (v : State) (p : ℕ) (sent : List Pair) → v.base_index ≤ p
    → matching (drop (p - v.base_index) v.log) sent < length sent
    → BringsOther v p sent (p + 1 + matching (drop (p - v.base_index) v.log) sent)
brings_first v p sent above more =
    let old = drop (p - v.base_index) v.log in
    let m = matching old sent in
    let there = other_there old sent more in
    let i = p + 1 + m in
    let behind : nat_lt p i ≡ true = grind (arith, nat_tests) in
    let place : i - p - 1 ≡ m = omega arith in
    let term : term_at v i ≡ term_of (slice_get old m) = term_own v p i above (omega arith) ∙ ap (λ k. term_of (slice_get old k)) place in
    let here : sent_at p sent i ≡ Some there.0 = rw (behind, place) there.1 in
    rw (here, term) there.2

pub brings_none :
    (v : State) (p j : ℕ) (sent : List Pair) → v.base_index ≤ p
    → j < p + 1 + matching (drop (p - v.base_index) v.log) sent → BringsOther v p sent j → ⊥
brings_none v p j sent above before brings = elim (cases_Bool (nat_lt p j)) [
  | inr out ↦ rw out at brings
  | inl inside ↦
      let behind : p < j = ltb-true p j inside in
      let old = drop (p - v.base_index) v.log in
      let same = matches_before old sent (j - p - 1) (omega arith) in
      let here : sent_at p sent j ≡ Some same.1 = rw inside same.3 in
      let other : term_at v j ≢ Some same.1.0 = rw here at brings in
      other (term_own v p j above behind ∙ ap term_of same.2 ∙ ap (λ k. Some k) same.4)
]

-- an entry that is brought is one of those sent
some_and : (o : Option Pair) (P : Pair → Type 0) → IsSomeAnd o P → (e : Pair) × (o ≡ Some e)
some_and None P h = absurd h
some_and (Some e) P h = (e, refl)

pub sent_within :
    (p i : ℕ) (sent : List Pair) (e : Pair) → sent_at p sent i ≡ Some e
    → (p < i) × (i - p - 1 < length sent) × (slice_get sent (i - p - 1) ≡ Some e)
sent_within p i sent e here = elim (cases_Bool (nat_lt p i)) [
  | inr out ↦ let none : None ≡ Some e = rw out at here in absurd (cc)
  | inl inside ↦
      let there : slice_get sent (i - p - 1) ≡ Some e = rw inside at here in
      (ltb-true p i inside, slice_get_within sent (i - p - 1) e there, there)
]

-- entries before the first other one stay
pub entry_kept :
    (v : State) (t p u commit last i : ℕ) (sent : List Pair) → Matches v t p u commit last sent
    → i < p + 1 + matching (drop (p - v.base_index) v.log) sent
    → entry_at (next v (Append t p u commit sent)) i ≡ entry_at v i
entry_kept v t p u commit last i sent m before =
    let b = v.base_index in
    let old = drop (p - b) v.log in
    let within = reaches v p u m.above m.agrees in
    entry-next_matched v t p u commit last i sent m ∙ elim (cases_lt p i) as (λ x. entry_in b (merged_log v p sent) i ≡ entry_in b v.log i) [
      | inr front ↦ entry_before b p i v.log (merged old sent) m.above within front
      | inl behind ↦
          entry_behind b p i v.log (merged old sent) m.above within behind
          ∙ get_merged_front old sent (i - p - 1) (omega (arith, before))
          ∙ sym (entry_own b p i v.log m.above behind)
    ]

-- from there on they are those sent
pub entry_brought :
    (v : State) (t p u commit last i : ℕ) (sent : List Pair) → Matches v t p u commit last sent
    → matching (drop (p - v.base_index) v.log) sent < length sent
    → p + 1 + matching (drop (p - v.base_index) v.log) sent ≤ i
    → entry_at (next v (Append t p u commit sent)) i ≡ sent_at p sent i
entry_brought v t p u commit last i sent m less past =
    let b = v.base_index in
    let old = drop (p - b) v.log in
    let within = reaches v p u m.above m.agrees in
    let behind : p < i = omega (arith, past) in
    let inside : nat_lt p i ≡ true = grind (arith, nat_tests) in
    entry-next_matched v t p u commit last i sent m
    ∙ entry_behind b p i v.log (merged old sent) m.above within behind
    ∙ get_merged_back old sent (i - p - 1) less (omega (arith, past))
    ∙ rw inside refl

-- where all match the log is the old one
pub log_kept :
    (v : State) (t p u commit last : ℕ) (sent : List Pair) → Matches v t p u commit last sent
    → length sent ≤ matching (drop (p - v.base_index) v.log) sent → (next v (Append t p u commit sent)).log ≡ v.log
log_kept v t p u commit last sent m all =
    let old = drop (p - v.base_index) v.log in
    let whole : (matching old sent == length sent) ≡ true = eq-eqb (matching old sent) (length sent) (omega (arith, (matching-le old sent).1)) in
    log-next_matched v t p u commit last sent m ∙ rw whole (take-append-drop (p - v.base_index) v.log)

-- the least index of another term is right behind what matches
first_other :
    (v : State) (p f : ℕ) (sent : List Pair) → v.base_index ≤ p → BringsOther v p sent f
    → ((j : ℕ) → j < f → ¬ BringsOther v p sent j)
    → (matching (drop (p - v.base_index) v.log) sent < length sent)
    × (f ≡ p + 1 + matching (drop (p - v.base_index) v.log) sent)
first_other v p f sent above brings least =
    let m = matching (drop (p - v.base_index) v.log) sent in
    let first = p + 1 + m in
    let late : first ≤ f = elim (cases_lt f first) [
      | inl early ↦ absurd (brings_none v p f sent above early brings)
      | inr late ↦ late
    ] in
    let there = some_and (sent_at p sent f) (λ e. term_at v f ≢ Some e.0) brings in
    let inside = sent_within p f sent there.0 there.1 in
    let less : m < length sent = omega (arith, inside.1, late) in
    let early : f ≤ first = elim (cases_lt first f) [
      | inl later ↦ absurd (least first later (brings_first v p sent above less))
      | inr early ↦ early
    ] in
    (less, omega (arith, late, early))

pub matched_append : MatchedAppend
matched_append v t p u commit last sent is =
    let m = matches_of v t p u commit last sent is in (
      λ f brings least i. let first = first_other v p f sent m.above brings least in (
        λ before. entry_kept v t p u commit last i sent m (omega (arith, first.1, before)),
        λ past. entry_brought v t p u commit last i sent m first.0 (omega (arith, first.1, past)),
      ),
      λ none. elim (cases_lt (matching (drop (p - v.base_index) v.log) sent) (length sent)) [
        | inl less ↦ absurd (none (p + 1 + matching (drop (p - v.base_index) v.log) sent) (brings_first v p sent m.above less))
        | inr all ↦ log_kept v t p u commit last sent m all
      ],
    )

-- A matched entry is there ..
pub matched_there :
    (v : State) (t p u commit last i : ℕ) (sent : List Pair) (e : Pair) → Matches v t p u commit last sent → sent_at p sent i ≡ Some e
    → (bytes : List ℕ) × (entry_at (next v (Append t p u commit sent)) i ≡ Some (e.0, bytes))
matched_there v t p u commit last i sent e m here =
    let b = v.base_index in
    let old = drop (p - b) v.log in
    let inside = sent_within p i sent e here in
    elim (cases_lt (i - p - 1) (matching old sent)) [
      | inl before ↦
          let same = matches_before old sent (i - p - 1) before in
          let one : same.1 ≡ e = let found : Some same.1 ≡ Some e = sym same.3 ∙ inside.2 in cc in
          let stands : entry_at v i ≡ Some same.0 = entry_own b p i v.log m.above inside.0 ∙ same.2 in (
            same.0.1,
            entry_kept v t p u commit last i sent m (omega (arith, before)) ∙ stands
                ∙ ap (λ (k : ℕ). let made : Option Pair = Some (k, same.0.1) in made) (same.4 ∙ ap (λ (x : Pair). x.0) one),
          )
      | inr past ↦
          let less : matching old sent < length sent = omega (arith, inside.1, past) in
          (e.1, entry_brought v t p u commit last i sent m less (omega (arith, inside.0, past)) ∙ here)
    ]
