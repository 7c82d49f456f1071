use Rattle.std.proofs.Common.{◌≡◌, ◌≢◌, ℕ, zero, suc, ◌+◌, ◌-◌, ◌≤◌, ◌<◌, List, [], ◌∷◌, ◌++◌, length, drop, true, Option, None, Some, refl, sym, ap, ◌∙◌, inl, inr, arith}
use Rattle.std.specs.Prelude.{nat_lt, nat_le, slice_get}
use Rattle.std.proofs.lemmas.Bool.{cases_Bool, cases_lt, eq-eqb}
use Rattle.std.proofs.lemmas.Bool.Decides.{nat_tests}
use Rattle.raft_voter_messages.specs.declared.reply.Reply.{Reply}
use Rattle.raft_voter_messages.specs.declared.reply.Reply.TheVariants.{Matched}
use Rattle.raft_voter_messages.specs.declared.request.Request.{Request}
use Rattle.raft_voter_messages.specs.declared.request.Request.TheVariants.{Vote, Append, Compact, Install, Read, Status, Retire}
use Rattle.raft_voter_outline.specs.State.{State, adopt_term, entry_at, fresh, term_at}
use Rattle.raft_voter_outline.specs.Rules.{agrees_at, can_compact, matching, next, next_in_range, reply}
use Rattle.raft_voter_messages.specs.Ranges.{in_range}
use Rattle.raft_voter.specs.Accounts.{voter_after, voter_from}
use Rattle.raft_voter.specs.Laws.{AllSpare, BringsOther, MatchedEntriesStand, MatchedIsAcknowledged, sent_at, SparesEntry}
use Rattle.raft_voter_outline.proofs.Public.{agrees_above, base-adopt_term, by_test, log-adopt_term, reaches, vote_next, Pair}
use Rattle.raft_voter.proofs.Appends.{base-next_matched, brings_first, entry_in, entry_kept, entry_own, log_kept, Matches, matches_of, matched_there}
use Rattle.raft_voter.proofs.Following.{group_runs, runs_append, voter_from-append}

-- a term that is taken over moves no entry
entry-adopt_term : (v : State) (t i : ℕ) → entry_at (adopt_term v t) i ≡ entry_at v i
entry-adopt_term v t i =
    by_test (λ (w : State). entry_at w i ≡ entry_at v i) (nat_lt v.term t) (record v { term = t; vote = None }) v (λ h. refl) (λ h. refl)

-- an Append that brings no other term at or below an index leaves its entry
matched_spares :
    (v : State) (t p u commit last i : ℕ) (sent : List Pair) → Matches v t p u commit last sent
    → ((j : ℕ) → j ≤ i → ¬ BringsOther v p sent j) → entry_at (next v (Append t p u commit sent)) i ≡ entry_at v i
matched_spares v t p u commit last i sent m none = elim (cases_lt (matching (drop (p - v.base_index) v.log) sent) (length sent)) [
  | inr all ↦
      ap (λ (b : ℕ). entry_in b (next v (Append t p u commit sent)).log i) (base-next_matched v t p u commit last sent m)
      ∙ ap (λ (l : List Pair). entry_in v.base_index l i) (log_kept v t p u commit last sent m all)
  | inl less ↦
      let first = p + 1 + matching (drop (p - v.base_index) v.log) sent in
      elim (cases_lt i first) [
        | inl before ↦ entry_kept v t p u commit last i sent m before
        | inr past ↦ absurd (none first past (brings_first v p sent m.above less))
      ]
]

append_spares :
    (v : State) (t p u commit i : ℕ) (sent : List Pair) → SparesEntry v i (Append t p u commit sent)
    → entry_at (next v (Append t p u commit sent)) i ≡ entry_at v i
append_spares v t p u commit i sent spares = elim (cases_Bool (in_range (Append t p u commit sent))) [
  | inr out ↦ rw out refl
  | inl fit ↦ elim (cases_Bool (nat_lt t v.term)) [
    | inl stale ↦ rw (fit, stale) refl
    | inr current ↦ elim (cases_Bool (agrees_at v p u)) [
      | inr differs ↦ rw (fit, current, differs) (entry-adopt_term v t i)
      | inl agrees ↦
          let is : reply v (Append t p u commit sent) ≡ Matched (p + length sent) = rw (fit, current, agrees_above v p u agrees, agrees) refl in
          matched_spares v t p u commit (p + length sent) i sent (matches_of v t p u commit (p + length sent) sent is) (spares (p + length sent) is)
    ]
  ]
]

-- behind a new base the entries are the old ones
entry_behind_base :
    (b c i : ℕ) (log : List Pair) → b ≤ c → c < i → entry_in c (drop (c - b) log) i ≡ entry_in b log i
entry_behind_base b c i log above behind =
    let inside : nat_lt c i ≡ true = grind (arith, nat_tests) in
    rw inside (sym (entry_own b c i log above behind))

compact_spares :
    (v : State) (c i : ℕ) → SparesEntry v i (Compact c) → entry_at (next v (Compact c)) i ≡ entry_at v i
compact_spares v c i spares = elim (cases_Bool (in_range (Compact c))) [
  | inr out ↦ rw out refl
  | inl fit ↦ elim (cases_Bool (can_compact v c)) [
    | inr cannot ↦ rw (fit, cannot) refl
    | inl can ↦
        let below : c < i = rw (fit, can) at spares in
        let above : v.base_index < c = grind (arith, nat_tests) in
        rw (fit, can) (entry_behind_base v.base_index c i v.log (omega arith) below)
  ]
]

install_spares :
    (v : State) (t c u i : ℕ) → SparesEntry v i (Install t c u) → entry_at (next v (Install t c u)) i ≡ entry_at v i
install_spares v t c u i spares = elim (cases_Bool (in_range (Install t c u))) [
  | inr out ↦ rw out refl
  | inl fit ↦ elim (cases_Bool (nat_lt t v.term)) [
    | inl stale ↦ rw (fit, stale) refl
    | inr current ↦ elim (cases_Bool (nat_le c v.base_index)) [
      | inl old ↦ rw (fit, current, old) (entry-adopt_term v t i)
      | inr new ↦
          let above : v.base_index < c = grind (arith, nat_tests) in
          let below : c < i = rw (fit, current, new) at spares.0 in
          let moved : c ≢ v.base_index = λ same. omega (arith, same) in
          let holds = rw (fit, current, new) at spares.1 in
          let there : term_at v c ≡ Some u = holds moved in
          let w = adopt_term v t in
          let same_term : term_at w c ≡ term_at v c =
          by_test (λ (x : State). term_at x c ≡ term_at v c) (nat_lt v.term t) (record v { term = t; vote = None }) v (λ h. refl) (λ h. refl) in
          let agrees : agrees_at w c u ≡ true = rw (same_term, there) (eq-eqb u u refl) in
          rw (fit, current, new, agrees) (
          rw (base-adopt_term v t, log-adopt_term v t) (entry_behind_base v.base_index c i v.log (omega arith) below)
          )
    ]
  ]
]

pub entry_spared :
    (q : Request) (v : State) (i : ℕ) → SparesEntry v i q → entry_at (next v q) i ≡ entry_at v i
entry_spared (Vote t c x y) v i spares =
    by_test (λ (w : State). entry_at w i ≡ entry_at v i) (in_range (Vote t c x y)) (next_in_range v (Vote t c x y)) v
    (λ h. vote_next (λ (w : State). entry_at w i ≡ entry_at v i) v t c x y (λ k. entry-adopt_term v t i) (entry-adopt_term v t i))
    (λ h. refl)
entry_spared (Append t p u commit sent) v i spares = append_spares v t p u commit i sent spares
entry_spared (Compact c) v i spares = compact_spares v c i spares
entry_spared (Install t c u) v i spares = install_spares v t c u i spares
entry_spared (Read a b) v i spares =
    by_test (λ (w : State). entry_at w i ≡ entry_at v i) (in_range (Read a b)) v v (λ h. refl) (λ h. refl)
entry_spared Status v i spares = refl
entry_spared Retire v i spares = absurd spares

pub entry_all_spared :
    (ts : List (Request × Option Reply)) (v : State) (i : ℕ) → AllSpare v i ts
    → entry_at (voter_from v ts) i ≡ entry_at v i
entry_all_spared [] v i spares = refl
entry_all_spared (t ∷ ts) v i spares =
    entry_all_spared ts (next v t.0) i spares.1 ∙ entry_spared t.0 v i spares.0

pub matched_entries_stand : MatchedEntriesStand
matched_entries_stand rounds cuts g ex before between later t p u commit last i sent e is here spares =
    let q = Append t p u commit sent in
    let x : Request × Option Reply = (q, Some (Matched last)) in
    let v = voter_after before in
    let runs = rw is at (group_runs rounds cuts g ex) in
    let first = runs_append (before ++ x ∷ between) later fresh runs in
    let start = runs_append before (x ∷ between) fresh first.0 in
    let m = matches_of v t p u commit last sent (sym start.1.0) in
    let stands = matched_there v t p u commit last i sent e m here in
    let right_behind : voter_after (before ++ x ∷ []) ≡ next v q = voter_from-append before (x ∷ []) fresh in
    let there : voter_after (before ++ x ∷ between) ≡ voter_from (next v q) between = voter_from-append before (x ∷ between) fresh in
    let spared : AllSpare (next v q) i between = rw right_behind at spares in (
      stands.0,
      ap (λ (w : State). entry_at w i) right_behind ∙ stands.1,
      ap (λ (w : State). entry_at w i) there ∙ entry_all_spared between (next v q) i spared ∙ stands.1,
    )

-- an entry stands at a place of a list
stands_at : (log : List Pair) (k : ℕ) → k < length log → (e : Pair) × (slice_get log k ≡ Some e)
stands_at [] k h = absurd (omega (arith, h))
stands_at (x ∷ log) zero h = (x, refl)
stands_at (x ∷ log) (suc k) h = stands_at log k (omega (arith, h))

-- after a matched Append an entry stands at each index above the base and up to the answered one
acknowledged :
    (v : State) (t p u commit last i : ℕ) (sent : List Pair) → Matches v t p u commit last sent
    → v.base_index < i → i ≤ last → (e : Pair) × (entry_at (next v (Append t p u commit sent)) i ≡ Some e)
acknowledged v t p u commit last i sent m above within = elim (cases_lt p i) [
  | inr front ↦
      let reach : p - v.base_index ≤ length v.log = reaches v p u m.above m.agrees in
      let there = stands_at v.log (i - v.base_index - 1) (omega (arith, above, front, reach)) in
      let inside : nat_lt v.base_index i ≡ true = grind (arith, nat_tests) in
      let own : entry_at v i ≡ Some there.0 = rw inside there.1 in
      (there.0, entry_kept v t p u commit last i sent m (omega (arith, front)) ∙ own)
  | inl behind ↦
      let there = stands_at sent (i - p - 1) (omega (arith, behind, within, m.ends)) in
      let inside : nat_lt p i ≡ true = grind (arith, nat_tests) in
      let brought : sent_at p sent i ≡ Some there.0 = rw inside there.1 in
      let found = matched_there v t p u commit last i sent there.0 m brought in
      ((there.0.0, found.0), found.1)
]

pub matched_is_acknowledged : MatchedIsAcknowledged
matched_is_acknowledged rounds cuts g ex before between later t p u commit last i sent is above within spares =
    let q = Append t p u commit sent in
    let x : Request × Option Reply = (q, Some (Matched last)) in
    let v = voter_after before in
    let runs = rw is at (group_runs rounds cuts g ex) in
    let first = runs_append (before ++ x ∷ between) later fresh runs in
    let start = runs_append before (x ∷ between) fresh first.0 in
    let m = matches_of v t p u commit last sent (sym start.1.0) in
    let right_behind : voter_after (before ++ x ∷ []) ≡ next v q = voter_from-append before (x ∷ []) fresh in
    let there : voter_after (before ++ x ∷ between) ≡ voter_from (next v q) between = voter_from-append before (x ∷ between) fresh in
    let spared : AllSpare (next v q) i between = rw right_behind at spares in
    let base : v.base_index < i = omega (arith, above, ap (λ (w : State). w.base_index) right_behind, base-next_matched v t p u commit last sent m) in
    let stands = acknowledged v t p u commit last i sent m base within in (
      stands.0,
      ap (λ (w : State). entry_at w i) right_behind ∙ stands.1,
      ap (λ (w : State). entry_at w i) there ∙ entry_all_spared between (next v q) i spared ∙ stands.1,
    )
