-- From what requests come to by an outline to what they make of each voter with this outline.
use Rattle.std.proofs.Common.{◌≡◌, ◌≢◌, ℕ, zero, suc, ◌+◌, ◌-◌, ◌^◌, ◌≤◌, ◌<◌, ◌==◌, ◌&&◌, List, [], ◌∷◌, ◌++◌, length, take, drop, nat_lt, nat_le, if◌then◌else◌, true, false, Option, None, Some, refl, sym, ap, ◌∙◌, inl, inr, arith}
use Rattle.std.proofs.Math.Seq.{take-add}
use Rattle.std.proofs.lemmas.Bool.{and_parts, cases_Bool, eqb-true, leb-true, ltb-true, ltb-false, false≢true}
use Rattle.std.proofs.lemmas.Bool.Decides.{nat_tests}
use Rattle.std.proofs.lemmas.List.{append_assoc, drop_all, length-append, length-drop, drop_at, length-take-le, take-append-drop}
use Rattle.raft_voter_messages.specs.declared.reply.Reply.TheVariants.{Entries as EntriesReply, Granted, Denied, Base, Refused, Unknown}
use Rattle.raft_voter_messages.specs.declared.reply.VoterState.{VoterState}
use Rattle.raft_voter_messages.specs.declared.request.Request.{Request}
use Rattle.raft_voter_messages.specs.declared.request.Request.TheVariants.{Vote, Append, Compact, Install, Read, Status, Retire}
use Rattle.std.specs.List.{list_all}
use Rattle.raft_voter_messages.specs.Ranges.{entries_fit, entry_fits, fits, in_range, total_bytes}
use Rattle.raft_voter_outline.specs.declared.outline.plans.Plan.{Plan}
use Rattle.raft_voter_outline.specs.declared.outline.decision.Answer.TheVariants.{Told, Entries as EntriesAnswer}
use Rattle.raft_voter_outline.specs.declared.outline.decision.Change.{Change}
use Rattle.raft_voter_outline.specs.declared.outline.decision.Decision.{Decision}
use Rattle.raft_voter_outline.specs.declared.outline.decision.Write.{Write}
use Rattle.raft_voter_outline.specs.declared.outline.decision.Write.TheVariants.{StateAlone, Entries, CompactTo, Clean}
use Rattle.raft_voter_outline.specs.State.{State, adopt_term, last_index, last_term, state_of, term_at}
use Rattle.raft_voter_outline.specs.Rules.{agrees_at, appended, can_compact, entries_between, grants, installed, matching, merged, merged_log, next, next_in_range, reply, reply_in_range}
use Rattle.raft_voter_outline.specs.Runs.{bare}
use Rattle.raft_voter_outline.specs.Plans.{Plans}
use Rattle.std.specs.Prelude.{MatchOption}
use Rattle.raft_voter_outline.specs.Decisions.{HasRunRoom, read_answer, SettlesPlan, Stays}
use Rattle.raft_voter_outline.specs.Outlines.{all_gone, append_write, answered, EntriesAreThere, brought, CanWrite, changed, ChangesEach, Copies, WantsCopies, Decides, IsChangeOf, LeavesEach, RestsOn, log_written, sent_of, stored_state, without_bytes, write_of}
use Rattle.raft_voter_outline.proofs.Indexes.{matching-le}
use Rattle.raft_voter_outline.proofs.Steps.{base_small-next, base-adopt_term, log-adopt_term, reaches}
use Rattle.raft_voter_outline.proofs.Bareness.{adopt_term-bare, agrees_at-bare, bare-drop, can_compact-bare, grants-bare, last_index-bare, last_term-bare, length-bare, matching-bare, term_at-bare}
use Rattle.raft_voter_outline.proofs.Indexes.{Pair}
use Rattle.raft_voter_outline.proofs.Planning.{term_within}
use Rattle.raft_voter_outline.proofs.Steps.{matching-merged}
use Rattle.raft_voter_outline.proofs.Steps.{agrees_above}
use Rattle.raft_voter_outline.proofs.Steps.{by_test}

-- replies that need no entry's bytes
reply-bare_vote : (v : State) (t c i u : ℕ) → reply_in_range (without_bytes v) (Vote t c i u) ≡ reply_in_range v (Vote t c i u)
reply-bare_vote v t c i u =
    ap (λ b. if b then Granted t else Denied (adopt_term (without_bytes v) t).term) (grants-bare v t c i u)
    ∙ ap (λ (w : State). if grants v t c i u then Granted t else Denied w.term) (adopt_term-bare v t)

reply-bare_append : (v : State) (t p u c : ℕ) (es : List Pair) → reply_in_range (without_bytes v) (Append t p u c es) ≡ reply_in_range v (Append t p u c es)
reply-bare_append v t p u c es = rw (agrees_at-bare v p u, last_index-bare v) refl

reply-bare_compact : (v : State) (i : ℕ) → reply_in_range (without_bytes v) (Compact i) ≡ reply_in_range v (Compact i)
reply-bare_compact v i = ap (λ b. if b then Base i else Base v.base_index) (can_compact-bare v i)

-- states that need none
pub stored-adopt : (v : State) (t : ℕ) → stored_state (adopt_term (without_bytes v) t) ≡ stored_state (adopt_term v t)
stored-adopt v t = ap stored_state (adopt_term-bare v t)

state-bare_vote : (v : State) (t c i u : ℕ) → stored_state (next_in_range (without_bytes v) (Vote t c i u)) ≡ stored_state (next_in_range v (Vote t c i u))
state-bare_vote v t c i u =
    let g = grants-bare v t c i u in
    let a = adopt_term-bare v t in
    elim (cases_Bool (grants v t c i u)) [
      | inl yea ↦ rw (g ∙ yea, yea) (ap (λ (w : State). let x : State = record w { vote = Some c } in stored_state x) a)
      | inr nay ↦ rw (g ∙ nay, nay) (ap stored_state a)
    ]

state-bare_append : (v : State) (t p u c : ℕ) (es : List Pair) → stored_state (next_in_range (without_bytes v) (Append t p u c es)) ≡ stored_state (next_in_range v (Append t p u c es))
state-bare_append v t p u c es = elim (cases_Bool (nat_lt t v.term)) [
  | inl stale ↦ rw stale refl
  | inr current ↦ elim (cases_Bool (agrees_at v p u)) [
    | inl agrees ↦ rw (current, agrees_at-bare v p u ∙ agrees, agrees) (ap (λ (w : State). stored_state (appended w p c es)) (adopt_term-bare v t) ∙ same (adopt_term v t))
    | inr differs ↦ rw (current, agrees_at-bare v p u ∙ differs, differs) (stored-adopt v t)
  ]
]
  where
    same : (w : State) → stored_state (appended (without_bytes w) p c es) ≡ stored_state (appended w p c es)
    same w = refl

state-bare_install : (v : State) (t i u : ℕ) → stored_state (next_in_range (without_bytes v) (Install t i u)) ≡ stored_state (next_in_range v (Install t i u))
state-bare_install v t i u = elim (cases_Bool (nat_lt t v.term)) [
  | inl stale ↦ rw stale refl
  | inr current ↦ elim (cases_Bool (nat_le i v.base_index)) [
    | inl old ↦ rw (current, old) (stored-adopt v t)
    | inr new ↦ rw (current, new) (
        by_test (λ (w : State). stored_state (installed (adopt_term (without_bytes v) t) i u) ≡ stored_state (installed w i u)) (nat_lt v.term t) (record v { term = t; vote = None }) v
        (λ h. rw h refl) (λ h. rw h refl)
        )
  ]
]

state-bare_compact : (v : State) (i : ℕ) → stored_state (next_in_range (without_bytes v) (Compact i)) ≡ stored_state (next_in_range v (Compact i))
state-bare_compact v i = elim (cases_Bool (can_compact v i)) [
  | inl can ↦ rw (can_compact-bare v i ∙ can, can, term_at-bare v i) refl
  | inr cannot ↦ rw (can_compact-bare v i ∙ cannot, cannot) refl
]

-- what is written needs none
append_write-bare : (v : State) (t p u : ℕ) (es : List Pair) → append_write (without_bytes v) t p u es ≡ append_write v t p u es
append_write-bare v t p u es =
    let same : matching (drop (p - v.base_index) (bare v.log)) es ≡ matching (drop (p - v.base_index) v.log) es =
    ap (λ (l : List Pair). matching l es) (sym (bare-drop (p - v.base_index) v.log)) ∙ matching-bare (drop (p - v.base_index) v.log) es in
    rw (agrees_at-bare v p u, same) refl

all_gone-bare : (v : State) → all_gone (without_bytes v) ≡ all_gone v
all_gone-bare v = rw (length-bare v.log) refl

write-bare_install : (v : State) (t i u : ℕ) → write_of (without_bytes v) (Install t i u) ≡ write_of v (Install t i u)
write-bare_install v t i u = rw (agrees_at-bare v i u, all_gone-bare v) refl

write-bare_compact : (v : State) (i : ℕ) → write_of (without_bytes v) (Compact i) ≡ write_of v (Compact i)
write-bare_compact v i = rw (can_compact-bare v i) refl

-- an outline's plan is that of each voter with this outline
pub plans_vote : (v : State) (p : Plan) (t c i u : ℕ) → Plans (without_bytes v) (Vote t c i u) p → Plans v (Vote t c i u) p
plans_vote v p t c i u k = record { reply_is = k.reply_is ∙ reply-bare_vote v t c i u; state_is = k.state_is ∙ state-bare_vote v t c i u; write_is = k.write_is }

pub plans_append : (v : State) (p : Plan) (t q u c : ℕ) (es : List Pair) → Plans (without_bytes v) (Append t q u c es) p → Plans v (Append t q u c es) p
plans_append v p t q u c es k = record { reply_is = k.reply_is ∙ reply-bare_append v t q u c es; state_is = k.state_is ∙ state-bare_append v t q u c es; write_is = k.write_is ∙ append_write-bare v t q u es }

pub plans_compact : (v : State) (p : Plan) (i : ℕ) → Plans (without_bytes v) (Compact i) p → Plans v (Compact i) p
plans_compact v p i k = record { reply_is = k.reply_is ∙ reply-bare_compact v i; state_is = k.state_is ∙ state-bare_compact v i; write_is = k.write_is ∙ write-bare_compact v i }

pub plans_install : (v : State) (p : Plan) (t i u : ℕ) → Plans (without_bytes v) (Install t i u) p → Plans v (Install t i u) p
plans_install v p t i u k = record { reply_is = k.reply_is; state_is = k.state_is ∙ state-bare_install v t i u; write_is = k.write_is ∙ write-bare_install v t i u }

-- The log is what is written.

taken_whole : (w : State) (p n : ℕ) (sent : List Pair) → w.base_index ≤ p → n ≡ matching (drop (p - w.base_index) w.log) sent
    → merged_log w p sent ≡ log_written (brought n p sent) sent w
taken_whole w p n sent above is = elim (cases_Bool (n == length sent)) [
  | inl all ↦
      let all' : (matching (drop (p - w.base_index) w.log) sent == length sent) ≡ true = ap (λ k. k == length sent) (sym is) ∙ all in
      rw (all', all) (take-append-drop (p - w.base_index) w.log)
  | inr more ↦
      let more' : (matching (drop (p - w.base_index) w.log) sent == length sent) ≡ false = ap (λ k. k == length sent) (sym is) ∙ more in
      let place : p + 1 + n - w.base_index - 1 ≡ (p - w.base_index) + n = omega (arith, above) in
      rw (more', more, ← is) (sym (append_assoc (take (p - w.base_index) w.log) (take n (drop (p - w.base_index) w.log)) (drop n sent))
      ∙ ap (λ (l : List Pair). l ++ drop n sent) (sym (take-add (p - w.base_index) n w.log) ∙ ap (λ k. take k w.log) (sym place)))
]

pub log_append : (v : State) (t p u c : ℕ) (sent : List Pair) → (next_in_range v (Append t p u c sent)).log ≡ log_written (append_write v t p u sent) sent v
log_append v t p u c sent = elim (cases_Bool (nat_lt t v.term)) [
  | inl stale ↦ rw stale refl
  | inr current ↦ elim (cases_Bool (agrees_at v p u)) [
    | inr differs ↦ rw (current, differs) (log-adopt_term v t)
    | inl agrees ↦
        let above : v.base_index ≤ p = ltb-false p v.base_index (agrees_above v p u agrees) in
        rw (current, agrees, base-adopt_term v t, log-adopt_term v t) (taken_whole v p (matching (drop (p - v.base_index) v.log) sent) sent above refl)
  ]
]

pub log_vote : (v : State) (t c i u : ℕ) → (next_in_range v (Vote t c i u)).log ≡ v.log
log_vote v t c i u = by_test (λ (w : State). w.log ≡ v.log) (grants v t c i u) (record (adopt_term v t) { vote = Some c }) (adopt_term v t) (λ h. log-adopt_term v t) (λ h. log-adopt_term v t)

log_gone : (v : State) → [] ≡ log_written (all_gone v) [] v
log_gone v = elim (cases_Bool (length v.log == 0)) [
  | inl none ↦ rw none (empty v.log (eqb-true (length v.log) 0 none))
  | inr some ↦
      let far : length v.log ≤ v.base_index + length v.log - v.base_index = omega arith in
      rw some (sym (drop_all (v.base_index + length v.log - v.base_index) v.log far))
]
  where
    empty : (l : List Pair) → length l ≡ 0 → [] ≡ l
    empty [] h = refl
    empty (x ∷ l) h = absurd (omega (arith, h))

agrees-adopt : (v : State) (t p u : ℕ) → agrees_at (adopt_term v t) p u ≡ agrees_at v p u
agrees-adopt v t p u =
    by_test (λ (w : State). agrees_at w p u ≡ agrees_at v p u) (nat_lt v.term t) (record v { term = t; vote = None }) v (λ h. refl) (λ h. refl)

pub log_install : (v : State) (t i u : ℕ) → (next_in_range v (Install t i u)).log ≡ log_written (write_of v (Install t i u)) [] v
log_install v t i u = elim (cases_Bool (nat_lt t v.term)) [
  | inl stale ↦ rw stale refl
  | inr current ↦ elim (cases_Bool (nat_le i v.base_index)) [
    | inl old ↦ rw (current, old) (log-adopt_term v t)
    | inr new ↦ elim (cases_Bool (agrees_at v i u)) [
      | inl agrees ↦ rw (current, new, agrees-adopt v t i u ∙ agrees, agrees, base-adopt_term v t, log-adopt_term v t) refl
      | inr differs ↦ rw (current, new, agrees-adopt v t i u ∙ differs, differs) (log_gone v)
    ]
  ]
]

-- What is written can be, and moves the voter.

-- what is written is another log
abbrev pub Moves : Write → Type 0
Moves StateAlone = ⊥
Moves (Entries skipped index) = Unit {0}
Moves (CompactTo index) = Unit {0}
Moves Clean = ⊥

-- what a request in range does is what is written
pub record Does (v : State) (q : Request) (w : Write) : Type 0 where
  pub log_is : (next_in_range v q).log ≡ log_written w (sent_of q) v
  pub can : CanWrite w q v
  pub rests : RestsOn w v (next_in_range v q).base_index
  pub moves : Moves w → next_in_range v q ≢ v

pub does_vote : (v : State) (t c i u : ℕ) → Does v (Vote t c i u) StateAlone
does_vote v t c i u = record {
  log_is = log_vote v t c i u;
  can = refl;
  rests = inl (by_test (λ (w : State). w.base_index ≡ v.base_index) (grants v t c i u) (record (adopt_term v t) { vote = Some c }) (adopt_term v t) (λ h. base-adopt_term v t) (λ h. base-adopt_term v t));
  moves = λ none. absurd none;
}

base_append : (v : State) (t p u c : ℕ) (sent : List Pair) → (next_in_range v (Append t p u c sent)).base_index ≡ v.base_index
base_append v t p u c sent =
    by_test (λ (w : State). w.base_index ≡ v.base_index) (nat_lt t v.term) v _ (λ h. refl)
    (λ h. by_test (λ (w : State). w.base_index ≡ v.base_index) (agrees_at v p u) (appended (adopt_term v t) p c sent) (adopt_term v t) (λ k. base-adopt_term v t) (λ k. base-adopt_term v t))

-- an Append that brings another entry doesn't leave the voter
moves_append :
    (v : State) (t p u c : ℕ) (sent : List Pair) → nat_lt t v.term ≡ false → agrees_at v p u ≡ true
    → matching (drop (p - v.base_index) v.log) sent < length sent → next_in_range v (Append t p u c sent) ≢ v
moves_append v t p u c sent current agrees less same =
    let k = p - v.base_index in
    let old = drop k v.log in
    let above : v.base_index ≤ p = ltb-false p v.base_index (agrees_above v p u agrees) in
    let within : k ≤ length v.log = reaches v p u above agrees in
    let size : length (take k v.log) ≡ k = length-take-le k v.log within in
    let moved : (next_in_range v (Append t p u c sent)).log ≡ take k v.log ++ merged old sent =
    rw (current, agrees, base-adopt_term v t, log-adopt_term v t) refl in
    let stayed : take k v.log ++ merged old sent ≡ v.log = sym moved ∙ ap (λ (w : State). w.log) same in
    let back : merged old sent ≡ old = sym (drop_at (take k v.log) (merged old sent) k size) ∙ ap (λ (l : List Pair). drop k l) stayed in
    let all : matching old sent ≡ length sent = ap (λ (l : List Pair). matching l sent) (sym back) ∙ matching-merged old sent in
    omega (arith, less, all)

pub does_append :
    (v : State) (t p u c : ℕ) (sent : List Pair) → p + length sent < 2 ^ 63 → Does v (Append t p u c sent) (append_write v t p u sent)
does_append v t p u c sent small = elim (cases_Bool (nat_lt t v.term)) [
  | inl stale ↦ rw stale (record { log_is = rw stale refl; can = refl; rests = inl (base_append v t p u c sent); moves = λ none. absurd none })
  | inr current ↦ elim (cases_Bool (agrees_at v p u)) [
    | inr differs ↦ rw (current, differs) (record { log_is = rw (current, differs) (log-adopt_term v t); can = refl; rests = inl (base_append v t p u c sent); moves = λ none. absurd none })
    | inl agrees ↦
        let n = matching (drop (p - v.base_index) v.log) sent in
        let above : v.base_index ≤ p = ltb-false p v.base_index (agrees_above v p u agrees) in
        let within : p - v.base_index ≤ length v.log = reaches v p u above agrees in
        let few = matching-le (drop (p - v.base_index) v.log) sent in
        let size : length (drop (p - v.base_index) v.log) ≡ length v.log - (p - v.base_index) = length-drop (p - v.base_index) v.log in
        let whole : append_write v t p u sent ≡ brought n p sent = rw (current, agrees) refl in
        let log : (next_in_range v (Append t p u c sent)).log ≡ log_written (brought n p sent) sent v =
        log_append v t p u c sent ∙ ap (λ (w : Write). log_written w sent v) whole in
        rw whole (elim (cases_Bool (n == length sent)) [
          | inl all ↦
              let none : brought n p sent ≡ StateAlone = rw all refl in
              rw all (record { log_is = log ∙ ap (λ (w : Write). log_written w sent v) none; can = refl; rests = inl (base_append v t p u c sent); moves = λ none. absurd none })
          | inr more ↦
              let less : n < length sent = grind (arith, nat_tests, few.1) in
              let some : brought n p sent ≡ Entries n (p + 1 + n) = rw more refl in
              rw more (record {
                log_is = log ∙ ap (λ (w : Write). log_written w sent v) some;
                can = (omega (arith, above), omega (arith, within, few.0, size, above), less, omega (arith, small, less));
                rests = base_append v t p u c sent;
                moves = λ one. moves_append v t p u c sent current agrees less;
              })
        ])
  ]
]

pub does_compact : (v : State) (i : ℕ) → Does v (Compact i) (write_of v (Compact i))
does_compact v i = elim (cases_Bool (can_compact v i)) [
  | inr cannot ↦ rw cannot (record { log_is = rw cannot refl; can = refl; rests = inl (rw cannot refl); moves = λ none. absurd none })
  | inl can ↦
      let parts = and_parts (nat_lt v.base_index i && nat_le i (last_index v)) (nat_le i v.commit) can in
      let first = and_parts (nat_lt v.base_index i) (nat_le i (last_index v)) parts.0 in
      let above : v.base_index < i = ltb-true v.base_index i first.0 in
      let within : i ≤ last_index v = leb-true i (last_index v) first.1 in
      let base : (next_in_range v (Compact i)).base_index ≡ i = rw can refl in
      rw can (record {
        log_is = rw can refl;
        can = (above, within);
        rests = inl base;
        moves = λ one same. let stayed : i ≡ v.base_index = sym base ∙ ap (λ (w : State). w.base_index) same in omega (arith, above, stayed);
      })
]

-- where a snapshot's entry is there it isn't past the last one
agrees_within : (v : State) (i u : ℕ) → agrees_at v i u ≡ true → v.base_index < i → i ≤ last_index v
agrees_within v i u agrees above = found (term_at v i) refl
  where
    found : (o : Option ℕ) → term_at v i ≡ o → i ≤ last_index v
    found None is = let none : false ≡ true = rw is at agrees in absurd (false≢true none)
    found (Some t) is = term_within v i t is above

pub does_install : (v : State) (t i u : ℕ) → Does v (Install t i u) (write_of v (Install t i u))
does_install v t i u = elim (cases_Bool (nat_lt t v.term)) [
  | inl stale ↦ rw stale (record { log_is = rw stale refl; can = refl; rests = inl (rw stale refl); moves = λ none. absurd none })
  | inr current ↦ elim (cases_Bool (nat_le i v.base_index)) [
    | inl old ↦ rw (current, old) (record { log_is = rw (current, old) (log-adopt_term v t); can = refl; rests = inl (rw (current, old) (base-adopt_term v t)); moves = λ none. absurd none })
    | inr new ↦
        let above : v.base_index < i = grind (arith, nat_tests) in
        let base : (next_in_range v (Install t i u)).base_index ≡ i = rw (current, new) refl in
        let moves : next_in_range v (Install t i u) ≢ v = λ same. let stayed : i ≡ v.base_index = sym base ∙ ap (λ (w : State). w.base_index) same in omega (arith, above, stayed) in
        elim (cases_Bool (agrees_at v i u)) [
          | inl agrees ↦
              let whole : write_of v (Install t i u) ≡ CompactTo i = rw (current, new, agrees) refl in
              rw (current, new, agrees) (record {
                log_is = log_install v t i u ∙ ap (λ (w : Write). log_written w [] v) whole;
                can = (above, agrees_within v i u agrees above);
                rests = inl base;
                moves = λ one. moves;
              })
          | inr differs ↦ elim (cases_Bool (length v.log == 0)) [
            | inl none ↦
                let whole : write_of v (Install t i u) ≡ StateAlone = rw (current, new, differs, none) refl in
                rw (current, new, differs, none) (record {
                  log_is = log_install v t i u ∙ ap (λ (w : Write). log_written w [] v) whole;
                  can = refl;
                  rests = inr (empty v.log (eqb-true (length v.log) 0 none));
                  moves = λ no. absurd no;
                })
            | inr some ↦
                let whole : write_of v (Install t i u) ≡ CompactTo (last_index v) = rw (current, new, differs, some) refl in
                rw (current, new, differs, some) (record {
                  log_is = log_install v t i u ∙ ap (λ (w : Write). log_written w [] v) whole;
                  can = (grind (arith, nat_tests), omega arith);
                  rests = inr refl;
                  moves = λ one. moves;
                })
          ]
        ]
  ]
]
  where
    empty : (l : List Pair) → length l ≡ 0 → l ≡ []
    empty [] h = refl
    empty (x ∷ l) h = absurd (omega (arith, h))

pub does_retire : (v : State) → Does v Retire Clean
does_retire v = record { log_is = refl; can = refl; rests = refl; moves = λ none. absurd none }

-- Decisions.

same_voter : (v w : State) → stored_state v ≡ stored_state w → v.log ≡ w.log → v ≡ w
same_voter v w state log =
    let term : v.term ≡ w.term = ap (λ (s : VoterState). s.term) state in
    let vote : v.vote ≡ w.vote = ap (λ (s : VoterState). s.vote) state in
    let base_index : v.base_index ≡ w.base_index = ap (λ (s : VoterState). s.base_index) state in
    let base_term : v.base_term ≡ w.base_term = ap (λ (s : VoterState). s.base_term) state in
    let commit : v.commit ≡ w.commit = ap (λ (s : VoterState). s.commit) state in
    built v.term w.term v.vote w.vote v.base_index w.base_index v.base_term w.base_term v.commit w.commit v.log w.log term vote base_index base_term commit log
  where
    made : ℕ → Option ℕ → ℕ → ℕ → ℕ → List Pair → State
    made t o b u c l = record { term = t; vote = o; base_index = b; base_term = u; commit = c; log = l }

    built : (t t' : ℕ) (o o' : Option ℕ) (b b' u u' c c' : ℕ) (l l' : List Pair) → t ≡ t' → o ≡ o' → b ≡ b' → u ≡ u' → c ≡ c' → l ≡ l' → made t o b u c l ≡ made t' o' b' u' c' l'
    built t t' o o' b b' u u' c c' l l' et eo eb eu ec el = cc

bare_none : (l : List Pair) → bare l ≡ [] → l ≡ []
bare_none [] h = refl
bare_none (x ∷ l) h = absurd (cc)

-- where all stays, the voter is as it was
stays_same :
    (v o : State) (q : Request) (p : Plan) (w : Write) → stored_state o ≡ stored_state v → bare v.log ≡ o.log
    → p.state ≡ stored_state (next_in_range v q) → Does v q w → Stays o p w → next_in_range v q ≡ v
stays_same v o q p StateAlone own log state does stays =
    same_voter (next_in_range v q) v (sym state ∙ stays ∙ own) does.log_is
stays_same v o q p (Entries skipped index) own log state does stays = absurd stays
stays_same v o q p (CompactTo index) own log state does stays = absurd stays
stays_same v o q p Clean own log state does stays =
    same_voter (next_in_range v q) v (sym state ∙ stays.0 ∙ own) (does.log_is ∙ sym (bare_none v.log (log ∙ stays.1)))

-- and only there
moves_else :
    (v o : State) (q : Request) (p : Plan) (w : Write) → stored_state o ≡ stored_state v → bare v.log ≡ o.log
    → p.state ≡ stored_state (next_in_range v q) → Does v q w → ¬ Stays o p w → next_in_range v q ≢ v
moves_else v o q p StateAlone own log state does moved same = moved (state ∙ ap stored_state same ∙ sym own)
moves_else v o q p (Entries skipped index) own log state does moved same = does.moves tt same
moves_else v o q p (CompactTo index) own log state does moved same = does.moves tt same
moves_else v o q p Clean own log state does moved same =
    moved (state ∙ ap stored_state same ∙ sym own, sym log ∙ ap bare (sym (ap (λ (x : State). x.log) same) ∙ does.log_is))

settled_change :
    (v o : State) (q : Request) (p : Plan) (c : Option Change) → stored_state o ≡ stored_state v → bare v.log ≡ o.log
    → in_range q ≡ true → next v q ≡ next_in_range v q → p.state ≡ stored_state (next_in_range v q) → p.write ≡ write_of v q
    → Does v q p.write → MatchOption c (Stays o p p.write) (λ c. (c ≡ record { state = p.state; write = p.write }) × ¬ Stays o p p.write)
    → MatchOption c (next v q ≡ v) (IsChangeOf v q)
settled_change v o q p None own log fit became state write does h = became ∙ stays_same v o q p p.write own log state does h
settled_change v o q p (Some c) own log fit became state write does h = rw h.0 (record {
  state = state ∙ ap stored_state (sym became);
  next_is =
      became ∙ same_voter (next_in_range v q) (changed (record { state = p.state; write = p.write }) (sent_of q) v)
      (rw state refl) does.log_is;
  can = does.can;
  write_is = write;
  rests = rw state does.rests;
  small = λ small. rw state (base_small-next q v fit small);
  moves = λ same. moves_else v o q p p.write own log state does h.1 (sym became ∙ same);
})

-- what is decided is one voter's reply, with the entries there, and one voter's change
pub record IsDecided (v : State) (q : Request) (d : Decision) : Type 0 where
  pub reply_is : reply v q ≡ answered d.answer v
  pub there : EntriesAreThere d.answer q v
  pub change : MatchOption d.change (next v q ≡ v) (IsChangeOf v q)

-- where this holds of each voter with an outline, it is decided for the outline
pub decides_of : (o : State) (q : Request) (d : Decision) → ((v : State) → without_bytes v ≡ o → IsDecided v q d) → Decides o q d
decides_of o q d each = record {
  answer = λ v e. ((each v e).reply_is, (each v e).there);
  change = by_change d.change (λ v e. (each v e).change);
}
  where
    by_change : (c : Option Change) → ((v : State) → without_bytes v ≡ o → MatchOption c (next v q ≡ v) (IsChangeOf v q)) → MatchOption c (LeavesEach o q) (ChangesEach o q)
    by_change None each = each
    by_change (Some c) each = each

-- a plan that is settled is decided
pub settled :
    (v o : State) (q : Request) (p : Plan) (d : Decision) → in_range q ≡ true → without_bytes v ≡ o → Plans v q p
    → Does v q p.write → SettlesPlan o p d → IsDecided v q d
settled v o q p d fit outline plans does settles =
    let own : stored_state o ≡ stored_state v = ap stored_state (sym outline) in
    let log : bare v.log ≡ o.log = ap (λ (x : State). x.log) outline in
    let became : next v q ≡ next_in_range v q = rw fit refl in
    record {
      reply_is = rw (fit, settles.answer) (sym plans.reply_is);
      there = rw settles.answer tt;
      change = settled_change v o q p d.change own log fit became plans.state_is plans.write_is does settles.change;
    }

-- one out of range is refused and leaves all
pub refused : (v : State) (q : Request) (d : Decision) → in_range q ≡ false → d.answer ≡ Told Refused → d.change ≡ None → IsDecided v q d
refused v q d out told none = record { reply_is = rw (out, told) refl; there = rw told tt; change = rw none (rw out refl) }

-- a request that only asks
pub only_asks : (v : State) (q : Request) (d : Decision) → in_range q ≡ true → next_in_range v q ≡ v → reply_in_range v q ≡ answered d.answer v → EntriesAreThere d.answer q v → d.change ≡ None → IsDecided v q d
only_asks v q d fit stays told there none = record { reply_is = rw fit told; there = there; change = rw none (rw fit stays) }

-- which entries a read gets
pub read-bare : (v : State) (from to : ℕ) → reply_in_range v (Read from to) ≡ answered (read_answer (without_bytes v) from to) v
read-bare v from to = elim (cases_Bool (nat_le from v.base_index)) [
  | inl gone ↦ rw gone refl
  | inr there ↦ elim (cases_Bool (nat_le to from)) [
    | inl nothing ↦ rw (there, nothing) refl
    | inr some ↦ elim (cases_Bool (nat_lt (last_index v + 1) to)) [
      | inl past ↦
          let past' : nat_lt (last_index (without_bytes v) + 1) to ≡ true = ap (λ l. nat_lt (l + 1) to) (last_index-bare v) ∙ past in
          rw (there, some, past, past') (ap (λ l. Unknown l) (sym (last_index-bare v)))
      | inr within ↦
          let within' : nat_lt (last_index (without_bytes v) + 1) to ≡ false = ap (λ l. nat_lt (l + 1) to) (last_index-bare v) ∙ within in
          rw (there, some, within, within') refl
    ]
  ]
]

pub read-there : (v : State) (from to : ℕ) → EntriesAreThere (read_answer (without_bytes v) from to) (Read from to) v
read-there v from to = elim (cases_Bool (nat_le from v.base_index)) [
  | inl gone ↦ rw gone tt
  | inr there ↦ elim (cases_Bool (nat_le to from)) [
    | inl nothing ↦ rw (there, nothing) tt
    | inr some ↦ elim (cases_Bool (nat_lt (last_index (without_bytes v) + 1) to)) [
      | inl past ↦ rw (there, some, past) tt
      | inr within ↦
          let above : v.base_index < from = grind (arith, nat_tests) in
          let ahead : from < to = grind (arith, nat_tests) in
          let end : to ≤ last_index (without_bytes v) + 1 = ltb-false (last_index (without_bytes v) + 1) to within in
          rw (there, some, within) (refl, above, ahead, omega (arith, end, last_index-bare v))
    ]
  ]
]

pub append_small : (t p u c : ℕ) (sent : List Pair) → in_range (Append t p u c sent) ≡ true → p + length sent < 2 ^ 63
append_small t p u c sent h =
    let bound = p + length sent in
    let fit = (and_parts _ (entries_fit p sent) h).1 in
    let one = (and_parts _ (nat_le (total_bytes sent) 1048576) fit).0 in
    let two = (and_parts _ (list_all entry_fits sent) one).0 in
    let three : fits bound ≡ true = (and_parts (fits bound) (nat_le (length sent) 1024) two).0 in
    ltb-true bound (2 ^ 63) three

-- a state needs no entry's bytes
pub status-bare : (v : State) → state_of (without_bytes v) ≡ state_of v
status-bare v =
    ap (λ i. let s : VoterState = record { term = v.term; vote = v.vote; base_index = v.base_index; base_term = v.base_term; last_index = i; last_term = last_term (without_bytes v); commit = v.commit } in s) (last_index-bare v)
    ∙ ap (λ t. let s : VoterState = record { term = v.term; vote = v.vote; base_index = v.base_index; base_term = v.base_term; last_index = last_index v; last_term = t; commit = v.commit } in s) (last_term-bare v)

-- Entries are copied only where some are brought that aren't there, or some are read.

moves_in_range : (v : State) (q : Request) → next v q ≢ v → in_range q ≡ true
moves_in_range v q moves = elim (cases_Bool (in_range q)) [
  | inl fit ↦ fit
  | inr out ↦ absurd (moves (rw out refl))
]

append_brings :
    (v : State) (t p u : ℕ) (sent : List Pair) (n i : ℕ) → append_write v t p u sent ≡ Entries n i
    → (v.term ≤ t) × (agrees_at v p u ≡ true) × (matching (drop (p - v.base_index) v.log) sent < length sent)
append_brings v t p u sent n i is = elim (cases_Bool (nat_lt t v.term)) [
  | inl stale ↦ let none : StateAlone ≡ Entries n i = rw stale at is in absurd (cc)
  | inr current ↦ elim (cases_Bool (agrees_at v p u)) [
    | inr differs ↦ let none : StateAlone ≡ Entries n i = rw (current, differs) at is in absurd (cc)
    | inl agrees ↦
        let same = matching (drop (p - v.base_index) v.log) sent in
        let few = matching-le (drop (p - v.base_index) v.log) sent in
        elim (cases_Bool (same == length sent)) [
          | inl all ↦ let none : StateAlone ≡ Entries n i = rw (current, agrees, all) at is in absurd (cc)
          | inr more ↦ (ltb-false t v.term current, agrees, grind (arith, nat_tests, few.1))
        ]
  ]
]

write_brings : (q : Request) (v : State) (n i : ℕ) → write_of v q ≡ Entries n i → WantsCopies v q
write_brings (Vote t c i u) v n j is = absurd (cc)
write_brings (Append t p u c sent) v n j is = append_brings v t p u sent n j is
write_brings (Compact i) v n j is = elim (cases_Bool (can_compact v i)) [
  | inl can ↦ let other : CompactTo i ≡ Entries n j = rw can at is in absurd (cc)
  | inr cannot ↦ let other : StateAlone ≡ Entries n j = rw cannot at is in absurd (cc)
]
write_brings (Install t i u) v n j is = elim (cases_Bool (nat_lt t v.term)) [
  | inl stale ↦ let other : StateAlone ≡ Entries n j = rw stale at is in absurd (cc)
  | inr current ↦ elim (cases_Bool (nat_le i v.base_index)) [
    | inl old ↦ let other : StateAlone ≡ Entries n j = rw (current, old) at is in absurd (cc)
    | inr new ↦ elim (cases_Bool (agrees_at v i u)) [
      | inl agrees ↦ let other : CompactTo i ≡ Entries n j = rw (current, new, agrees) at is in absurd (cc)
      | inr differs ↦ elim (cases_Bool (length v.log == 0)) [
        | inl none ↦ let other : StateAlone ≡ Entries n j = rw (current, new, differs, none) at is in absurd (cc)
        | inr some ↦ let other : CompactTo (last_index v) ≡ Entries n j = rw (current, new, differs, some) at is in absurd (cc)
      ]
    ]
  ]
]
write_brings (Read a b) v n j is = absurd (cc)
write_brings Status v n j is = absurd (cc)
write_brings Retire v n j is = absurd (cc)

-- a change that brings entries is a request's for which entries are copied
pub change_copies : (v : State) (q : Request) (c : Change) (n i : ℕ) → IsChangeOf v q c → c.write ≡ Entries n i → Copies v q
change_copies v q c n i change is = (moves_in_range v q change.moves, write_brings q v n i (sym change.write_is ∙ is))

-- an answer of entries is a request's for which entries are copied
pub answer_copies :
    (v : State) (q : Request) (from to : ℕ) → reply v q ≡ EntriesReply (entries_between v from to)
    → EntriesAreThere (EntriesAnswer from to) q v → Copies v q
answer_copies v q from to told there = elim (cases_Bool (in_range q)) [
  | inl fit ↦ (fit, rw there.0 (there.1, there.2, there.3))
  | inr out ↦ let refused : Refused ≡ EntriesReply (entries_between v from to) = rw out at told in absurd (cc)
]

-- a change for which there is no room brings entries
pub room_copies : (v : State) (q : Request) (c : Change) (room : ℕ) → IsChangeOf v q c → ¬ HasRunRoom c.write q room → Copies v q
room_copies v q c room change none = by_write c.write refl
  where
    by_write : (w : Write) → c.write ≡ w → Copies v q
    by_write (Entries n i) is = change_copies v q c n i change is
    by_write StateAlone is = absurd (none (rw is (omega arith)))
    by_write (CompactTo i) is = absurd (none (rw is (omega arith)))
    by_write Clean is = absurd (none (rw is (omega arith)))

-- A change leaves the last index in range.

length_take : (n : ℕ) (es : List Pair) → length (take n es) ≤ n
length_take zero es = omega arith
length_take (suc n) [] = omega arith
length_take (suc n) (e ∷ es) = omega (arith, length_take n es)

-- what is written to a log leaves its end in range
pub written_small :
    (w : Write) (q : Request) (v : State) (base : ℕ) → CanWrite w q v → RestsOn w v base → base < 2 ^ 63 → last_index v < 2 ^ 63
    → base + length (log_written w (sent_of q) v) < 2 ^ 63
written_small StateAlone q v base can (inl same) small last = omega (arith, same, last)
written_small StateAlone q v base can (inr none) small last = rw none (omega (arith, small))
written_small (Entries n i) q v base can rests small last =
    let kept = length_take (i - v.base_index - 1) v.log in
    let size = length-append (take (i - v.base_index - 1) v.log) (drop n (sent_of q)) in
    omega (arith, can.0, can.2, can.3, kept, size, length-drop n (sent_of q), rests)
written_small (CompactTo i) q v base can (inl same) small last =
    omega (arith, can.0, can.1, length-drop (i - v.base_index) v.log, same, last)
written_small (CompactTo i) q v base can (inr end) small last =
    omega (arith, can.0, can.1, length-drop (i - v.base_index) v.log, end, small)
written_small Clean q v base can rests small last = omega (arith, small)

pub change_small : (v : State) (q : Request) (c : Change) → IsChangeOf v q c → last_index v < 2 ^ 63 → last_index (next v q) < 2 ^ 63
change_small v q c change small =
    let base = change.small (omega (arith, small)) in
    rw change.next_is (written_small c.write q v c.state.base_index change.can change.rests base small)
