use Rattle.std.proofs.Common.{◌≡◌, ℕ, ◌+◌, ◌-◌, ◌≤◌, ◌==◌, ◌&&◌, List, [], ◌∷◌, ◌++◌, length, take, drop, true, false, Option, None, Some, refl, sym, ap, ◌∙◌, inl, inr, arith}
use Rattle.std.specs.Prelude.{nat_lt, nat_le, if◌then◌else◌, max, min}
use Rattle.std.specs.Option.{option_map_or}
use Rattle.std.proofs.lemmas.Bool.{and_parts, cases_Bool, eq-eqb, ltb-false, false≢true}
use Rattle.std.proofs.lemmas.Bool.Decides.{nat_tests}
use Rattle.std.proofs.lemmas.List.{length-take-le, take_at, drop_at}
use Rattle.std.proofs.Math.Nat.{le-max_right, max-eq_left}
use Rattle.raft_voter_messages.specs.declared.reply.Reply.{Reply}
use Rattle.raft_voter_messages.specs.declared.reply.Reply.TheVariants.{Granted, Denied, Matched, Mismatch, Base}
use Rattle.raft_voter_messages.specs.declared.request.Request.{Request}
use Rattle.raft_voter_messages.specs.declared.request.Request.TheVariants.{Vote, Append, Compact, Install, Read, Status, Retire}
use Rattle.raft_voter_outline.specs.State.{State, adopt_term, fresh, last_index, term_at}
use Rattle.raft_voter_outline.specs.Rules.{agrees_at, appended, can_compact, compacted, grants, installed, is_up_to_date, matching, may_vote, merged, merged_log, next, reply}
use Rattle.raft_voter_messages.specs.Ranges.{in_range}
use Rattle.raft_voter.specs.Accounts.{voter_after}
use Rattle.raft_voter.specs.Laws.{is_repeatable, RepeatIsIdempotent}
use Rattle.raft_voter_outline.proofs.Public.{agrees_above, base-adopt_term, by_test, matching-merged, reaches, term_of, Pair}
use Rattle.raft_voter.proofs.Appends.{entry_before}
use Rattle.raft_voter.proofs.Following.{group_runs, runs_append, voter_from-append}

-- The same request again gets the same reply and leaves the voter.
pub record Again (v : State) (q : Request) : Type 0 where
  pub same_reply : reply (next v q) q ≡ reply v q
  pub same_voter : next (next v q) q ≡ next v q

-- a term that was taken over isn't above the voter's
adopted_term : (v : State) (t : ℕ) → t ≤ (adopt_term v t).term
adopted_term v t =
    by_test (λ (w : State). t ≤ w.term) (nat_lt v.term t) (record v { term = t; vote = None }) v (λ h. omega arith)
    (λ h. omega (arith, ltb-false v.term t h))

pub adopt_reached : (w : State) (t : ℕ) → t ≤ w.term → adopt_term w t ≡ w
adopt_reached w t reached = let no_more : nat_lt w.term t ≡ false = grind (arith, nat_tests) in rw no_more refl

adopt_again : (v : State) (t : ℕ) → adopt_term (adopt_term v t) t ≡ adopt_term v t
adopt_again v t = adopt_reached (adopt_term v t) t (adopted_term v t)

current_adopted : (v : State) (t : ℕ) → nat_lt t v.term ≡ false → nat_lt t (adopt_term v t).term ≡ false
current_adopted v t current =
    by_test (λ (w : State). nat_lt t w.term ≡ false) (nat_lt v.term t) (record v { term = t; vote = None }) v
    (λ h. grind (arith, nat_tests)) (λ h. current)

-- Votes.

grants-adopt_term : (v : State) (t c i u : ℕ) → grants (adopt_term v t) t c i u ≡ grants v t c i u
grants-adopt_term v t c i u = elim (cases_Bool (nat_lt v.term t)) [
  | inl higher ↦
      let now : nat_lt t t ≡ false = grind (arith, nat_tests) in
      let le : nat_le t t ≡ true = grind (arith, nat_tests) in
      let below : nat_le v.term t ≡ true = grind (arith, nat_tests) in
      rw (higher, now, le, below) refl
  | inr level ↦ rw (level, level) refl
]

vote_again : (v : State) (t c i u : ℕ) → Again v (Vote t c i u)
vote_again v t c i u = elim (cases_Bool (in_range (Vote t c i u))) [
  | inr out ↦ record { same_reply = rw out refl; same_voter = rw out refl }
  | inl fit ↦ elim (cases_Bool (grants v t c i u)) [
    | inr nay ↦
        let w = adopt_term v t in
        let became : next v (Vote t c i u) ≡ w = rw (fit, nay) refl in
        let still : grants w t c i u ≡ false = grants-adopt_term v t c i u ∙ nay in
        let told : reply w (Vote t c i u) ≡ Denied (adopt_term w t).term = rw (fit, still) refl in
        let told_first : reply v (Vote t c i u) ≡ Denied w.term = rw (fit, nay) refl in
        let moved : next w (Vote t c i u) ≡ adopt_term w t = rw (fit, still) refl in
        record {
          same_reply = ap (λ (x : State). reply x (Vote t c i u)) became ∙ told ∙ ap (λ (x : State). Denied x.term) (adopt_again v t) ∙ sym told_first;
          same_voter = ap (λ (x : State). next x (Vote t c i u)) became ∙ moved ∙ adopt_again v t ∙ sym became;
        }
    | inl yea ↦
        let a = adopt_term v t in
        let w : State = record a { vote = Some c } in
        let became : next v (Vote t c i u) ≡ w = rw (fit, yea) refl in
        let reached : adopt_term w t ≡ w = adopt_reached w t (adopted_term v t) in
        let up : is_up_to_date w i u ≡ true = (and_parts (nat_le a.term t && may_vote (adopt_term a t) c) _ (grants-adopt_term v t c i u ∙ yea)).1 in
        let le : nat_le w.term t ≡ true = (and_parts (nat_le a.term t) _ (and_parts (nat_le a.term t && may_vote (adopt_term a t) c) _ (grants-adopt_term v t c i u ∙ yea)).0).0 in
        let may : may_vote (adopt_term w t) c ≡ true = ap (λ (x : State). may_vote x c) reached ∙ eq-eqb c c refl in
        let still : grants w t c i u ≡ true = rw (le, may, up) refl in
        let told : reply w (Vote t c i u) ≡ Granted t = rw (fit, still) refl in
        let told_first : reply v (Vote t c i u) ≡ Granted t = rw (fit, yea) refl in
        let moved : next w (Vote t c i u) ≡ record (adopt_term w t) { vote = Some c } = rw (fit, still) refl in
        record {
          same_reply = ap (λ (x : State). reply x (Vote t c i u)) became ∙ told ∙ sym told_first;
          same_voter = ap (λ (x : State). next x (Vote t c i u)) became ∙ moved
              ∙ ap (λ (x : State). let y : State = record x { vote = Some c } in y) reached ∙ sym became;
        }
  ]
]

-- Compaction and snapshots.

compact_again : (v : State) (c : ℕ) → Again v (Compact c)
compact_again v c = elim (cases_Bool (in_range (Compact c))) [
  | inr out ↦ record { same_reply = rw out refl; same_voter = rw out refl }
  | inl fit ↦ elim (cases_Bool (can_compact v c)) [
    | inr cannot ↦
        let became : next v (Compact c) ≡ v = rw (fit, cannot) refl in
        record { same_reply = ap (λ (x : State). reply x (Compact c)) became; same_voter = ap (λ (x : State). next x (Compact c)) became }
    | inl can ↦
        let w = compacted v c in
        let became : next v (Compact c) ≡ w = rw (fit, can) refl in
        let done : can_compact w c ≡ false = grind (arith, nat_tests) in
        let told : reply w (Compact c) ≡ Base c = rw (fit, done) refl in
        let told_first : reply v (Compact c) ≡ Base c = rw (fit, can) refl in
        let moved : next w (Compact c) ≡ w = rw (fit, done) refl in
        record {
          same_reply = ap (λ (x : State). reply x (Compact c)) became ∙ told ∙ sym told_first;
          same_voter = ap (λ (x : State). next x (Compact c)) became ∙ moved ∙ sym became;
        }
  ]
]

install_again : (v : State) (t c u : ℕ) → Again v (Install t c u)
install_again v t c u = elim (cases_Bool (in_range (Install t c u))) [
  | inr out ↦ record { same_reply = rw out refl; same_voter = rw out refl }
  | inl fit ↦ elim (cases_Bool (nat_lt t v.term)) [
    | inl stale ↦
        let became : next v (Install t c u) ≡ v = rw (fit, stale) refl in
        record { same_reply = ap (λ (x : State). reply x (Install t c u)) became; same_voter = ap (λ (x : State). next x (Install t c u)) became }
    | inr current ↦ elim (cases_Bool (nat_le c v.base_index)) [
      | inl old ↦
          let w = adopt_term v t in
          let became : next v (Install t c u) ≡ w = rw (fit, current, old) refl in
          let now : nat_lt t w.term ≡ false = current_adopted v t current in
          let below : nat_le c w.base_index ≡ true = ap (λ b. nat_le c b) (base-adopt_term v t) ∙ old in
          let told : reply w (Install t c u) ≡ Base w.base_index = rw (fit, now, below) refl in
          let told_first : reply v (Install t c u) ≡ Base v.base_index = rw (fit, current, old) refl in
          let moved : next w (Install t c u) ≡ adopt_term w t = rw (fit, now, below) refl in
          record {
            same_reply = ap (λ (x : State). reply x (Install t c u)) became ∙ told ∙ ap (λ b. Base b) (base-adopt_term v t) ∙ sym told_first;
            same_voter = ap (λ (x : State). next x (Install t c u)) became ∙ moved ∙ adopt_again v t ∙ sym became;
          }
      | inr new ↦
          let w = installed (adopt_term v t) c u in
          let became : next v (Install t c u) ≡ w = rw (fit, current, new) refl in
          let now : nat_lt t w.term ≡ false = current_adopted v t current in
          let below : nat_le c w.base_index ≡ true = grind (arith, nat_tests) in
          let told : reply w (Install t c u) ≡ Base c = rw (fit, now, below) refl in
          let told_first : reply v (Install t c u) ≡ Base c = rw (fit, current, new) refl in
          let moved : next w (Install t c u) ≡ adopt_term w t = rw (fit, now, below) refl in
          record {
            same_reply = ap (λ (x : State). reply x (Install t c u)) became ∙ told ∙ sym told_first;
            same_voter = ap (λ (x : State). next x (Install t c u)) became ∙ moved ∙ adopt_reached w t (adopted_term v t) ∙ sym became;
          }
    ]
  ]
]

-- Entries.

merged-merged : (old sent : List Pair) → merged (merged old sent) sent ≡ merged old sent
merged-merged old sent =
    let all : (matching (merged old sent) sent == length sent) ≡ true = eq-eqb (matching (merged old sent) sent) (length sent) (matching-merged old sent) in
    rw all refl

-- merging again leaves the log
log_again :
    (k : ℕ) (log sent : List Pair) → k ≤ length log
    → take k (take k log ++ merged (drop k log) sent) ++ merged (drop k (take k log ++ merged (drop k log) sent)) sent
    ≡ take k log ++ merged (drop k log) sent
log_again k log sent within =
    let size : length (take k log) ≡ k = length-take-le k log within in
    let front : take k (take k log ++ merged (drop k log) sent) ≡ take k log = take_at (take k log) (merged (drop k log) sent) k size in
    let back : drop k (take k log ++ merged (drop k log) sent) ≡ merged (drop k log) sent = drop_at (take k log) (merged (drop k log) sent) k size in
    rw (front, back, merged-merged (drop k log) sent) refl

max_again : (a b : ℕ) → max (max a b) b ≡ max a b
max_again a b = max-eq_left (le-max_right a b)

agrees-adopt_term : (v : State) (t p u : ℕ) → agrees_at (adopt_term v t) p u ≡ agrees_at v p u
agrees-adopt_term v t p u =
    by_test (λ (w : State). agrees_at w p u ≡ agrees_at v p u) (nat_lt v.term t) (record v { term = t; vote = None }) v (λ h. refl) (λ h. refl)

last-adopt_term : (v : State) (t : ℕ) → last_index (adopt_term v t) ≡ last_index v
last-adopt_term v t =
    by_test (λ (w : State). last_index w ≡ last_index v) (nat_lt v.term t) (record v { term = t; vote = None }) v (λ h. refl) (λ h. refl)

-- an Append that doesn't match takes the term over at most
unmatched_again :
    (v : State) (t p u commit : ℕ) (sent : List Pair) → in_range (Append t p u commit sent) ≡ true → nat_lt t v.term ≡ false
    → agrees_at v p u ≡ false → Again v (Append t p u commit sent)
unmatched_again v t p u commit sent fit current differs =
    let q = Append t p u commit sent in
    let w = adopt_term v t in
    let became : next v q ≡ w = rw (fit, current, differs) refl in
    let now : nat_lt t w.term ≡ false = current_adopted v t current in
    let apart : agrees_at w p u ≡ false = agrees-adopt_term v t p u ∙ differs in
    let moved : next w q ≡ adopt_term w t = rw (fit, now, apart) refl in
    let same_voter : next (next v q) q ≡ next v q = ap (λ (x : State). next x q) became ∙ moved ∙ adopt_again v t ∙ sym became in
    elim (cases_Bool (nat_lt p v.base_index)) [
      | inl below ↦
          let below_w : nat_lt p w.base_index ≡ true = ap (λ b. nat_lt p b) (base-adopt_term v t) ∙ below in
          let told : reply w q ≡ Base w.base_index = rw (fit, now, below_w) refl in
          let told_first : reply v q ≡ Base v.base_index = rw (fit, current, below) refl in
          record {
            same_reply = ap (λ (x : State). reply x q) became ∙ told ∙ ap (λ b. Base b) (base-adopt_term v t) ∙ sym told_first;
            same_voter = same_voter;
          }
      | inr above ↦
          let above_w : nat_lt p w.base_index ≡ false = ap (λ b. nat_lt p b) (base-adopt_term v t) ∙ above in
          let told : reply w q ≡ Mismatch (min (last_index w) (p - 1)) = rw (fit, now, above_w, apart) refl in
          let told_first : reply v q ≡ Mismatch (min (last_index v) (p - 1)) = rw (fit, current, above, differs) refl in
          record {
            same_reply = ap (λ (x : State). reply x q) became ∙ told ∙ ap (λ l. Mismatch (min l (p - 1))) (last-adopt_term v t) ∙ sym told_first;
            same_voter = same_voter;
          }
    ]

-- one that does finds its own entries
matched_again :
    (v : State) (t p u commit : ℕ) (sent : List Pair) → in_range (Append t p u commit sent) ≡ true → nat_lt t v.term ≡ false
    → agrees_at v p u ≡ true → Again v (Append t p u commit sent)
matched_again v t p u commit sent fit current agrees =
    let q = Append t p u commit sent in
    let a = adopt_term v t in
    let w = appended a p commit sent in
    let k = p - a.base_index in
    let became : next v q ≡ w = rw (fit, current, agrees) refl in
    let now : nat_lt t w.term ≡ false = current_adopted v t current in
    let agrees_a : agrees_at a p u ≡ true = agrees-adopt_term v t p u ∙ agrees in
    let above_a : nat_lt p a.base_index ≡ false = agrees_above a p u agrees_a in
    let above : a.base_index ≤ p = ltb-false p a.base_index above_a in
    let within : k ≤ length a.log = reaches a p u above agrees_a in
    let entry = entry_before a.base_index p p a.log (merged (drop k a.log) sent) above within (omega arith) in
    let term : term_at w p ≡ term_at a p =
    ap (λ (o : Option Pair). if p == a.base_index then Some a.base_term else term_of o) entry in
    let agrees_w : agrees_at w p u ≡ true = ap (λ (o : Option ℕ). option_map_or (λ x. x == u) o false) term ∙ agrees_a in
    let told : reply w q ≡ Matched (p + length sent) = rw (fit, now, above_a, agrees_w) refl in
    let above_v : nat_lt p v.base_index ≡ false = agrees_above v p u agrees in
    let told_first : reply v q ≡ Matched (p + length sent) = rw (fit, current, above_v, agrees) refl in
    let moved : next w q ≡ appended (adopt_term w t) p commit sent = rw (fit, now, agrees_w) refl in
    let reached : adopt_term w t ≡ w = adopt_reached w t (adopted_term v t) in
    let known = min commit (p + length sent) in
    let stays : appended w p commit sent ≡ w =
    ap (λ (l : List Pair). let x : State = record a { log = l; commit = max w.commit known } in x) (log_again k a.log sent within)
    ∙ ap (λ (c : ℕ). let x : State = record a { log = merged_log a p sent; commit = c } in x) (max_again a.commit known) in
    record {
      same_reply = ap (λ (x : State). reply x q) became ∙ told ∙ sym told_first;
      same_voter = ap (λ (x : State). next x q) became ∙ moved ∙ ap (λ (x : State). appended x p commit sent) reached ∙ stays ∙ sym became;
    }

append_again : (v : State) (t p u commit : ℕ) (sent : List Pair) → Again v (Append t p u commit sent)
append_again v t p u commit sent = elim (cases_Bool (in_range (Append t p u commit sent))) [
  | inr out ↦ record { same_reply = rw out refl; same_voter = rw out refl }
  | inl fit ↦ elim (cases_Bool (nat_lt t v.term)) [
    | inl stale ↦
        let became : next v (Append t p u commit sent) ≡ v = rw (fit, stale) refl in
        record {
          same_reply = ap (λ (x : State). reply x (Append t p u commit sent)) became;
          same_voter = ap (λ (x : State). next x (Append t p u commit sent)) became;
        }
    | inr current ↦ elim (cases_Bool (agrees_at v p u)) [
      | inr differs ↦ unmatched_again v t p u commit sent fit current differs
      | inl agrees ↦ matched_again v t p u commit sent fit current agrees
    ]
  ]
]

pub again : (q : Request) (v : State) → is_repeatable q ≡ true → Again v q
again (Vote t c i u) v may = vote_again v t c i u
again (Append t p u commit sent) v may = append_again v t p u commit sent
again (Compact c) v may = compact_again v c
again (Install t c u) v may = install_again v t c u
again (Read a b) v may = absurd (false≢true may)
again Status v may = absurd (false≢true may)
again Retire v may = absurd (false≢true may)

pub repeat_is_idempotent : RepeatIsIdempotent
repeat_is_idempotent rounds cuts g ex before later q a b is may =
    let x : Request × Option Reply = (q, Some a) in
    let y : Request × Option Reply = (q, Some b) in
    let v = voter_after before in
    let runs = rw is at (group_runs rounds cuts g ex) in
    let start = runs_append before (x ∷ y ∷ later) fresh runs in
    let same = again q v may in
    let both : voter_after (before ++ x ∷ y ∷ []) ≡ next (next v q) q = voter_from-append before (x ∷ y ∷ []) fresh in
    let one : voter_after (before ++ x ∷ []) ≡ next v q = voter_from-append before (x ∷ []) fresh in
    (start.1.0 ∙ sym same.same_reply ∙ sym start.1.1.0, both ∙ same.same_voter ∙ sym one)
