use Rattle.std.proofs.Common.{◌≡◌, ℕ, ◌≤◌, ◌<◌, ◌==◌, ◌&&◌, List, [], ◌∷◌, nat_lt, nat_le, true, false, Option, None, Some, refl, sym, ap, ◌∙◌, inl, inr, arith}
use Rattle.std.proofs.lemmas.Bool.{and_parts, cases_Bool, eqb-true, leb-true, ltb-true, ltb-false}
use Rattle.raft_voter_messages.specs.declared.reply.Reply.{Reply}
use Rattle.raft_voter_messages.specs.declared.reply.Reply.TheVariants.{Granted, Denied, Refused}
use Rattle.raft_voter_messages.specs.declared.request.Request.{Request}
use Rattle.raft_voter_messages.specs.declared.request.Request.TheVariants.{Vote, Append, Compact, Install, Read, Status, Retire}
use Rattle.raft_voter_outline.specs.State.{State, adopt_term}
use Rattle.raft_voter_outline.specs.Rules.{grants, may_vote, next, next_in_range, reply}
use Rattle.raft_voter_messages.specs.Ranges.{in_range}
use Rattle.raft_voter_outline.specs.Rules.{is_retire}
use Rattle.raft_voter.specs.Accounts.{NoRetire, voter_from}
use Rattle.raft_voter_outline.proofs.Public.{append_next, by_test, compact_next, install_next, vote_next}

-- the term only rises
term-same : (v : State) → v.term ≤ v.term
term-same v = omega arith

term-adopt_term : (v : State) (t : ℕ) → v.term ≤ (adopt_term v t).term
term-adopt_term v t =
    by_test (λ (w : State). v.term ≤ w.term) (nat_lt v.term t) (record v { term = t; vote = None }) v (λ h. omega (arith, ltb-true v.term t h)) (λ h. term-same v)

term-next_in_range : (q : Request) (v : State) → is_retire q ≡ false → v.term ≤ (next_in_range v q).term
term-next_in_range (Vote t c i u) v stays =
    vote_next (λ (w : State). v.term ≤ w.term) v t c i u (λ h. term-adopt_term v t) (term-adopt_term v t)
term-next_in_range (Append t p u commit es) v stays =
    append_next (λ (w : State). v.term ≤ w.term) v t p u commit es (term-same v) (term-adopt_term v t) (term-adopt_term v t)
term-next_in_range (Compact i) v stays = compact_next (λ (w : State). v.term ≤ w.term) v i (term-same v) (term-same v)
term-next_in_range (Install t i u) v stays =
    install_next (λ (w : State). v.term ≤ w.term) v t i u (term-same v) (term-adopt_term v t) (term-adopt_term v t)
term-next_in_range (Read a b) v stays = term-same v
term-next_in_range Status v stays = term-same v
term-next_in_range Retire v stays = absurd (cc)

pub term-next : (q : Request) (v : State) → is_retire q ≡ false → v.term ≤ (next v q).term
term-next q v stays =
    by_test (λ (w : State). v.term ≤ w.term) (in_range q) (next_in_range v q) v (λ h. term-next_in_range q v stays) (λ h. term-same v)

pub term-voter_from :
    (ts : List (Request × Option Reply)) (v : State) → NoRetire ts → v.term ≤ (voter_from v ts).term
term-voter_from [] v stays = omega arith
term-voter_from (t ∷ ts) v stays = omega (arith, term-next t.0 v stays.0, term-voter_from ts (next v t.0) stays.1)

-- The vote of a term is out.
pub record Gave (v : State) (t c : ℕ) : Type 0 where
  pub reached : t ≤ v.term
  pub given : t ≡ v.term → v.vote ≡ Some c

gave_adopt : (v : State) (u t c : ℕ) → Gave v t c → Gave (adopt_term v u) t c
gave_adopt v u t c g =
    by_test (λ (w : State). Gave w t c) (nat_lt v.term u) (record v { term = u; vote = None }) v
    (λ h. let above : v.term < u = ltb-true v.term u h in
    record { reached = omega (arith, g.reached); given = λ e. absurd (omega (arith, g.reached)) })
    (λ h. g)

-- a vote that is out stays, whoever asks for it
gave_voted :
    (v : State) (t c d : ℕ) → Gave v t c → may_vote v d ≡ true → Gave (record v { vote = Some d }) t c
gave_voted v t c d g may = record {
  reached = g.reached;
  given = λ e. let out : v.vote ≡ Some c = g.given e in
      let same : (c == d) ≡ true = rw out at may in
      ap Some (sym (eqb-true c d same));
}

grants_may : (v : State) (t c i u : ℕ) → grants v t c i u ≡ true → may_vote (adopt_term v t) c ≡ true
grants_may v t c i u h = (and_parts (nat_le v.term t) _ (and_parts (nat_le v.term t && may_vote (adopt_term v t) c) _ h).0).1

term-granted : (v : State) (t c i u : ℕ) → grants v t c i u ≡ true → (adopt_term v t).term ≡ t
term-granted v t c i u h =
    let reached : v.term ≤ t = leb-true v.term t (and_parts (nat_le v.term t) _ (and_parts (nat_le v.term t && may_vote (adopt_term v t) c) _ h).0).0 in
    by_test (λ (w : State). w.term ≡ t) (nat_lt v.term t) (record v { term = t; vote = None }) v (λ k. refl) (λ k. omega (arith, ltb-false v.term t k))

gave_next_in_range :
    (q : Request) (v : State) (t c : ℕ) → is_retire q ≡ false → Gave v t c → Gave (next_in_range v q) t c
gave_next_in_range (Vote term d i u) v t c stays g =
    let adopted = gave_adopt v term t c g in
    vote_next (λ (w : State). Gave w t c) v term d i u
    (λ h. gave_voted (adopt_term v term) t c d adopted (grants_may v term d i u h)) adopted
gave_next_in_range (Append term p u commit es) v t c stays g =
    let adopted = gave_adopt v term t c g in
    append_next (λ (w : State). Gave w t c) v term p u commit es g (record { reached = adopted.reached; given = adopted.given }) adopted
gave_next_in_range (Compact i) v t c stays g =
    compact_next (λ (w : State). Gave w t c) v i g (record { reached = g.reached; given = g.given })
gave_next_in_range (Install term i u) v t c stays g =
    let adopted = gave_adopt v term t c g in
    install_next (λ (w : State). Gave w t c) v term i u g adopted (record { reached = adopted.reached; given = adopted.given })
gave_next_in_range (Read a b) v t c stays g = g
gave_next_in_range Status v t c stays g = g
gave_next_in_range Retire v t c stays g = absurd (cc)

pub gave_next : (q : Request) (v : State) (t c : ℕ) → is_retire q ≡ false → Gave v t c → Gave (next v q) t c
gave_next q v t c stays g =
    by_test (λ (w : State). Gave w t c) (in_range q) (next_in_range v q) v (λ h. gave_next_in_range q v t c stays g) (λ h. g)

pub gave_voter_from :
    (ts : List (Request × Option Reply)) (v : State) (t c : ℕ) → NoRetire ts → Gave v t c → Gave (voter_from v ts) t c
gave_voter_from [] v t c stays g = g
gave_voter_from (x ∷ ts) v t c stays g =
    gave_voter_from ts (next v x.0) t c stays.1 (gave_next x.0 v t c stays.0 g)

-- a reply Granted is a vote that was granted
granted_parts :
    (v : State) (t c i u term : ℕ) → reply v (Vote t c i u) ≡ Granted term
    → (in_range (Vote t c i u) ≡ true) × (grants v t c i u ≡ true) × (t ≡ term)
granted_parts v t c i u term is = elim (cases_Bool (in_range (Vote t c i u))) [
  | inl fit ↦ elim (cases_Bool (grants v t c i u)) [
    | inl yea ↦
        let whole : Granted t ≡ Granted term = rw (fit, yea) at is in
        (fit, yea, cc)
    | inr nay ↦
        let whole : Denied (adopt_term v t).term ≡ Granted term = rw (fit, nay) at is in
        absurd (cc)
  ]
  | inr out ↦ let whole : Refused ≡ Granted term = rw out at is in absurd (cc)
]

-- after it the vote is out
pub gave_granted :
    (v : State) (t c i u term : ℕ) → reply v (Vote t c i u) ≡ Granted term → Gave (next v (Vote t c i u)) term c
gave_granted v t c i u term is =
    let parts = granted_parts v t c i u term is in
    let became : next v (Vote t c i u) ≡ record (adopt_term v t) { vote = Some c } = rw (parts.0, parts.1) refl in
    let reached : (adopt_term v t).term ≡ t = term-granted v t c i u parts.1 in
    rw became (record { reached = omega (arith, reached, parts.2); given = λ e. refl })

-- and it isn't granted to another
pub granted_same :
    (v : State) (t c d i u term : ℕ) → Gave v term c → reply v (Vote t d i u) ≡ Granted term → c ≡ d
granted_same v t c d i u term g is =
    let parts = granted_parts v t d i u term is in
    let adopted = gave_adopt v t term c g in
    let reached : (adopt_term v t).term ≡ t = term-granted v t d i u parts.1 in
    let out : (adopt_term v t).vote ≡ Some c = adopted.given (sym parts.2 ∙ sym reached) in
    let may : may_vote (adopt_term v t) d ≡ true = grants_may v t d i u parts.1 in
    let same : (c == d) ≡ true = rw out at may in
    eqb-true c d same
