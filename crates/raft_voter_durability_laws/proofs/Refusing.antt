-- Replies that are `Refused`: those of requests out of range alone.
use Rattle.std.proofs.Common.{◌≡◌, ◌∙◌, ℕ, ◌+◌, ◌==◌, nat_lt, nat_le, true, false, [], refl, sym, ap, inl, inr}
use Rattle.std.proofs.Math.Path.{fun_ext}
use Rattle.std.proofs.lemmas.Bool.{cases_Bool}
use Rattle.raft_log_model_laws.proofs.Public.{from_eq_true, if_false, if_true}
use Rattle.raft_voter_messages.specs.declared.reply.Reply.{Reply}
use Rattle.raft_voter_messages.specs.declared.reply.Reply.TheVariants.{Granted, Denied, Matched, Mismatch, Stale, Base, Entries, Gone, Unknown, Status as StatusReply, Retired, Refused}
use Rattle.raft_voter_messages.specs.declared.request.Request.{Request}
use Rattle.raft_voter_messages.specs.declared.request.Request.TheVariants.{Vote, Append, Compact, Install, Read, Status, Retire}
use Rattle.raft_voter_messages.specs.Ranges.{in_range}
use Rattle.raft_voter_outline.specs.Rules.{agrees_at, can_compact, grants, next, next_in_range, reply, reply_in_range}
use Rattle.raft_voter_outline.specs.State.{State, adopt_term, last_index}
use Rattle.raft_voter_outline.proofs.Public.{by_test}
use Rattle.raft_voter.specs.Rounds.{World, after_one}
use Rattle.raft_voter.specs.Service.{is_refused}

pub named_refused : (r : Reply) → is_refused r ≡ true → r ≡ Refused
named_refused (Granted n) h = cc
named_refused (Denied n) h = cc
named_refused (Matched n) h = cc
named_refused (Mismatch n) h = cc
named_refused (Stale n) h = cc
named_refused (Base n) h = cc
named_refused (Entries es) h = cc
named_refused (Gone n) h = cc
named_refused (Unknown n) h = cc
named_refused (StatusReply s) h = cc
named_refused Retired h = cc
named_refused Refused h = refl

-- a voter refuses nothing that is in range
answered : (v : State) (q : Request) → is_refused (reply_in_range v q) ≡ false
answered v (Vote term candidate index last) =
    by_test (λ r. is_refused r ≡ false) (grants v term candidate index last) (Granted term) (Denied (adopt_term v term).term) (λ _. refl) (λ _. refl)
answered v (Append term prev prev_term commit sent) =
    by_test (λ r. is_refused r ≡ false) (nat_lt term v.term) (Stale v.term) _ (λ _. refl)
    (λ _. by_test (λ r. is_refused r ≡ false) (nat_lt prev v.base_index) (Base v.base_index) _ (λ _. refl)
    (λ _. by_test (λ r. is_refused r ≡ false) (agrees_at v prev prev_term) (Matched _) (Mismatch _) (λ _. refl) (λ _. refl)))
answered v (Compact index) = by_test (λ r. is_refused r ≡ false) (can_compact v index) (Base index) (Base v.base_index) (λ _. refl) (λ _. refl)
answered v (Install term index entry_term) =
    by_test (λ r. is_refused r ≡ false) (nat_lt term v.term) (Stale v.term) _ (λ _. refl)
    (λ _. by_test (λ r. is_refused r ≡ false) (nat_le index v.base_index) (Base v.base_index) (Base index) (λ _. refl) (λ _. refl))
answered v (Read from to) =
    by_test (λ r. is_refused r ≡ false) (nat_le from v.base_index) (Gone v.base_index) _ (λ _. refl)
    (λ _. by_test (λ r. is_refused r ≡ false) (nat_le to from) (Entries []) _ (λ _. refl)
    (λ _. by_test (λ r. is_refused r ≡ false) (nat_lt (last_index v + 1) to) (Unknown (last_index v)) (Entries _) (λ _. refl) (λ _. refl)))
answered v Status = refl
answered v Retire = refl

-- what is refused isn't in range
pub refused_is_out : (v : State) (q : Request) → is_refused (reply v q) ≡ true → in_range q ≡ false
refused_is_out v q h = elim (cases_Bool (in_range q)) [
  | inr out ↦ out
  | inl fits ↦
      let is : reply v q ≡ reply_in_range v q = if_true (in_range q) (reply_in_range v q) Refused fits in
      let no : is_refused (reply v q) ≡ false = ap is_refused is ∙ answered v q in
      cc
]

-- and changes no voter
pub out_stays : (W : World) (q : ℕ × Request) → in_range q.1 ≡ false → after_one W q ≡ W
out_stays W q out = fun_ext at
  where
    at : (g : ℕ) → after_one W q g ≡ W g
    at g = elim (cases_Bool (g == q.0)) [
      | inl same ↦
          if_true (g == q.0) (next (W q.0) q.1) (W g) same
          ∙ if_false (in_range q.1) (next_in_range (W q.0) q.1) (W q.0) out
          ∙ ap W (sym (from_eq_true g q.0 same))
      | inr other ↦ if_false (g == q.0) (next (W q.0) q.1) (W g) other
    ]

-- a request that leaves its voter leaves all voters
pub kept_stays : (W : World) (q : ℕ × Request) → next (W q.0) q.1 ≡ W q.0 → after_one W q ≡ W
kept_stays W q kept = fun_ext at
  where
    at : (g : ℕ) → after_one W q g ≡ W g
    at g = elim (cases_Bool (g == q.0)) [
      | inl same ↦ if_true (g == q.0) (next (W q.0) q.1) (W g) same ∙ kept ∙ ap W (sym (from_eq_true g q.0 same))
      | inr other ↦ if_false (g == q.0) (next (W q.0) q.1) (W g) other
    ]
