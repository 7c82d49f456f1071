use Rattle.std.proofs.Common.{◌≡◌, ℕ, Bool, true, List, Option, Some, None, ap, refl, subst, ◌∙◌, ◌==◌, eqb}
use Rattle.std.specs.Cmp.Derive.{both_true}
use Rattle.std.specs.Option.{option_eq}
use Rattle.std.specs.Cmp.Lexicographic.{pointwise_decides, bytes_decides}
use Rattle.std.proofs.lemmas.Bool.{and_parts, eqb-true, eq-eqb, false≢true}
use Rattle.raft_voter_messages.specs.declared.reply.Entry.{Entry}
use Rattle.raft_voter_messages.specs.declared.reply.VoterState.{VoterState}
use Rattle.raft_voter_messages.specs.declared.reply.Reply.{Reply}
use Rattle.raft_voter_messages.specs.declared.reply.Reply.TheVariants.{Granted, Denied, Matched, Mismatch, Stale, Base, Entries, Gone, Unknown, Status, Retired, Refused}
use Rattle.raft_voter_messages.specs.contracts.reply.EntryPartialEq as entries
use Rattle.raft_voter_messages.specs.contracts.reply.VoterStatePartialEq as states
use Rattle.raft_voter_messages.specs.contracts.reply.ReplyPartialEq as replies

abbrev same_entry : Entry → Entry → Bool
same_entry = entries.TheImpl.eq-value.it

abbrev same_state : VoterState → VoterState → Bool
same_state = states.TheImpl.eq-value.it

abbrev same_reply : Reply → Reply → Bool
same_reply = replies.TheImpl.eq-value.it

abbrev entry_made : ℕ → ℕ → List ℕ → Entry
entry_made i t bytes = record { index = i; term = t; bytes = bytes }

-- entries are the same where all that they say is
pub entry_built : (a b : Entry) → a.index ≡ b.index → a.term ≡ b.term → a.bytes ≡ b.bytes → a ≡ b
entry_built a b i t bs =
    ap (λ x. entry_made x a.term a.bytes) i ∙ ap (λ x. entry_made b.index x a.bytes) t
    ∙ ap (λ x. entry_made b.index b.term x) bs

entry_from : (a b : Entry) → same_entry a b ≡ true → a ≡ b
entry_from a b h =
    let p = and_parts (a.index == b.index) _ h in
    let q = and_parts (a.term == b.term) _ p.1 in
    entry_built a b (eqb-true _ _ p.0) (eqb-true _ _ q.0) ((bytes_decides a.bytes b.bytes).0 q.1)

entry_itself : (a : Entry) → same_entry a a ≡ true
entry_itself a =
    both_true (eq-eqb a.index a.index refl)
    (both_true (eq-eqb a.term a.term refl) ((bytes_decides a.bytes a.bytes).1 refl))

option_from : (a b : Option ℕ) → option_eq eqb a b ≡ true → a ≡ b
option_from None None h = refl
option_from None (Some y) h = absurd (false≢true h)
option_from (Some x) None h = absurd (false≢true h)
option_from (Some x) (Some y) h = ap Some (eqb-true x y h)

option_itself : (a : Option ℕ) → option_eq eqb a a ≡ true
option_itself None = refl
option_itself (Some x) = eq-eqb x x refl

abbrev state_made : ℕ → Option ℕ → ℕ → ℕ → ℕ → ℕ → ℕ → VoterState
state_made t v b u i l c =
    record { term = t; vote = v; base_index = b; base_term = u; last_index = i; last_term = l; commit = c }

-- states are the same where all that they say is
pub state_built :
    (a b : VoterState) → a.term ≡ b.term → a.vote ≡ b.vote → a.base_index ≡ b.base_index → a.base_term ≡ b.base_term
    → a.last_index ≡ b.last_index → a.last_term ≡ b.last_term → a.commit ≡ b.commit → a ≡ b
state_built a b t v i u j w c =
    ap (λ x. state_made x a.vote a.base_index a.base_term a.last_index a.last_term a.commit) t
    ∙ ap (λ x. state_made b.term x a.base_index a.base_term a.last_index a.last_term a.commit) v
    ∙ ap (λ x. state_made b.term b.vote x a.base_term a.last_index a.last_term a.commit) i
    ∙ ap (λ x. state_made b.term b.vote b.base_index x a.last_index a.last_term a.commit) u
    ∙ ap (λ x. state_made b.term b.vote b.base_index b.base_term x a.last_term a.commit) j
    ∙ ap (λ x. state_made b.term b.vote b.base_index b.base_term b.last_index x a.commit) w
    ∙ ap (λ x. state_made b.term b.vote b.base_index b.base_term b.last_index b.last_term x) c

state_from : (a b : VoterState) → same_state a b ≡ true → a ≡ b
state_from a b h =
    let p = and_parts (a.term == b.term) _ h in
    let q = and_parts (option_eq eqb a.vote b.vote) _ p.1 in
    let r = and_parts (a.base_index == b.base_index) _ q.1 in
    let s = and_parts (a.base_term == b.base_term) _ r.1 in
    let t = and_parts (a.last_index == b.last_index) _ s.1 in
    let u = and_parts (a.last_term == b.last_term) _ t.1 in
    state_built a b (eqb-true _ _ p.0) (option_from _ _ q.0) (eqb-true _ _ r.0) (eqb-true _ _ s.0) (eqb-true _ _ t.0)
    (eqb-true _ _ u.0) (eqb-true _ _ u.1)

state_itself : (a : VoterState) → same_state a a ≡ true
state_itself a =
    both_true (eq-eqb a.term a.term refl)
    (both_true (option_itself a.vote)
    (both_true (eq-eqb a.base_index a.base_index refl)
    (both_true (eq-eqb a.base_term a.base_term refl)
    (both_true (eq-eqb a.last_index a.last_index refl)
    (both_true (eq-eqb a.last_term a.last_term refl) (eq-eqb a.commit a.commit refl))))))

decides_entry : (a b : Entry) → (same_entry a b ≡ true → a ≡ b) × (a ≡ b → same_entry a b ≡ true)
decides_entry a b = (entry_from a b, λ e. subst (λ (x : Entry). same_entry a x ≡ true) e (entry_itself a))

reply_from : (a b : Reply) → same_reply a b ≡ true → a ≡ b
reply_from (Granted m) (Granted n) h = ap Granted (eqb-true m n h)
reply_from (Denied m) (Denied n) h = ap Denied (eqb-true m n h)
reply_from (Matched m) (Matched n) h = ap Matched (eqb-true m n h)
reply_from (Mismatch m) (Mismatch n) h = ap Mismatch (eqb-true m n h)
reply_from (Stale m) (Stale n) h = ap Stale (eqb-true m n h)
reply_from (Base m) (Base n) h = ap Base (eqb-true m n h)
reply_from (Gone m) (Gone n) h = ap Gone (eqb-true m n h)
reply_from (Unknown m) (Unknown n) h = ap Unknown (eqb-true m n h)
reply_from (Entries m) (Entries n) h = ap Entries ((pointwise_decides decides_entry m n).0 h)
reply_from (Status m) (Status n) h = ap Status (state_from m n h)
reply_from Retired Retired h = refl
reply_from Refused Refused h = refl
reply_from a b h = absurd (false≢true h)

reply_itself : (a : Reply) → same_reply a a ≡ true
reply_itself (Granted m) = eq-eqb m m refl
reply_itself (Denied m) = eq-eqb m m refl
reply_itself (Matched m) = eq-eqb m m refl
reply_itself (Mismatch m) = eq-eqb m m refl
reply_itself (Stale m) = eq-eqb m m refl
reply_itself (Base m) = eq-eqb m m refl
reply_itself (Gone m) = eq-eqb m m refl
reply_itself (Unknown m) = eq-eqb m m refl
reply_itself (Entries m) = (pointwise_decides decides_entry m m).1 refl
reply_itself (Status m) = state_itself m
reply_itself Retired = refl
reply_itself Refused = refl

-- `==` on replies tells whether they are the same
pub decides_reply : (a b : Reply) → (same_reply a b ≡ true → a ≡ b) × (a ≡ b → same_reply a b ≡ true)
decides_reply a b = (reply_from a b, λ e. subst (λ (x : Reply). same_reply a x ≡ true) e (reply_itself a))
