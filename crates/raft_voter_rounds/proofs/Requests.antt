-- `==` on requests tells whether they are the same.
use Rattle.std.proofs.Common.{◌≡◌, ℕ, Bool, true, ap, refl, subst, ◌∙◌, ◌==◌, ◌&&◌}
use Rattle.std.specs.Bool.{Decides}
use Rattle.std.specs.Cmp.Derive.{both_true}
use Rattle.std.proofs.lemmas.Bool.{and_parts, eqb-true, eq-eqb, false≢true}
use Rattle.raft_voter_messages.specs.declared.request.Request.{Request}
use Rattle.raft_voter_messages.specs.declared.request.Request.TheVariants.{Vote, Append, Compact, Install, Read, Status, Retire}
use Rattle.raft_voter_messages.specs.contracts.request.RequestPartialEq as requests
use Rattle.raft_voter.proofs.Public.{logs_decide}

abbrev same_request : Request → Request → Bool
same_request = requests.TheImpl.eq-value.it

request_from : (a b : Request) → same_request a b ≡ true → a ≡ b
request_from (Vote t c i u) (Vote t' c' i' u') h =
    let p = and_parts (t == t') _ h in
    let q = and_parts (c == c') _ p.1 in
    let r = and_parts (i == i') _ q.1 in
    ap (λ x. Vote x c i u) (eqb-true _ _ p.0) ∙ ap (λ x. Vote t' x i u) (eqb-true _ _ q.0)
    ∙ ap (λ x. Vote t' c' x u) (eqb-true _ _ r.0) ∙ ap (λ x. Vote t' c' i' x) (eqb-true _ _ r.1)
request_from (Append t i u c es) (Append t' i' u' c' es') h =
    let p = and_parts (t == t') _ h in
    let q = and_parts (i == i') _ p.1 in
    let r = and_parts (u == u') _ q.1 in
    let s = and_parts (c == c') _ r.1 in
    ap (λ x. Append x i u c es) (eqb-true _ _ p.0) ∙ ap (λ x. Append t' x u c es) (eqb-true _ _ q.0)
    ∙ ap (λ x. Append t' i' x c es) (eqb-true _ _ r.0) ∙ ap (λ x. Append t' i' u' x es) (eqb-true _ _ s.0)
    ∙ ap (λ x. Append t' i' u' c' x) ((logs_decide es es').0 s.1)
request_from (Compact i) (Compact i') h = ap Compact (eqb-true i i' h)
request_from (Install t i u) (Install t' i' u') h =
    let p = and_parts (t == t') _ h in
    let q = and_parts (i == i') _ p.1 in
    ap (λ x. Install x i u) (eqb-true _ _ p.0) ∙ ap (λ x. Install t' x u) (eqb-true _ _ q.0)
    ∙ ap (λ x. Install t' i' x) (eqb-true _ _ q.1)
request_from (Read i j) (Read i' j') h =
    let p = and_parts (i == i') _ h in
    ap (λ x. Read x j) (eqb-true _ _ p.0) ∙ ap (λ x. Read i' x) (eqb-true _ _ p.1)
request_from Status Status h = refl
request_from Retire Retire h = refl
request_from a b h = absurd (false≢true h)

request_itself : (a : Request) → same_request a a ≡ true
request_itself (Vote t c i u) =
    both_true (eq-eqb t t refl) (both_true (eq-eqb c c refl) (both_true (eq-eqb i i refl) (eq-eqb u u refl)))
request_itself (Append t i u c es) =
    both_true (eq-eqb t t refl)
    (both_true (eq-eqb i i refl)
    (both_true (eq-eqb u u refl)
    (both_true (eq-eqb c c refl) ((logs_decide es es).1 refl))))
request_itself (Compact i) = eq-eqb i i refl
request_itself (Install t i u) = both_true (eq-eqb t t refl) (both_true (eq-eqb i i refl) (eq-eqb u u refl))
request_itself (Read i j) = both_true (eq-eqb i i refl) (eq-eqb j j refl)
request_itself Status = refl
request_itself Retire = refl

abbrev same_pair : ℕ × Request → ℕ × Request → Bool
same_pair a b = (a.0 == b.0) && same_request a.1 b.1

pair_from : (a b : ℕ × Request) → same_pair a b ≡ true → a ≡ b
pair_from a b h =
    let p = and_parts (a.0 == b.0) _ h in
    ap (λ x. (x, a.1)) (eqb-true _ _ p.0) ∙ ap (λ x. (b.0, x)) (request_from a.1 b.1 p.1)

pair_itself : (a : ℕ × Request) → same_pair a a ≡ true
pair_itself a = both_true (eq-eqb a.0 a.0 refl) (request_itself a.1)

-- `==` on requests with their groups tells whether they are the same
pub decides_pair : (a b : ℕ × Request) → Decides (same_pair a b) (a ≡ b)
decides_pair a b = (pair_from a b, λ e. subst (λ (x : ℕ × Request). same_pair a x ≡ true) e (pair_itself a))
