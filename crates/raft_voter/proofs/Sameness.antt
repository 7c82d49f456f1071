-- Voters are the same where their states and logs are.
use Rattle.std.proofs.Common.{◌≡◌, ℕ, ◌+◌, ◌==◌, ◌&&◌, eqb, true, false, List, length, Option, None, Some, is_some, unwrap_or, ap, refl, sym, subst, ◌∙◌}
use Rattle.std.specs.Bool.{Decides}
use Rattle.std.specs.BTreeMap.{BTreeMap, get, is_at}
use Rattle.std.specs.Cmp.Derive.{both_true}
use Rattle.std.specs.Cmp.Lexicographic.{pointwise, pointwise_decides, bytes_decides}
use Rattle.std.specs.List.{list_any}
use Rattle.std.specs.Map.{keys_of, lookup}
use Rattle.std.specs.Ordering.{nat_cmp}
use Rattle.std.proofs.lemmas.Bool.{and_parts, eqb-true, eq-eqb, false≢true}
use Rattle.std.proofs.lemmas.Map.Made.{is_some-lookup}
use Rattle.raft_voter_messages.specs.declared.reply.VoterState.{VoterState}
use Rattle.raft_voter_outline.specs.State.{State, state_of}

pair_from : (a b : ℕ × List ℕ) → ((a.0 == b.0) && pointwise eqb a.1 b.1) ≡ true → a ≡ b
pair_from a b h =
    let p = and_parts (a.0 == b.0) _ h in
    let left : a.0 ≡ b.0 = eqb-true _ _ p.0 in
    let right : a.1 ≡ b.1 = (bytes_decides a.1 b.1).0 p.1 in
    ap (λ x. (x, a.1)) left ∙ ap (λ x. (b.0, x)) right

pair_itself : (a : ℕ × List ℕ) → ((a.0 == a.0) && pointwise eqb a.1 a.1) ≡ true
pair_itself a = both_true (eq-eqb a.0 a.0 refl) ((bytes_decides a.1 a.1).1 refl)

pair_decides : (a b : ℕ × List ℕ) → Decides ((a.0 == b.0) && pointwise eqb a.1 b.1) (a ≡ b)
pair_decides a b = (pair_from a b, λ e. subst (λ (x : ℕ × List ℕ). ((a.0 == x.0) && pointwise eqb a.1 x.1) ≡ true) e (pair_itself a))

-- `==` on logs tells whether they are the same
pub logs_decide : (a b : List (ℕ × List ℕ)) → Decides (pointwise (λ x y. (x.0 == y.0) && pointwise eqb x.1 y.1) a b) (a ≡ b)
logs_decide a b = pointwise_decides pair_decides a b

abbrev voter_made : ℕ → Option ℕ → ℕ → ℕ → ℕ → List (ℕ × List ℕ) → State
voter_made t v b u c l = record { term = t; vote = v; base_index = b; base_term = u; commit = c; log = l }

pub voter_built : (a b : State) → state_of a ≡ state_of b → a.log ≡ b.log → a ≡ b
voter_built a b s l =
    ap (λ (x : VoterState). voter_made x.term x.vote x.base_index x.base_term x.commit a.log) s
    ∙ ap (λ x. voter_made b.term b.vote b.base_index b.base_term b.commit x) l

-- a group without an entry has a blank voter
none_found : {X : Type 0} (o : Option X) (blank : X) → is_some o ≡ false → unwrap_or o blank ≡ blank
none_found None blank e = refl
none_found (Some x) blank e = absurd (false≢true (sym e))

pub unlisted : (es : List (ℕ × State)) (gs : List ℕ) (g : ℕ) (blank : State) → gs ≡ keys_of es → list_any (is_at (nat_cmp g)) gs ≡ false → unwrap_or (lookup (is_at (nat_cmp g)) es) blank ≡ blank
unlisted es gs g blank all out =
    none_found (lookup (is_at (nat_cmp g)) es) blank (is_some-lookup (is_at (nat_cmp g)) es ∙ ap (list_any (is_at (nat_cmp g))) (sym all) ∙ out)
