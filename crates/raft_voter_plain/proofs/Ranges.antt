-- Worlds of voters in range, and requests that leave them so.
use Rattle.std.proofs.Common.{◌≡◌, ℕ, ◌==◌, ◌∙◌, Bool, true, false, cond, refl, ap, arith}
use Rattle.std.proofs.Math.Path.{fun_ext}
use Rattle.std.proofs.lemmas.Bool.Decides.{nat_tests}
use Rattle.raft_voter_messages.specs.declared.request.Request.{Request}
use Rattle.raft_voter_messages.specs.declared.request.Request.TheVariants.{Vote, Append, Compact, Install, Read, Status, Retire}
use Rattle.raft_voter.specs.Rounds.{World, fresh_world, after_one, put}
use Rattle.raft_voter.specs.Rules.{next}
use Rattle.raft_voter_messages.specs.Ranges.{in_range}
use Rattle.raft_voter.specs.State.{State}
use Rattle.raft_voter.specs.InRange.{AllInRange, IsInRange}
use Rattle.raft_voter.proofs.Public.{by_test, range_is_kept}
use Rattle.raft_voter_plain.specs.Records.{may_change}

pub fresh_in_range : AllInRange fresh_world
fresh_in_range = λ group. range_is_kept.0

pub put_in_range : (W : World) (group : ℕ) (v : State) → AllInRange W → IsInRange v → AllInRange (put W group v)
put_in_range W group v all r = λ g. by_test IsInRange (g == group) v (W g) (λ _. r) (λ _. all g)

pub taken_in_range : (W : World) (q : ℕ × Request) → AllInRange W → AllInRange (after_one W q)
taken_in_range W q all =
    put_in_range W q.0 (next (W q.0) q.1) all (range_is_kept.1 (W q.0) q.1 (all q.0))

same_both : {X : Type 0} (b : Bool) (x : X) → cond b x x ≡ x
same_both true x = refl
same_both false x = refl

-- what may not change its voter doesn't
next_stays : (v : State) (q : Request) → may_change q ≡ false → next v q ≡ v
next_stays v (Vote term candidate index last) h = rw h refl
next_stays v (Append term prev prev_term commit sent) h = rw h refl
next_stays v (Compact index) h = rw h refl
next_stays v (Install term index entry_term) h = rw h refl
next_stays v (Read from to) h = same_both (in_range (Read from to)) v
next_stays v Status h = refl
next_stays v Retire h = cc

pub put_same : (W : World) (group : ℕ) (v : State) → v ≡ W group → put W group v ≡ W
put_same W group v e =
    fun_ext (λ g. by_test (λ w. w ≡ W g) (g == group) v (W g) (λ at. let same : group ≡ g = grind (arith, nat_tests) in e ∙ ap W same) (λ _. refl))

pub stays : (W : World) (q : ℕ × Request) → may_change q.1 ≡ false → after_one W q ≡ W
stays W q h = put_same W q.0 (next (W q.0) q.1) (next_stays (W q.0) q.1 h)

pub put_there : (W : World) (group : ℕ) (v : State) → put W group v group ≡ v
put_there W group v = by_test (λ w. w ≡ v) (group == group) v (W group) (λ _. refl) (λ out. absurd (grind (arith, nat_tests)))
