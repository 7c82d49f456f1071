use Rattle.std.proofs.Common.{◌≡◌, ℕ, inl, inr, refl, slice_index_or, subst, sym, arith}
use Rattle.std.proofs.lemmas.Bool.{cases_lt}
use Rattle.raft_voter.specs.Voters.{world_of}
use Rattle.raft_voter_world.specs.Differing.{Marks}
use Rattle.raft_voter_world.proofs.Marking.{leave_more, mark_more, of_listed}
use Rattle.raft_voter_world.proofs.places.mark_all.Goals as goal

pub loop-group-init : goal.loop-group-init
loop-group-init c = record { marked = λ k below. absurd (omega (arith, below)); others = λ g. inl refl }

pub loop-group-preserved : goal.loop-group-preserved
loop-group-preserved c =
    let W = world_of c.args.voters.now in
    let X = world_of c.args.shown.now in
    let i = c.loop-group.group-index in
    let gs = c.args.groups.now in
    let m = c.in_ok-mark.ensures.marked in
    let o = c.in_ok-mark.ensures.others in
    record {
      marked = λ k below. elim (cases_lt k i) [
        | inl earlier ↦ mark_more W X c.loop-group.differing c.mark.new.differing (slice_index_or gs i 0) (slice_index_or gs k 0) m o (c.loop-group.invariant.marked k earlier)
        | inr last ↦
            let is : k ≡ i = omega (arith, below, last) in
            subst (λ (j : ℕ). Marks W X c.mark.new.differing (slice_index_or gs j 0)) (sym is) m
      ];
      others = λ g. leave_more W X c.args.differing.now c.loop-group.differing c.mark.new.differing (slice_index_or gs i 0) g m o (c.loop-group.invariant.others g);
    }

pub returns-clause-marked : goal.returns-clause-marked
returns-clause-marked c = λ g listed.
    of_listed c.args.groups.now g (λ h. Marks (world_of c.args.voters.now) (world_of c.args.shown.now) c.loop-group.differing h)
    (λ k below. c.loop-group.invariant.marked k (omega (arith, below, c.loop-group-test.false))) listed

pub returns-clause-others : goal.returns-clause-others
returns-clause-others c = c.loop-group.invariant.others
