use Rattle.std.proofs.Common.{◌≡◌, ℕ, false, ap}
use Rattle.std.specs.BTreeSet.{contains}
use Rattle.std.specs.Ordering.{nat_cmp}
use Rattle.raft_voter.specs.Voters.{is_listed, world_of}
use Rattle.raft_voter_world.proofs.Marking.{all_marked}
use Rattle.raft_voter_world.proofs.places.differing_groups.Goals as goal

pub returns : goal.returns
returns c =
    let none : (g : ℕ) → contains nat_cmp c.new-differing.result g ≡ false = λ g. ap (λ ks. is_listed ks g) c.new-differing.ensures.empty in
    all_marked (world_of c.args.voters.now) (world_of c.args.shown.now) c.new-differing.result c.mark_all.new.differing c.mark_all-2.new.differing
    c.in_ok-here.here.items c.in_ok-there.there.items none c.in_ok-here.ensures c.in_ok-there.ensures
    (rw c.as_slice.ensures.value at c.in_ok-mark_all.ensures.marked) c.in_ok-mark_all.ensures.others (rw c.as_slice-2.ensures.value at c.in_ok-mark_all-2.ensures.marked) c.in_ok-mark_all-2.ensures.others
