use Rattle.std.proofs.Common.{◌≡◌, ◌∷◌, rules}
use Rattle.raft_voter_world.proofs.Turning.{all_played, begins, goes_on, ready_on}
use Rattle.raft_voter_world.proofs.world.World.play.Goals as goal

pub loop-event-init : goal.loop-event-init
loop-event-init g c = begins _ _ _ c.args.events.items c.args.self

pub step-requires : goal.step-requires
step-requires g c = (search rules, ready_on _ _ _ _ _ _ _ _ c.requires c.loop-event.invariant)

pub loop-event-preserved : goal.loop-event-preserved
loop-event-preserved g c =
    let next : c.loop-event.events.items ≡ c.in-Some.event ∷ c.pop_front.new.self.items = search rules in
    goes_on _ _ _ _ _ _ _ _ _ _ c.in-Some.event c.loop-event.invariant next c.in_ok-world.ensures

pub returns : goal.returns
returns g c = all_played _ _ _ _ _ _ _ _ c.loop-event.invariant (search rules)
