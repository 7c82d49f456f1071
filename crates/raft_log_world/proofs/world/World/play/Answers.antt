use Rattle.std.proofs.Common.{◌≡◌, ◌∷◌, rules, subst, sym}
use Rattle.raft_log_world.specs.Steps.{HasPlayed}
use Rattle.raft_log_world.proofs.Playing.{none_played, one_more}
use Rattle.raft_log_world.proofs.world.World.play.Goals as goal

pub loop-event-init : goal.loop-event-init
loop-event-init g c new played = played

pub loop-event-preserved : goal.loop-event-preserved
loop-event-preserved g c new played =
    let l = g.F.LogFiles.log in
    let next : c.loop-event.events.items ≡ c.in-Some.event ∷ c.pop_front.new.self.items = search rules in
    c.loop-event.invariant new (subst (λ events. HasPlayed l c.loop-event.world events new) (sym next) (one_more l c.loop-event.world _ new c.in-Some.event _ c.in_ok-world.ensures played))

pub returns : goal.returns
returns g c =
    let l = g.F.LogFiles.log in
    let world = c.loop-event.world in
    c.loop-event.invariant world (subst (λ events. HasPlayed l world events world) (sym (search rules)) (none_played l world))
