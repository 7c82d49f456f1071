use Rattle.raft_shared_examples.proofs.Closed.{lives_shared, rounds_left}
use Rattle.raft_shared_examples.proofs.lives.live.Goals as goal

pub returns-clause-ok : goal.returns-clause-ok
returns-clause-ok g c =
    let sound = (g.met.F.FileSystem g.world.𝓛 g.world.𝓜 g.world.𝓡 ((λ s x. x), (λ x. x), (λ x. x), λ x. x)).sound in
    lives_shared g.F.FileSystem.disk g.F.FileSystem.tells_space _ c.args.config c.args.files c.in-Ok.store c.in_ok-settled.settled.store c.in_ok-settled.settled.journal.items c.close.result
    c.in-Ok.ensures.config c.in-Ok.ensures.ok c.in_ok-settled.ensures.settled (sound _) c.close.ensures.closes c.close.ensures.config c.close.ensures.journal

pub returns-clause-served : goal.returns-clause-served
returns-clause-served g c =
    rounds_left c.in_ok-settled.settled.journal.items c.args.one.now c.args.other.now c.in_ok-settled.settled.first c.in_ok-settled.settled.second c.close.result
    c.in_ok-settled.ensures.served c.close.ensures.journal c.close.ensures.places
