use Rattle.std.proofs.Common.{refl}
use Rattle.raft_voter_world.proofs.Moving.{fork_step, ok_weaker}
use Rattle.raft_voter_world.proofs.world.World.fork.Goals as goal

pub returns : goal.returns
returns g c =
    ok_weaker c.fallen.result _ _ (λ new f. fork_step _ _ _ c.args.place c.args.target c.args.self _ new c.args.self.storage refl (rw c.as_str.ensures.value at c.fork.ensures) refl refl f) (c.fallen.ensures c.args.place)
