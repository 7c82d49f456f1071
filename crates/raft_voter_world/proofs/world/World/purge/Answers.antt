use Rattle.std.proofs.Common.{refl}
use Rattle.raft_voter_world.proofs.Moving.{ok_weaker, purge_step}
use Rattle.raft_voter_world.proofs.world.World.purge.Goals as goal

pub returns : goal.returns
returns g c =
    ok_weaker c.fallen.result _ _ (λ new f. purge_step _ _ _ c.args.place c.args.purge c.args.self _ new c.args.self.storage refl c.purge.ensures refl refl f) (c.fallen.ensures c.args.place)
