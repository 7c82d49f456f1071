use Rattle.std.proofs.Common.{refl}
use Rattle.raft_voter_world.proofs.Moving.{close_step, ok_weaker}
use Rattle.raft_voter_world.proofs.world.World.close.Goals as goal

pub returns : goal.returns
returns g c =
    ok_weaker c.fallen.result _ _ (λ new f. close_step _ _ _ c.args.place c.args.self _ new c.args.self.storage c.into_files-files.result refl c.into_files-files.ensures refl refl refl f) (c.fallen.ensures c.args.place)
