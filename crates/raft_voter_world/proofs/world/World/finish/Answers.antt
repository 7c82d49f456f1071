use Rattle.std.proofs.Common.{refl}
use Rattle.raft_voter_world.proofs.Turning.{ends}
use Rattle.raft_voter_world.proofs.world.World.finish.Goals as goal

pub returns : goal.returns
returns g c =
    ends _ _ _ c.args.self c.args.self.storage c.into_files.result c.in_ok-files.files c.settle.new.self c.into_report.result refl c.into_files.ensures c.in_ok-files.ensures c.in_ok-settle.ensures.settles c.settle.ensures.lost c.into_report.ensures
