use Rattle.std.proofs.Common.{refl}
use Rattle.raft_voter_world.proofs.Moving.{crash_step}
use Rattle.raft_voter_world.proofs.world.World.crash.Goals as goal

pub returns : goal.returns
returns g c = crash_step _ _ _ c.args.place c.args.left c.args.self _ c.in_ok-files.files c.in_ok-files.ensures refl refl refl
