use Rattle.std.proofs.Common.{sym, subst}
use Rattle.std.specs.Prelude.{Some}
use Rattle.raft_voter_world.specs.Storages.{PurgesIfOpen}
use Rattle.raft_voter_world.specs.declared.storage.Storage.TheVariants.{Open}
use Rattle.raft_voter_world.proofs.storage.Storage.purge.Goals as goal

pub returns-in-Err : goal.returns-in-Err
returns-in-Err g c =
    subst (λ x. PurgesIfOpen g.S.RoundService.service g.S.VoterStorage.upkeep g.F.VoterDisk.disk c.args.purge x (Open c.purge.new.self)) (sym c.in-Open.is)
    (Some c.in-Err.field-0, ((c.in-Err.ensures.refuses, c.in-Err.ensures.errors), c.purge.ensures.keeps))
