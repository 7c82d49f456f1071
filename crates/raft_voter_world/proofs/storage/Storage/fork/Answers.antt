use Rattle.std.proofs.Common.{sym, subst}
use Rattle.std.specs.Prelude.{Some}
use Rattle.raft_voter_world.specs.Storages.{CopiesIfClosed}
use Rattle.raft_voter_world.specs.declared.storage.Storage.TheVariants.{Closed}
use Rattle.raft_voter_world.proofs.storage.Storage.fork.Goals as goal

pub returns-in-Err : goal.returns-in-Err
returns-in-Err g c =
    subst (λ x. CopiesIfClosed g.S.RoundService.service g.S.VoterStorage.upkeep g.F.VoterDisk.disk c.args.target.now x (Closed c.fork.new.self)) (sym c.in-Closed.is)
    (Some c.in-Err.field-0, (c.in-Err.ensures.refuses, c.fork.ensures.stands))
