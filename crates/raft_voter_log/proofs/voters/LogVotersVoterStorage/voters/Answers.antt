use Rattle.std.proofs.Common.{ap, refl}
use Rattle.raft_voter_outline.specs.Kept.{outlines_in}
use Rattle.raft_voter_log.proofs.Standing.{read_stays, tells_voters}
use Rattle.raft_voter_log.proofs.voters.LogVotersVoterStorage.voters.Goals as goal

pub returns-in-Ok-clause-ok : goal.returns-in-Ok-clause-ok
returns-in-Ok-clause-ok g c = tells_voters _ _ _ c.args.self.now c.in-Ok.voters.items c.in-Ok.ensures.ok

pub returns-in-Ok-clause-stays : goal.returns-in-Ok-clause-stays
returns-in-Ok-clause-stays g c =
    read_stays _ _ _ c.args.self.now (record c.args.self.now { store = c.voters.new.self }) refl c.voters.ensures.stays (ap outlines_in c.voters.ensures.outlines)

pub returns-in-Err-clause-stays : goal.returns-in-Err-clause-stays
returns-in-Err-clause-stays g c =
    read_stays _ _ _ c.args.self.now (record c.args.self.now { store = c.voters.new.self }) refl c.voters.ensures.stays (ap outlines_in c.voters.ensures.outlines)
