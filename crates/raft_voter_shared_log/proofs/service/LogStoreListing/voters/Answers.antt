use Rattle.std.proofs.Common.{ap, refl}
use Rattle.raft_voter_outline.specs.Kept.{outlines_in}
use Rattle.raft_voter_shared_log.proofs.ListedVoters.{read_serves}
use Rattle.raft_voter_shared_log.proofs.service.LogStoreListing.voters.Goals as goal

pub returns-in-Ok-clause-keeps : goal.returns-in-Ok-clause-keeps
returns-in-Ok-clause-keeps g c =
    read_serves _ _ _ c.args.self.now (record c.args.self.now { store = c.voters.new.self }) refl c.voters.ensures.stays (ap outlines_in c.voters.ensures.outlines)

pub returns-in-Err-clause-keeps : goal.returns-in-Err-clause-keeps
returns-in-Err-clause-keeps g c =
    read_serves _ _ _ c.args.self.now (record c.args.self.now { store = c.voters.new.self }) refl c.voters.ensures.stays (ap outlines_in c.voters.ensures.outlines)
