use Rattle.raft_voter_shared.proofs.Leading.{openings_go_on}
use Rattle.raft_voter_shared.proofs.laws.openings_go_on.Goals as goal

pub returns : goal.returns
returns g c = openings_go_on g.S.RoundService.service g.F.StoreFiles.files
