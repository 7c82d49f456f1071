use Rattle.raft_voter_shared_log.proofs.Joining.{joined_openings_are_explained}
use Rattle.raft_voter_shared_log.proofs.laws.joined_openings_are_explained.Goals as goal

pub returns : goal.returns
returns g c = joined_openings_are_explained g.S.RoundService.service
