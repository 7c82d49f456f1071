use Rattle.raft_voter_shared_log.proofs.Joining.{disks_go_on}
use Rattle.raft_voter_shared_log.proofs.laws.disks_go_on.Goals as goal

pub returns : goal.returns
returns g c = disks_go_on g.S.RoundService.service g.F.VoterDisk.disk
