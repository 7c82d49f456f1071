use Rattle.raft_voter_log.proofs.Forking.{own_directories_get_no_copy}
use Rattle.raft_voter_log.proofs.forks.own_directories_get_no_copy.Goals as goal

pub returns : goal.returns
returns c = own_directories_get_no_copy
