use Rattle.raft_voter_log.proofs.Losses.{zeros_begin_no_record}
use Rattle.raft_voter_log.proofs.chance.zeros_begin_no_record.Goals as goal

pub returns : goal.returns
returns c = zeros_begin_no_record
