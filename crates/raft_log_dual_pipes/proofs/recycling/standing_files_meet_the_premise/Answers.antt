use Rattle.raft_log_dual_pipes.proofs.LastFiles.{standing_files_meet_the_premise}
use Rattle.raft_log_dual_pipes.proofs.recycling.standing_files_meet_the_premise.Goals as goal

pub returns : goal.returns
returns c = standing_files_meet_the_premise
