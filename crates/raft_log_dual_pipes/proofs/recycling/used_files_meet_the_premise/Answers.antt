use Rattle.raft_log_dual_pipes.proofs.Rotations.{used_files_meet_the_premise}
use Rattle.raft_log_dual_pipes.proofs.recycling.used_files_meet_the_premise.Goals as goal

pub returns : goal.returns
returns c = used_files_meet_the_premise
