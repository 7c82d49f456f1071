use Rattle.raft_voter_log.proofs.UsedFiles.{standing_files_only_lose}
use Rattle.raft_voter_log.proofs.reuse.standing_files_only_lose.Goals as goal

pub returns : goal.returns
returns c = standing_files_only_lose
