use Rattle.raft_voter_log.proofs.UsedFiles.{rotated_files_only_lose}
use Rattle.raft_voter_log.proofs.reuse.rotated_files_only_lose.Goals as goal

pub returns : goal.returns
returns c = rotated_files_only_lose
