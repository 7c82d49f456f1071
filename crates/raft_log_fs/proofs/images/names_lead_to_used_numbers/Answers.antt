use Rattle.raft_log_fs.proofs.ImageLaws.{named_is_used}
use Rattle.raft_log_fs.proofs.images.names_lead_to_used_numbers.Goals as goal

pub returns : goal.returns
returns c = named_is_used
