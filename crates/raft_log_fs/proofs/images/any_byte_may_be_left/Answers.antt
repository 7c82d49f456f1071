use Rattle.raft_log_fs.proofs.ImageLaws.{any_byte_left}
use Rattle.raft_log_fs.proofs.images.any_byte_may_be_left.Goals as goal

pub returns : goal.returns
returns c = any_byte_left
