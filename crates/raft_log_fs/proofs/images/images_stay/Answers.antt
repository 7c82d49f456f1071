use Rattle.raft_log_fs.proofs.ImageLaws.{images_stay}
use Rattle.raft_log_fs.proofs.images.images_stay.Goals as goal

pub returns : goal.returns
returns c = images_stay
