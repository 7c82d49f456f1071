use Rattle.raft_log_fs.proofs.ImageLaws.{synced_file_has_one_image}
use Rattle.raft_log_fs.proofs.images.synced_file_has_one_image.Goals as goal

pub returns : goal.returns
returns c = synced_file_has_one_image
