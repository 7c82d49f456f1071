use Rattle.raft_log_fs.proofs.ImageLaws.{synced_is_only_image}
use Rattle.raft_log_fs.proofs.images.synced_files_have_one_image.Goals as goal

pub returns : goal.returns
returns c = synced_is_only_image
