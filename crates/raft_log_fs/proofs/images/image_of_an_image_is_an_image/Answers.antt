use Rattle.raft_log_fs.proofs.ImageLaws.{image_of_image}
use Rattle.raft_log_fs.proofs.images.image_of_an_image_is_an_image.Goals as goal

pub returns : goal.returns
returns c = image_of_image
