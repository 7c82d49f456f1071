use Rattle.raft_log_fs.proofs.ImageLaws.{image_is_sound}
use Rattle.raft_log_fs.proofs.images.image_of_a_sound_disk_is_sound.Goals as goal

pub returns : goal.returns
returns c = image_is_sound
