use Rattle.raft_log_fs.proofs.ImageLaws.{absent_holds_no_name}
use Rattle.raft_log_fs.proofs.images.absent_directories_hold_no_name.Goals as goal

pub returns : goal.returns
returns c = absent_holds_no_name
