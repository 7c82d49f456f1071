use Rattle.raft_log_file_reader.proofs.Items.{calls_give_all_is}
use Rattle.raft_log_file_reader.proofs.item_laws.calls_give_all.Goals as goal

pub returns : goal.returns
returns g c = calls_give_all_is g.F.FileSystem.disk
