use Rattle.raft_log_active_file.proofs.Bridging.{reads_as_numbered}
use Rattle.raft_log_active_file.proofs.numbered.images_read_as_numbered_files.Goals as goal

pub returns : goal.returns
returns g c = reads_as_numbered g.G.NumberedFormat.says g.G.NumberedFormat.format g.G.NumberedFormat.own
