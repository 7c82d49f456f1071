use Rattle.raft_log_active_file.specs.QueueFilesLaws.{places_are_fresh}
use Rattle.raft_log_active_file.proofs.layout_laws.places_are_fresh.Goals as goal

pub returns : goal.returns
returns c = places_are_fresh
