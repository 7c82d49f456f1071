use Rattle.raft_log_world.proofs.Asked.{synced_batches_are_kept}
use Rattle.raft_log_world.proofs.questions.synced_batches_are_kept.Goals as goal

pub returns : goal.returns
returns g c = synced_batches_are_kept _ _
