use Rattle.raft_log_shared.proofs.Durable.{synced_writes_are_durable}
use Rattle.raft_log_shared.proofs.laws.synced_writes_are_durable.Goals as goal

pub returns : goal.returns
returns c = synced_writes_are_durable c.taken_in_turn.ensures c.batches_are_whole.ensures c.durable_contents_are_kept.ensures
