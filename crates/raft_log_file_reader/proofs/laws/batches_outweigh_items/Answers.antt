use Rattle.raft_log_file_reader.proofs.Weights.{batches_outweigh_items_is}
use Rattle.raft_log_file_reader.proofs.laws.batches_outweigh_items.Goals as goal

pub returns : goal.returns
returns c = batches_outweigh_items_is
