use Rattle.raft_log_memtable_index.proofs.Covering.{joined_cover, merged_cover}
use Rattle.raft_log_memtable_index.proofs.replay_laws.joins_are_noted.Goals as goal

pub returns : goal.returns
returns c = record { joined = joined_cover; merged = merged_cover }
