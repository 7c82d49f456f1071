use Rattle.raft_log_memtable_index.proofs.Joining.{any_order, healthy_joint, joined_is, joined_thrice, same_content}
use Rattle.raft_log_memtable_index.proofs.replay_laws.joined_segments.Goals as goal

pub returns : goal.returns
returns c = record { joined = joined_is; border = joined_thrice; fits = healthy_joint; same = same_content; associative = any_order }
