use Rattle.raft_log_memtable_index.proofs.Noting.{appended_shrink, group_carries, rewritten_carry}
use Rattle.raft_log_memtable_index.proofs.laws.copies_are_noted.Goals as goal

pub returns : goal.returns
returns g c = record { append = appended_shrink; plain = rewritten_carry; group = group_carries }
