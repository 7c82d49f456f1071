use Rattle.std.proofs.Common.{refl, ◌∙◌}
use Rattle.raft_log_memtable_index.specs.Bridge.{table_of}
use Rattle.raft_log_memtable_index.proofs.Meant.{same_bytes}
use Rattle.raft_log_memtable_index.proofs.laws.table_is_meant_elsewhere.Goals as goal

pub returns : goal.returns
returns g c = λ at other v m same meant s. same_bytes at other (table_of v) (table_of v) refl same (λ k. refl) s ∙ meant s
