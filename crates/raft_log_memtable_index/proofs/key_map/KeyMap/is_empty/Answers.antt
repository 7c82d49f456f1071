use Rattle.raft_log_memtable_index.proofs.Settling.{empty_keys_known}
use Rattle.raft_log_memtable_index.proofs.key_map.KeyMap.is_empty.Goals as goal

pub returns : goal.returns
returns c = empty_keys_known (λ k. k.items) c.self.inside.slots.entries c.args.self.now c.is_empty.result c.self.view_is c.is_empty.ensures
