use Rattle.raft_log_memtable_index.proofs.Listing.{all_asked}
use Rattle.raft_log_memtable_index.proofs.key_map.KeyMap.copy_values.Goals as goal

pub returns-clause-ok : goal.returns-clause-ok
returns-clause-ok c =
    all_asked (λ k. k.items) c.self.inside.slots.entries c.args.self.now c.self.view_is c.args.gate c.loop-key.pairs.items c.args.pairs.now.items c.loop-key.key-iterator
    c.in-None.ensures.steps.0 c.loop-key.invariant.1 c.iter-key-items.ensures.ordered
