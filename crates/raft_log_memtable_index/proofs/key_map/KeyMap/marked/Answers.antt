use Rattle.raft_log_memtable_index.proofs.Listing.{all_marked}
use Rattle.raft_log_memtable_index.proofs.key_map.KeyMap.marked.Goals as goal

pub returns : goal.returns
returns c =
    all_marked (λ k. k.items) c.self.inside.slots.entries c.args.self.now c.self.view_is c.loop-key.keys.items c.loop-key.key-iterator
    c.in-None.ensures.steps.0 c.loop-key.invariant c.iter-key-items.ensures.ordered
