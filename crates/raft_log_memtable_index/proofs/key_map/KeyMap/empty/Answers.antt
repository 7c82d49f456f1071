use Rattle.std.proofs.Common.{rules}
use Rattle.std.proofs.lemmas.Map.Made.{map_same_pairs}
use Rattle.raft_log_memtable_index.proofs.ByteKeys.{empty_keys, emptied_slot}
use Rattle.raft_log_memtable_index.proofs.Sparing.{skips_emptied}
use Rattle.raft_log_memtable_index.proofs.key_map.KeyMap.empty.Goals as goal

pub returns : goal.returns
returns c =
    empty_keys (λ k. k.items) c.self.inside.slots.entries c.retain.new.self.entries c.args.self.now c.self.view_is
    (map_same_pairs _ emptied_slot _ (λ k v b w f' t. search rules) c.self.inside.slots.entries c.retain.new.self.entries c.retain.ensures.filtered)

pub invariant_of-self : goal.invariant_of-self
invariant_of-self c =
    skips_emptied c.self.inside.valued c.self.inside.spare _ c.args.self.now c.self.view_is c.self.invariant _
    (empty_keys (λ k. k.items) c.self.inside.slots.entries c.retain.new.self.entries c.args.self.now c.self.view_is
    (map_same_pairs _ emptied_slot _ (λ k v b w f' t. search rules) c.self.inside.slots.entries c.retain.new.self.entries c.retain.ensures.filtered))
