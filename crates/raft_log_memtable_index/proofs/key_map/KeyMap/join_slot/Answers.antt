use Rattle.std.proofs.Common.{ap, ◌∙◌}
use Rattle.raft_log_memtable_index.specs.Keys.{keys_of}
use Rattle.raft_log_memtable_index.proofs.key_map.KeyMap.join_slot.Goals as goal
use Rattle.raft_log_memtable_index.proofs.key_map.KeyMap.join_slot.Goals.{then-slot, else-slot}

pub put-requires : goal.put-requires
put-requires c = elim c.if-slot.branch [
  | then-slot w ↦ ap (λ s. (keys_of s).has c.args.key.now) w.self-is ∙ ap (λ ks. ks.has c.args.key.now) w.delete.ensures ∙ c.requires
  | else-slot w ↦ ap (λ s. (keys_of s).has c.args.key.now) w.self-is ∙ c.requires
]
