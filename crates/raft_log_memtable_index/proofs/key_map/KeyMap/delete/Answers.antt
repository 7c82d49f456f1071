use Rattle.std.proofs.Common.{ap, rules, subst, sym, ◌∙◌}
use Rattle.raft_log_memtable_index.specs.Keys.{keys_of, MaySkip}
use Rattle.raft_log_memtable_index.specs.contracts.key_map.KeyMap.{the_view}
use Rattle.raft_log_memtable_index.proofs.ByteKeys.{has_slot, delete_keys}
use Rattle.raft_log_memtable_index.proofs.Sparing.{skips_marked}
use Rattle.raft_log_memtable_index.proofs.key_map.KeyMap.delete.Goals as goal
use Rattle.raft_log_memtable_index.proofs.key_map.KeyMap.delete.Goals.{in-Some, in_default}

pub returns : goal.returns
returns c = elim c.match-get_mut.branch [
  | in-Some w ↦
      ap (λ i. keys_of (the_view i)) w.self-inside-is
      ∙ delete_keys (λ k. k.items) c.args.key.now c.self.inside.slots (c.get_mut.follows.lender w.delete.new.self) c.args.self.now c.self.view_is w.in-Some.slot.now w.delete.new.self
      ((c.get_mut.follows.holds w.delete.new.self).3 (search rules)) (sym w.in-Some.ensures.value) w.delete.ensures
  | in_default w ↦
      has_slot (λ k. k.items) c.args.key.now c.self.inside.slots c.self.inside.slots c.args.self.now c.self.view_is c.requires (sym w.in_default.ensures.value)
]

pub invariant_of-self : goal.invariant_of-self
invariant_of-self c = elim c.match-get_mut.branch [
  | in-Some w ↦
      subst (λ i. MaySkip i.valued i.spare (keys_of (the_view i))) (sym w.self-inside-is)
      (skips_marked c.self.inside.valued c.self.inside.spare _ c.args.self.now c.self.view_is c.self.invariant _ c.args.key.now c.requires
      (delete_keys (λ k. k.items) c.args.key.now c.self.inside.slots (c.get_mut.follows.lender w.delete.new.self) c.args.self.now c.self.view_is w.in-Some.slot.now w.delete.new.self
      ((c.get_mut.follows.holds w.delete.new.self).3 (search rules)) (sym w.in-Some.ensures.value) w.delete.ensures))
  | in_default w ↦
      has_slot (λ k. k.items) c.args.key.now c.self.inside.slots c.self.inside.slots c.args.self.now c.self.view_is c.requires (sym w.in_default.ensures.value)
]
