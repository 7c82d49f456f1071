use Rattle.std.proofs.Common.{ap, rules, subst, sym, ◌∙◌}
use Rattle.raft_log_memtable_index.specs.Keys.{keys_of, MaySkip}
use Rattle.raft_log_memtable_index.specs.contracts.key_map.KeyMap.{the_view}
use Rattle.raft_log_memtable_index.proofs.ByteKeys.{nothing_moves, rewrite_keys}
use Rattle.raft_log_memtable_index.proofs.Sparing.{skips_rewritten}
use Rattle.raft_log_memtable_index.proofs.key_map.KeyMap.rewrite.Goals as goal
use Rattle.raft_log_memtable_index.proofs.key_map.KeyMap.rewrite.Goals.{in-Some, in_default}

pub returns : goal.returns
returns c = elim c.match-get_mut.branch [
  | in-Some w ↦
      ap (λ i. keys_of (the_view i)) w.self-inside-is
      ∙ rewrite_keys (λ k. k.items) c.args.key.now c.self.inside.slots (c.get_mut.follows.lender w.rewrite.new.self) c.args.self.now c.self.view_is w.in-Some.slot.now w.rewrite.new.self
      c.args.file ((c.get_mut.follows.holds w.rewrite.new.self).3 (search rules)) (sym w.in-Some.ensures.value) w.rewrite.ensures
  | in_default w ↦
      ap (λ i. keys_of (the_view i)) (w.self-inside-is ∙ ap (λ slots. record c.self.inside { slots = slots }) c.get_mut.follows.holds-at-none)
      ∙ ap keys_of c.self.view_is
      ∙ nothing_moves (λ k. k.items) c.args.key.now c.self.inside.slots c.self.inside.slots c.args.self.now c.self.view_is c.args.file (sym w.in_default.ensures.value)
]

pub invariant_of-self : goal.invariant_of-self
invariant_of-self c = elim c.match-get_mut.branch [
  | in-Some w ↦
      subst (λ i. MaySkip i.valued i.spare (keys_of (the_view i))) (sym w.self-inside-is)
      (skips_rewritten c.self.inside.valued c.self.inside.spare _ c.args.self.now c.self.view_is c.self.invariant _ c.args.key.now c.args.file
      (rewrite_keys (λ k. k.items) c.args.key.now c.self.inside.slots (c.get_mut.follows.lender w.rewrite.new.self) c.args.self.now c.self.view_is w.in-Some.slot.now w.rewrite.new.self
      c.args.file ((c.get_mut.follows.holds w.rewrite.new.self).3 (search rules)) (sym w.in-Some.ensures.value) w.rewrite.ensures))
  | in_default w ↦
      subst (λ i. MaySkip i.valued i.spare (keys_of (the_view i)))
      (sym (w.self-inside-is ∙ ap (λ slots. record c.self.inside { slots = slots }) c.get_mut.follows.holds-at-none)) c.self.invariant
]
