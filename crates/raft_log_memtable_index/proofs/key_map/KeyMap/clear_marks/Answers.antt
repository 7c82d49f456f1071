use Rattle.std.proofs.Common.{rules}
use Rattle.raft_log_memtable_index.proofs.Listing.{rises}
use Rattle.raft_log_memtable_index.proofs.Settling.{settle_keys}
use Rattle.raft_log_memtable_index.proofs.Sparing.{skips_settled}
use Rattle.raft_log_memtable_index.proofs.key_map.KeyMap.clear_marks.Goals as goal

pub returns : goal.returns
returns c =
    settle_keys _ (λ k. k.items) (λ f k s b w g t. search rules) _ c.self.inside.slots.entries c.retain.new.self.entries c.args.self.now c.self.view_is
    (rises (λ k. k.items) c.self.inside.slots.entries c.args.self.now c.self.view_is c.retain.ensures.was_ordered)
    c.retain.ensures.filtered

pub invariant_of-self : goal.invariant_of-self
invariant_of-self c =
    skips_settled c.self.inside.valued c.self.inside.spare _ c.args.self.now c.self.view_is c.self.invariant _
    (settle_keys _ (λ k. k.items) (λ f k s b w g t. search rules) _ c.self.inside.slots.entries c.retain.new.self.entries c.args.self.now c.self.view_is
    (rises (λ k. k.items) c.self.inside.slots.entries c.args.self.now c.self.view_is c.retain.ensures.was_ordered)
    c.retain.ensures.filtered)
