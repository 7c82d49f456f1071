use Rattle.std.proofs.Common.{None, ap, map, subst, sym, ◌∙◌}
use Rattle.raft_log_memtable_index.specs.LeastFiles.{least_over, IsLeastValue}
use Rattle.raft_log_memtable_index.specs.Keys.{held_in, slot_at}
use Rattle.raft_log_memtable_index.proofs.ByteKeys.{same_slots}
use Rattle.raft_log_memtable_index.proofs.LeastValues.{least_is}
use Rattle.raft_log_memtable_index.proofs.Listing.{rises}
use Rattle.raft_log_memtable_index.proofs.key_map.KeyMap.least_file.Goals as goal

pub returns-clause-slots : goal.returns-clause-slots
returns-clause-slots c =
    ap (least_over c.args.appended c.loop-slot.least) (sym c.in-None.ensures.steps.0)
    ∙ c.loop-slot.invariant
    ∙ ap (least_over c.args.appended None)
    (c.into_iter-slot-iterator.ensures.into_iter_gives ∙ c.values-slot-items.ensures.rest ∙ sym (same_slots (λ k. k.items) c.self.inside.slots.entries)
    ∙ ap (map (λ e. e.1)) c.self.view_is)

pub returns-clause-exact : goal.returns-clause-exact
returns-clause-exact c =
    subst (IsLeastValue c.args.appended (λ k. held_in (slot_at c.args.self.now k)))
    (sym (returns-clause-slots c))
    (least_is c.args.appended c.args.self.now
    (rises (λ k. k.items) c.self.inside.slots.entries c.args.self.now c.self.view_is c.values-slot-items.ensures.ordered))
