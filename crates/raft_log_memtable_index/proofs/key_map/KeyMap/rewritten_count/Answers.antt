use Rattle.std.proofs.Common.{◌≡◌, ◌+◌, Option, None, Some, is_some, option_map, refl, ap, map, sym, arith, ◌∙◌}
use Rattle.raft_log_memtable_index.specs.declared.key_map.HeldValue.{HeldValue}
use Rattle.raft_log_memtable_index.proofs.ByteKeys.{same_slots}
use Rattle.raft_log_memtable_index.proofs.Listing.{all_counted, asked_count, counted_one}
use Rattle.raft_log_memtable_index.proofs.key_map.KeyMap.rewritten_count.Goals as goal

pub returns : goal.returns
returns c =
    let (n, least, all) = c.loop-slot.invariant in
    all_counted (λ k. k.items) c.self.inside.slots.entries c.args.self.now c.self.view_is n c.loop-slot.count c.loop-slot.slot-iterator
    c.in-None.ensures.steps.0 least
    (all ∙ ap (asked_count None) (c.into_iter-slot-iterator.ensures.into_iter_gives ∙ c.values-slot-items.ensures.rest ∙ sym (same_slots (λ k. k.items) c.self.inside.slots.entries)
    ∙ ap (map (λ e. e.1)) c.self.view_is))
    c.values-slot-items.ensures.ordered

pub loop-slot-preserved-then-is_some : goal.loop-slot-preserved-then-is_some
loop-slot-preserved-then-is_some c =
    let (n, least, all) = c.loop-slot.invariant in (
      n + 1,
      omega (arith, least, c.saturating_add-count.ensures),
      counted_one (λ (h : HeldValue). h.bytes) None n _ c.in-Some.slot.now c.loop-slot.slot-iterator c.next.new.self _ c.in-Some.ensures.steps c.asked.ensures
          (mapped (λ x. x.now) c.asked.result ∙ sym c.is_some.ensures ∙ c.if-is_some.true) all,
    )
  where
    mapped : {X Y : Type 0} (f : X → Y) (o : Option X) → is_some (option_map f o) ≡ is_some o
    mapped f None = refl
    mapped f (Some x) = refl
