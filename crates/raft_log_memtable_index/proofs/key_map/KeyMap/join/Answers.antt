use Rattle.std.proofs.Common.{◌≡◌, ap, refl, subst, sym, true, ◌∙◌}
use Rattle.std.specs.Cmp.Lexicographic.{slice_cmp}
use Rattle.std.specs.Ordering.{nat_cmp}
use Rattle.std.proofs.lemmas.Map.Keys.{IsDistinct-from_sorted}
use Rattle.std.specs.BTreeMap.{keys}
use Rattle.raft_log_memtable_index.specs.Keys.{KeysHaveRoom, joined_keys, keys_of, with_slot, with_slots}
use Rattle.raft_log_memtable_index.proofs.ByteKeys.{by_bytes}
use Rattle.raft_log_memtable_index.proofs.JoinedKeys.{all_room, once_each, room_stays, slots_join}
use Rattle.raft_log_memtable_index.proofs.key_map.KeyMap.join.Goals as goal

pub loop-key-init : goal.loop-key-init
loop-key-init c = (
  refl,
  all_room (keys_of c.args.self.now).has (by_bytes (λ k. k.items) c.into_iter-key-iterator.result)
      (subst (λ es. (k : _) → (keys_of es).has k ≡ true → (keys_of c.args.self.now).has k ≡ true)
      (sym (ap (by_bytes (λ k. k.items)) c.into_iter-key-iterator.ensures.into_iter_gives.0 ∙ c.later.view_is)) c.requires),
)

pub join_slot-requires : goal.join_slot-requires
join_slot-requires c =
    ap (λ k. (keys_of c.loop-key.self).has k) c.deref.ensures.value
    ∙ (subst (λ es. KeysHaveRoom (keys_of c.loop-key.self).has (by_bytes (λ k. k.items) es)) c.in-Some.ensures.steps c.loop-key.invariant.1).0

pub loop-key-preserved : goal.loop-key-preserved
loop-key-preserved c = (
  ap (λ ks. with_slots ks (by_bytes (λ k. k.items) c.next.new.self))
      (c.join_slot.ensures ∙ ap (λ k. with_slot (keys_of c.loop-key.self) k c.in-Some.slot) c.deref.ensures.value)
      ∙ ap (λ es. with_slots (keys_of c.loop-key.self) (by_bytes (λ k. k.items) es)) (sym c.in-Some.ensures.steps)
      ∙ c.loop-key.invariant.0,
  room_stays (keys_of c.loop-key.self) (keys_of c.join_slot.new.self) c.deref.result.now c.in-Some.slot (by_bytes (λ k. k.items) c.next.new.self) c.join_slot.ensures
      (subst (λ es. KeysHaveRoom (keys_of c.loop-key.self).has (by_bytes (λ k. k.items) es)) c.in-Some.ensures.steps c.loop-key.invariant.1).1,
)

pub returns : goal.returns
returns c =
    ap (λ es. with_slots (keys_of c.loop-key.self) (by_bytes (λ k. k.items) es)) (sym c.in-None.ensures.steps.0)
    ∙ c.loop-key.invariant.0
    ∙ ap (λ es. with_slots (keys_of c.args.self.now) (by_bytes (λ k. k.items) es)) c.into_iter-key-iterator.ensures.into_iter_gives.0
    ∙ slots_join (keys_of c.args.self.now) (by_bytes (λ k. k.items) c.later.inside.slots.entries)
    (once_each (λ k. k.items) c.later.inside.slots.entries
    (IsDistinct-from_sorted (λ x y. slice_cmp nat_cmp x.items y.items) (keys c.later.inside.slots) c.into_iter-key-iterator.ensures.into_iter_gives.5))
    ∙ ap (λ es. joined_keys (keys_of c.args.self.now) (keys_of es)) c.later.view_is
