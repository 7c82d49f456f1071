use Rattle.std.proofs.Common.{ap, inr, is_some, refl, subst, sym, ◌∙◌}
use Rattle.raft_log_memtable_index.specs.Keys.{keys_of, slot_at, with_room}
use Rattle.raft_log_memtable_index.proofs.JoinedKeys.{RoomOrLeft, has_key, has_slot_key, none_left, one_room_more}
use Rattle.raft_log_memtable_index.proofs.key_map.KeyMap.make_room_for.Goals as goal

pub loop-key-init : goal.loop-key-init
loop-key-init c = (
  refl,
  refl,
  λ k is. inr (ap (λ ks. has_key (λ v. v.items) ks k) (c.into_iter-key-iterator.ensures.into_iter_gives ∙ c.keys-key-items.ensures.rest)
      ∙ sym (has_slot_key (λ v. v.items) c.later.inside.slots.entries k) ∙ ap (λ es. is_some (slot_at es k)) c.later.view_is ∙ is),
)

pub loop-key-preserved : goal.loop-key-preserved
loop-key-preserved c = (
  ap (λ ks. ks.values) c.in_ok-make_room.ensures.ok ∙ c.loop-key.invariant.0,
  ap (λ ks. ks.deleted) c.in_ok-make_room.ensures.ok ∙ c.loop-key.invariant.1,
  one_room_more (λ v. v.items) (keys_of c.args.later.now).has (keys_of c.loop-key.self).has (keys_of c.make_room.new.self).has c.in-Some.key.now c.next.new.self
      (ap (λ ks. ks.has) c.in_ok-make_room.ensures.ok ∙ ap (λ k. (with_room (keys_of c.loop-key.self) k).has) c.deref.ensures.value)
      (subst (RoomOrLeft (λ v. v.items) (keys_of c.args.later.now).has (keys_of c.loop-key.self).has) c.in-Some.ensures.steps c.loop-key.invariant.2),
)

pub returns-in_err-make_room-clause-values : goal.returns-in_err-make_room-clause-values
returns-in_err-make_room-clause-values c = ap (λ ks. ks.values) c.in_err-make_room.ensures.err ∙ c.loop-key.invariant.0

pub returns-in_err-make_room-clause-deleted : goal.returns-in_err-make_room-clause-deleted
returns-in_err-make_room-clause-deleted c = ap (λ ks. ks.deleted) c.in_err-make_room.ensures.err ∙ c.loop-key.invariant.1

pub returns-clause-values : goal.returns-clause-values
returns-clause-values c = c.loop-key.invariant.0

pub returns-clause-deleted : goal.returns-clause-deleted
returns-clause-deleted c = c.loop-key.invariant.1

pub returns-clause-room : goal.returns-clause-room
returns-clause-room c = none_left (λ v. v.items) (keys_of c.args.later.now).has (keys_of c.loop-key.self).has c.loop-key.key-iterator c.in-None.ensures.steps.0 c.loop-key.invariant.2
