use Rattle.std.proofs.Common.{◌≡◌, ap, false, is_some, nat_cmp, refl, rules, subst, sym, ◌∙◌}
use Rattle.std.specs.BTreeMap.{get_by}
use Rattle.std.specs.Cmp.Lexicographic.{slice_cmp}
use Rattle.raft_log_memtable_index.specs.Keys.{keys_of, with_room}
use Rattle.raft_log_memtable_index.proofs.ByteKeys.{room_kept, room_keys}
use Rattle.raft_log_memtable_index.proofs.Sparing.{skips_room}
use Rattle.raft_log_memtable_index.proofs.key_map.KeyMap.make_room.Goals as goal

pub returns-then-contains_key-clause-ok : goal.returns-then-contains_key-clause-ok
returns-then-contains_key-clause-ok c =
    room_kept (λ k. k.items) c.args.key.now c.self.inside.slots c.self.inside.slots c.args.self.now c.self.view_is (sym c.contains_key.ensures ∙ c.if-contains_key.true)

pub returns-clause-ok : goal.returns-clause-ok
returns-clause-ok c =
    let same : c.in_ok-to_vec.field-0.items ≡ c.args.key.now = search rules in
    room_keys (λ k. k.items) c.in_ok-to_vec.field-0.items c.self.inside.slots c.insert.new.self c.args.self.now c.self.view_is _ c.in_ok-insert.ensures.updates
    (subst (λ bs. is_some (get_by (λ k. slice_cmp nat_cmp bs k.items) c.self.inside.slots) ≡ false) (sym same) (sym c.contains_key.ensures ∙ c.if-contains_key.false)) refl
    ∙ ap (with_room (keys_of c.args.self.now)) same

pub invariant_of-self-2 : goal.invariant_of-self-2
invariant_of-self-2 c =
    let same : c.in_ok-to_vec.field-0.items ≡ c.args.key.now = search rules in
    skips_room c.self.inside.valued c.self.inside.spare _ c.args.self.now c.self.view_is c.self.invariant _ c.in_ok-to_vec.field-0.items
    (room_keys (λ k. k.items) c.in_ok-to_vec.field-0.items c.self.inside.slots c.insert.new.self c.args.self.now c.self.view_is _ c.in_ok-insert.ensures.updates
    (subst (λ bs. is_some (get_by (λ k. slice_cmp nat_cmp bs k.items) c.self.inside.slots) ≡ false) (sym same) (sym c.contains_key.ensures ∙ c.if-contains_key.false)) refl)
