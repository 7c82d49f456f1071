use Rattle.std.proofs.Common.{◌≡◌, ap, sym, subst, ◌∙◌, ◌++◌, ◌∷◌, [], length, None, Some, rules}
use Rattle.std.specs.BTreeMap.{get}
use Rattle.std.specs.Ordering.{nat_cmp}
use Rattle.raft_log_replay_context.specs.OpenGroups.{begun_at, begun_in, begun_of, ArePlaced}
use Rattle.raft_log_replay_context.proofs.Slots.{begun_none, begun_push, gone_at, placed_entries, placed_pushed, unknown_where_nowhere}
use Rattle.raft_log_replay_context.proofs.open_groups.OpenGroups.push.Goals as goal

pub invariant_of-self : goal.invariant_of-self
invariant_of-self c = subst (λ l. ArePlaced l c.self.inside.places) (sym c.reserve.ensures.items) c.self.invariant

pub invariant_of-self-in_err-insert : goal.invariant_of-self-in_err-insert
invariant_of-self-in_err-insert c =
    placed_entries c.reserve.new.self.items c.self.inside.places c.insert.new.self c.in_err-insert.ensures.err
    (subst (λ l. ArePlaced l c.self.inside.places) (sym c.reserve.ensures.items) c.self.invariant)

pub invariant_of-self-2 : goal.invariant_of-self-2
invariant_of-self-2 c =
    let group = c.args.group in
    let n = group.number in
    let ss = c.self.inside.slots.items in
    let m = c.self.inside.places in
    let is : c.len-place.result ≡ length ss = search rules in
    let gone : begun_at n (begun_in ss) ≡ None = ap (begun_at n) (c.self.view_is ∙ c.take.ensures.rest) ∙ gone_at n c.args.self.now in
    let none : get nat_cmp m n ≡ None = unknown_where_nowhere ss m n c.self.invariant (begun_none n ss gone) in
    let up = c.in_ok-insert.ensures.updates in
    subst (λ l. ArePlaced l c.insert.new.self) (sym (c.push_reserved.ensures.items ∙ ap (λ l. l ++ Some group ∷ []) c.reserve.ensures.items))
    (placed_pushed ss m c.insert.new.self group c.self.invariant none (up.1 ∙ ap Some is) up.2)

pub returns : goal.returns
returns c =
    let group = c.args.group in
    let ss = c.self.inside.slots.items in
    ap begun_in (c.push_reserved.ensures.items ∙ ap (λ l. l ++ Some group ∷ []) c.reserve.ensures.items)
    ∙ begun_push ss group ∙ ap (λ l. l ++ begun_of group ∷ []) (c.self.view_is ∙ c.take.ensures.rest)
