use Rattle.std.proofs.Common.{◌≡◌, ap, sym, ◌∙◌, None, Some, option_map}
use Rattle.std.proofs.Math.ListN.{set}
use Rattle.std.specs.BTreeMap.{get}
use Rattle.std.specs.Ordering.{nat_cmp}
use Rattle.raft_log_replay_context.specs.OpenGroups.{begun_at, begun_in, begun_of, number_at, without_begun}
use Rattle.raft_log_replay_context.proofs.Slots.{alone_where_known, found_at, nowhere_begun, nowhere_where_unknown, nowhere_without, number_within, placed_entries, placed_same, placed_taken, same_in_slots, taken_at}
use Rattle.raft_log_replay_context.proofs.open_groups.OpenGroups.take.Goals as goal

pub returns-in_default-clause-rest : goal.returns-in_default-clause-rest
returns-in_default-clause-rest c =
    let n = c.args.number in
    let ss = c.self.inside.slots.items in
    let none : get nat_cmp c.self.inside.places n ≡ None = sym c.in_default.ensures.value in
    sym (nowhere_without n ss (nowhere_where_unknown ss c.self.inside.places n c.self.invariant none)) ∙ ap (without_begun n) c.self.view_is

pub returns-in_default-clause-group : goal.returns-in_default-clause-group
returns-in_default-clause-group c =
    let n = c.args.number in
    let ss = c.self.inside.slots.items in
    let none : get nat_cmp c.self.inside.places n ≡ None = sym c.in_default.ensures.value in
    sym (nowhere_begun n ss (nowhere_where_unknown ss c.self.inside.places n c.self.invariant none)) ∙ ap (begun_at n) c.self.view_is

pub invariant_of-self : goal.invariant_of-self
invariant_of-self c = placed_entries c.self.inside.slots.items c.self.inside.places c.remove.new.self c.in_default.ensures.unchanged c.self.invariant

pub take_from-group-requires : goal.take_from-group-requires
take_from-group-requires c =
    number_within c.self.inside.slots.items c.in-Some.place c.args.number (c.self.invariant.0 c.args.number c.in-Some.place (sym c.in-Some.ensures.value))

pub invariant_of-self-2 : goal.invariant_of-self-2
invariant_of-self-2 c =
    let n = c.args.number in
    let i = c.in-Some.place in
    let ss = c.self.inside.slots.items in
    let known : get nat_cmp c.self.inside.places n ≡ Some i = sym c.in-Some.ensures.value in
    let left = c.take_from-group.new.slots.items in
    placed_same (set ss i None) c.drop_vacant_end.new.slots.items c.remove.new.self
    (placed_taken ss c.self.inside.places c.remove.new.self n i c.self.invariant known c.in-Some.ensures.updates.1 c.in-Some.ensures.updates.2)
    (λ j. same_in_slots left c.drop_vacant_end.new.slots.items c.drop_vacant_end.ensures.1 j ∙ ap (λ l. number_at l j) c.take_from-group.ensures.items)

pub returns-clause-rest : goal.returns-clause-rest
returns-clause-rest c =
    let n = c.args.number in
    let i = c.in-Some.place in
    let ss = c.self.inside.slots.items in
    let known : get nat_cmp c.self.inside.places n ≡ Some i = sym c.in-Some.ensures.value in
    c.drop_vacant_end.ensures.0 ∙ ap begun_in c.take_from-group.ensures.items
    ∙ taken_at n i ss (c.self.invariant.0 n i known) (alone_where_known ss c.self.inside.places n i c.self.invariant known) ∙ ap (without_begun n) c.self.view_is

pub returns-clause-group : goal.returns-clause-group
returns-clause-group c =
    let n = c.args.number in
    let i = c.in-Some.place in
    let ss = c.self.inside.slots.items in
    let known : get nat_cmp c.self.inside.places n ≡ Some i = sym c.in-Some.ensures.value in
    ap (option_map begun_of) c.take_from-group.ensures.group
    ∙ found_at n i ss (c.self.invariant.0 n i known) (alone_where_known ss c.self.inside.places n i c.self.invariant known) ∙ ap (begun_at n) c.self.view_is
