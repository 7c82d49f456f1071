use Rattle.std.proofs.Common.{◌≡◌, ap, refl, sym, ◌∙◌, None, Some, option_map}
use Rattle.std.specs.BTreeMap.{get}
use Rattle.std.specs.Ordering.{nat_cmp}
use Rattle.raft_log_replay_context.specs.declared.open_groups.OpenGroup.{OpenGroup}
use Rattle.raft_log_replay_context.specs.OpenGroups.{begun_at, begun_in, begun_of, number_at, with_part}
use Rattle.raft_log_replay_context.proofs.Slots.{alone_where_known, found_at, grown_at, nowhere_begun, nowhere_where_unknown, some_same}
use Rattle.raft_log_replay_context.proofs.open_groups.OpenGroups.go_on.Goals as goal

pub returns-in_default : goal.returns-in_default
returns-in_default c =
    let n = c.args.number in
    let ss = c.self.inside.slots.items in
    let none : get nat_cmp c.self.inside.places n ≡ None = sym c.in_default.ensures.value in
    (ap (begun_at n) (sym c.self.view_is) ∙ nowhere_begun n ss (nowhere_where_unknown ss c.self.inside.places n c.self.invariant none), refl, refl)

pub add_part-requires : goal.add_part-requires
add_part-requires c = (c.args.number, c.self.invariant.0 c.args.number c.in-Some.place.now (sym c.in-Some.ensures.value))

pub returns : goal.returns
returns c =
    let n = c.args.number in
    let i = c.in-Some.place.now in
    let ss = c.self.inside.slots.items in
    let known : get nat_cmp c.self.inside.places n ≡ Some i = sym c.in-Some.ensures.value in
    let alone = alone_where_known ss c.self.inside.places n i c.self.invariant known in
    let at : number_at ss i ≡ Some n = c.self.invariant.0 n i known in
    let more = c.in_ok-add_part.ensures.ok in
    let number : more.before.number ≡ n = some_same more.before.number n (sym (ap (option_map (λ (u : OpenGroup). u.number)) more.stood) ∙ at) in (
      (begun_of more.before, ap (begun_at n) (sym c.self.view_is) ∙ sym (found_at n i ss at alone) ∙ ap (option_map begun_of) more.stood),
      ap begun_in more.stands ∙ grown_at n i c.args.part more.before more.after ss more.stood number more.more alone ∙ ap (with_part n c.args.part) c.self.view_is,
    )
