use Rattle.std.proofs.Common.{◌≡◌, None, Some, false, true, of_calls, option_copied, rules, reverse, ap, subst, sym, ◌∙◌}
use Rattle.std.specs.Fn.{CalledAtTwo}
use Rattle.raft_log_memtable_index.specs.Keys.{shown_value}
use Rattle.raft_log_memtable_index.specs.Listing.{bytes_within, Visits}
use Rattle.raft_log_memtable_index.proofs.Between.{walked_between}
use Rattle.raft_log_memtable_index.proofs.Listing.{down_end, down_last, down_more, down_none, listed, lists_within, rises, within_in}
use Rattle.raft_log_memtable_index.proofs.key_map.KeyMap.scan_down.Goals as goal

pub loop-key-init : goal.loop-key-init
loop-key-init g c = (
  search rules,
  subst (λ found. Visits (CalledAtTwo g.F.FnMut) c.args.callback (reverse found))
      (walked_between (λ k. k.items) (option_copied c.args.start) (option_copied c.args.end) c.bounds.result c.bounds.ensures c.self.inside.slots.entries
      c.range-entries.result c.args.self.now c.self.view_is (c.range-entries.ensures.between tt)),
)

pub returns-then-not-callback : goal.returns-then-not-callback
returns-then-not-callback g c =
    let w = within_in (option_copied c.args.start) (option_copied c.args.end) in
    let found : w c.in-Some.key.now.items c.in-Some.slot.now ≡ Some c.in-Some-within.value.now =
    ap (λ k. bytes_within (option_copied c.args.start) (option_copied c.args.end) k (shown_value c.in-Some.slot.now.held)) (sym c.as_slice.ensures.value)
    ∙ sym c.in-Some-within.ensures in
    let call : CalledAtTwo g.F.FnMut c.loop-key.callback c.in-Some.key.now.items c.in-Some-within.value.now false c.callback.new.self = search rules in (
      listed w c.args.self.now,
      lists_within (option_copied c.args.start) (option_copied c.args.end) c.args.self.now
          (rises (λ k. k.items) c.self.inside.slots.entries c.args.self.now c.self.view_is c.range-entries.ensures.ordered),
      c.loop-key.invariant.1
          (down_last (CalledAtTwo g.F.FnMut) w (λ k. k.items) c.loop-key.callback c.callback.new.self c.in-Some.key.now c.in-Some.slot.now
          c.in-Some-within.value.now c.loop-key.entries c.next_back.new.self c.in-Some.ensures.steps found call),
    )

pub loop-key-preserved-else-not-callback : goal.loop-key-preserved-else-not-callback
loop-key-preserved-else-not-callback g c =
    let w = within_in (option_copied c.args.start) (option_copied c.args.end) in
    let found : w c.in-Some.key.now.items c.in-Some.slot.now ≡ Some c.in-Some-within.value.now =
    ap (λ k. bytes_within (option_copied c.args.start) (option_copied c.args.end) k (shown_value c.in-Some.slot.now.held)) (sym c.as_slice.ensures.value)
    ∙ sym c.in-Some-within.ensures in
    let call : CalledAtTwo g.F.FnMut c.loop-key.callback c.in-Some.key.now.items c.in-Some-within.value.now true c.callback.new.self = search rules in (
      search of_calls,
      λ more. c.loop-key.invariant.1
          (down_more (CalledAtTwo g.F.FnMut) w (λ k. k.items) c.loop-key.callback c.callback.new.self c.in-Some.key.now c.in-Some.slot.now
          c.in-Some-within.value.now c.loop-key.entries c.next_back.new.self c.in-Some.ensures.steps found call more),
    )

pub loop-key-preserved : goal.loop-key-preserved
loop-key-preserved g c =
    let w = within_in (option_copied c.args.start) (option_copied c.args.end) in
    let found : w c.in-Some.key.now.items c.in-Some.slot.now ≡ None =
    ap (λ k. bytes_within (option_copied c.args.start) (option_copied c.args.end) k (shown_value c.in-Some.slot.now.held)) (sym c.as_slice.ensures.value)
    ∙ sym c.in_default-within.ensures in (
      c.loop-key.invariant.0,
      λ more. c.loop-key.invariant.1
          (down_none (CalledAtTwo g.F.FnMut) w (λ k. k.items) c.loop-key.callback c.in-Some.key.now c.in-Some.slot.now c.loop-key.entries
          c.next_back.new.self c.in-Some.ensures.steps found more),
    )

pub returns : goal.returns
returns g c =
    let w = within_in (option_copied c.args.start) (option_copied c.args.end) in (
      listed w c.args.self.now,
      lists_within (option_copied c.args.start) (option_copied c.args.end) c.args.self.now
          (rises (λ k. k.items) c.self.inside.slots.entries c.args.self.now c.self.view_is c.range-entries.ensures.ordered),
      c.loop-key.invariant.1
          (down_end (CalledAtTwo g.F.FnMut) w (λ k. k.items) c.loop-key.callback c.loop-key.entries c.in_default.ensures.steps.0),
    )
