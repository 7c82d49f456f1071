use Rattle.std.proofs.Common.{◌≡◌, Some, false, option_copied, rules, ap, subst, sym, ◌∙◌}
use Rattle.std.specs.Fn.{CalledAtTwo}
use Rattle.raft_log_memtable_index.specs.Keys.{shown_value}
use Rattle.raft_log_memtable_index.specs.Listing.{bytes_within, Visits}
use Rattle.raft_log_memtable_index.proofs.Between.{walked_between}
use Rattle.raft_log_memtable_index.proofs.Listing.{listed, lists_within, rises, up_end, up_last, within_in}
use Rattle.raft_log_memtable_index.proofs.key_map.KeyMap.scan_up.Goals as goal

pub loop-key-init : goal.loop-key-init
loop-key-init g c = (
  search rules,
  subst (Visits (CalledAtTwo g.F.FnMut) c.args.callback)
      (walked_between (λ k. k.items) (option_copied c.args.start) (option_copied c.args.end) c.bounds.result c.bounds.ensures c.self.inside.slots.entries
      c.into_iter-key-iterator.result c.args.self.now c.self.view_is (c.into_iter-key-iterator.ensures.into_iter_gives ∙ c.range-key-items.ensures.between tt)),
)

pub returns-then-not-callback : goal.returns-then-not-callback
returns-then-not-callback g c =
    let w = within_in (option_copied c.args.start) (option_copied c.args.end) in
    let found : w c.in-Some.key.now.items c.in-Some.slot.now ≡ Some c.in-Some-within.value.now =
    ap (λ k. bytes_within (option_copied c.args.start) (option_copied c.args.end) k (shown_value c.in-Some.slot.now.held)) (sym c.as_slice.ensures.value)
    ∙ sym c.in-Some-within.ensures in
    let call : CalledAtTwo g.F.FnMut c.loop-key.callback c.in-Some.key.now.items c.in-Some-within.value.now false c.callback.new.self = search rules in (
      listed w c.args.self.now,
      lists_within (option_copied c.args.start) (option_copied c.args.end) c.args.self.now
          (rises (λ k. k.items) c.self.inside.slots.entries c.args.self.now c.self.view_is c.range-key-items.ensures.ordered),
      c.loop-key.invariant.1
          (up_last (CalledAtTwo g.F.FnMut) w (λ k. k.items) c.loop-key.callback c.callback.new.self c.in-Some.key.now c.in-Some.slot.now
          c.in-Some-within.value.now c.loop-key.key-iterator c.next.new.self c.in-Some.ensures.steps found call),
    )

pub returns : goal.returns
returns g c =
    let w = within_in (option_copied c.args.start) (option_copied c.args.end) in (
      listed w c.args.self.now,
      lists_within (option_copied c.args.start) (option_copied c.args.end) c.args.self.now
          (rises (λ k. k.items) c.self.inside.slots.entries c.args.self.now c.self.view_is c.range-key-items.ensures.ordered),
      c.loop-key.invariant.1
          (up_end (CalledAtTwo g.F.FnMut) w (λ k. k.items) c.loop-key.callback c.loop-key.key-iterator c.in-None.ensures.steps.0),
    )
