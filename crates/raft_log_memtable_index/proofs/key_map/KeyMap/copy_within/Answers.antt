use Rattle.std.proofs.Common.{[], ◌++◌, ap, option_copied, sym, ◌∙◌}
use Rattle.std.proofs.lemmas.List.{append-nil}
use Rattle.raft_log_memtable_index.proofs.Between.{walked_between}
use Rattle.raft_log_memtable_index.proofs.Listing.{all_within}
use Rattle.raft_log_memtable_index.proofs.key_map.KeyMap.copy_within.Goals as goal

pub loop-key-init : goal.loop-key-init
loop-key-init c = (
  ([], sym (append-nil c.args.pairs.now.items)),
  ap (λ found. c.args.pairs.now.items ++ found)
      (walked_between (λ k. k.items) (option_copied c.args.start) (option_copied c.args.end) c.bounds.result c.bounds.ensures c.self.inside.slots.entries
      c.into_iter-key-iterator.result c.args.self.now c.self.view_is (c.into_iter-key-iterator.ensures.into_iter_gives ∙ c.range-key-items.ensures.between tt)),
)

pub returns-clause-ok : goal.returns-clause-ok
returns-clause-ok c =
    all_within (λ k. k.items) c.self.inside.slots.entries c.args.self.now c.self.view_is (option_copied c.args.start) (option_copied c.args.end) c.loop-key.pairs.items c.args.pairs.now.items c.loop-key.key-iterator
    c.in-None.ensures.steps.0 c.loop-key.invariant.1 c.range-key-items.ensures.ordered
