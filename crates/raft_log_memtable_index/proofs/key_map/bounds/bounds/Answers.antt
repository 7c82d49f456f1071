use Rattle.std.proofs.Common.{◌≡◌, IfSome, Some, option_copied, ap₂, subst, sym}
use Rattle.raft_log_memtable_index.specs.Bounds.{IsBoundAround}
use Rattle.raft_log_memtable_index.proofs.Between.{bounds_around}
use Rattle.raft_log_memtable_index.proofs.key_map.bounds.bounds.Goals as goal

pub returns : goal.returns
returns c =
    subst (IsBoundAround (λ v. v.items) (option_copied c.args.start) (option_copied c.args.end)) (sym (ap₂ (λ from below. (from, below)) c.from_bound.ensures c.below_bound.ensures))
    (bounds_around (λ v. v.items) (option_copied c.args.start) (option_copied c.args.end) c.copied-from.result c.copied-below.result c.copied-from.ensures
    (subst (λ o. IfSome c.copied-below.result (λ v. o ≡ Some v.items)) c.later_end.ensures c.copied-below.ensures))
