use Rattle.std.proofs.Common.{length, option_copied, reverse}
use Rattle.std.specs.Fn.{CalledAtTwo}
use Rattle.raft_log_memtable_index.specs.Listing.{Visits}
use Rattle.raft_log_memtable_index.proofs.ByteKeys.{by_bytes}
use Rattle.raft_log_memtable_index.proofs.Listing.{listed, within_in}
use Rattle.raft_log_memtable_index.proofs.key_map.KeyMap.scan_down.Given as goal

abbrev pub invariant-loop-key : goal.invariant-loop-key
invariant-loop-key g l =
    goal.F-IsAlwaysCallable g l.callback
    × (Visits (CalledAtTwo g.F.FnMut) l.callback
    (reverse (listed (within_in (option_copied l.start) (option_copied l.end)) (by_bytes (λ k. k.items) l.entries)))
    → Visits (CalledAtTwo g.F.FnMut) l.fn.callback
    (reverse (listed (within_in (option_copied l.start) (option_copied l.end)) l.self)))

abbrev pub decreases-loop-key : goal.decreases-loop-key
decreases-loop-key g l = length l.entries
