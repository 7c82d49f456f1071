use Rattle.std.proofs.Common.{◌≡◌, ◌+◌, ◌-◌, length}
use Rattle.raft_log_record_base.proofs.Public.{with_front}
use Rattle.raft_log_record_items.specs.Run.{FollowsFrom}
use Rattle.raft_log_record_items.specs.Reading.{entries_from_at}
use Rattle.raft_log_record_items.proofs.entry_indexes.split_entries.Given as goal

-- what was read and what is still read make up the whole
abbrev pub invariant-loop-i : goal.invariant-loop-i
invariant-loop-i l = (with_front l.entries.items (entries_from_at (l.first + l.i) (l.count - l.i) l.rest) ≡ entries_from_at l.first l.count l.fn.source.now)
    × FollowsFrom l.first l.entries.items × (length l.entries.items ≡ l.i)
