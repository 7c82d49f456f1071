use Rattle.std.proofs.Common.{◌≡◌, ◌-◌}
use Rattle.raft_log_record_base.specs.Grammar.{times_at}
use Rattle.raft_log_record_base.proofs.Public.{with_front}
use Rattle.raft_log_record_items.specs.Reading.{item_at}
use Rattle.raft_log_record_items.proofs.items.split_items.Given as goal

-- what was read and what is still read make up the whole
abbrev pub invariant-loop : goal.invariant-loop
invariant-loop l = with_front l.items.items (times_at item_at (l.count - l.counter) l.rest) ≡ times_at item_at l.count l.fn.source.now
