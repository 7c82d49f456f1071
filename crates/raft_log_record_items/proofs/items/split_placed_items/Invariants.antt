use Rattle.std.proofs.Common.{◌≡◌, ◌-◌, List}
use Rattle.raft_log_record_base.specs.Grammar.{times_at}
use Rattle.raft_log_record_base.proofs.Public.{with_front}
use Rattle.raft_log_record_items.specs.declared.item.LogItem.{LogItem}
use Rattle.raft_log_record_items.specs.Placed.{ArePlaced}
use Rattle.raft_log_record_items.specs.Reading.{item_at}
use Rattle.raft_log_record_items.proofs.items.split_placed_items.Given as goal

-- what was read and what is still read make up the whole, and what was read has its places
abbrev pub invariant-loop : goal.invariant-loop
invariant-loop l = (front : List LogItem) × (with_front front (times_at item_at (l.count - l.counter) l.rest) ≡ times_at item_at l.count l.fn.source.now)
    × ArePlaced l.block front l.items.items l.len
