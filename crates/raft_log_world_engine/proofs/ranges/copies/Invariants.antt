use Rattle.std.proofs.Common.{◌≡◌, ◌++◌, drop, map}
use Rattle.raft_log_engine.specs.raft_log_record_items.specs.declared.raw_message.RawMessage.{RawMessage}
use Rattle.raft_log_world.specs.Reads.{all_bytes}
use Rattle.raft_log_world_engine.proofs.ranges.copies.Given as goal

-- what is copied, and what is left
abbrev pub invariant-loop-message : goal.invariant-loop-message
invariant-loop-message l = all_bytes l.entries.items ++ map (λ (m : RawMessage). m.bytes) (drop l.message-index l.messages) ≡ map (λ (m : RawMessage). m.bytes) l.messages
