use Rattle.std.proofs.Common.{◌≡◌, ◌+◌, ◌↔◌, drop}
use Rattle.raft_log_world.specs.Reads.{HasEntries, all_bytes}
use Rattle.raft_log_judge.specs.Contents.{after_all}
use Rattle.raft_log_judge.proofs.reading.has_entries.Given as goal

-- the entries that are left decide
abbrev pub invariant-loop-entry : goal.invariant-loop-entry
invariant-loop-entry l = (l.index ≡ l.begin + l.entry-index)
    × (HasEntries (after_all l.batches) l.group l.index (all_bytes (drop l.entry-index l.entries)) ↔ HasEntries (after_all l.batches) l.group l.begin (all_bytes l.entries))
