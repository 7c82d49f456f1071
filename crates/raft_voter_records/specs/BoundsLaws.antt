-- An upper bound for the log space that a request takes, computed from the entries that it brings.
use Rattle.std.specs.Prelude.{◌≡◌, ℕ, ◌+◌, ◌*◌, ◌≤◌, true, length}
use Rattle.raft_log_record_frames.specs.Record.{record_len}
use Rattle.raft_log_record_batches.specs.Batch.{Batch, Becomes}
use Rattle.raft_voter_messages.specs.declared.request.Request.{Request}
use Rattle.raft_voter_messages.specs.Ranges.{in_range, total_bytes}
use Rattle.raft_voter_outline.specs.declared.outline.decision.Change.{Change}
use Rattle.raft_voter_outline.specs.Outlines.{sent_of}
use Rattle.raft_voter_records.specs.Changes.{IsFresh, with_change}

-- The upper bound for the record of request `q`: 145, plus 27 for each entry that it brings, plus the bytes of the
-- entries.
abbrev pub request_bound : Request → ℕ
request_bound q = 145 + 27 * length (sent_of q) + total_bytes (sent_of q)

-- The bound holds for the record of a batch to which only the change for request `q` was added. For a request in
-- range, it is at most 1,076,369 bytes.
pub record RequestsTakeLittle : Type 0 where
  pub each : (old new : Batch) (g : ℕ) (c : Change) (q : Request) → IsFresh old
      → Becomes (with_change old g c q) new → record_len new.items new.entries ≤ request_bound q
  pub most : (q : Request) → in_range q ≡ true → request_bound q ≤ 1076369
