-- What the batch of a change contains, and how long its record is.
use Rattle.std.specs.Prelude.{◌≡◌, ℕ, ◌<◌, ◌^◌, Some}
use Rattle.raft_log_record_frames.specs.Meaning.{record_of}
use Rattle.raft_log_record_frames.specs.Record.{record_len}
use Rattle.raft_log_record_batches.specs.Batch.{Batch, Becomes}
use Rattle.raft_log_record_batches.specs.Places.{entry_bytes}
use Rattle.raft_voter_messages.specs.declared.request.Request.{Request}
use Rattle.raft_voter_outline.specs.declared.outline.decision.Change.{Change}
use Rattle.raft_voter_outline.specs.Outlines.{IsChangeOf}
use Rattle.raft_voter_outline.specs.State.{State}
use Rattle.raft_voter_records.specs.MeaningChanges.{decided_items, record_in}
use Rattle.raft_voter_records.specs.Changes.{IsFresh, with_change}

-- If a change of the voter of group `g` is added to an empty batch, the batch encodes exactly the items that were
-- decided.
abbrev pub ChangesAreSaid : Type 0
ChangesAreSaid = (old new : Batch) (g : ℕ) (c : Change) (q : Request) (v : State) → IsFresh old → IsChangeOf v q c
    → Becomes (with_change old g c q) new
    → record_of (entry_bytes new.entries) new.items ≡ Some (record_in g (decided_items c q))

-- If a change of a voter is added to an empty batch, the batch's record is shorter than 2 MiB.
abbrev pub ChangesAreShort : Type 0
ChangesAreShort = (old new : Batch) (g : ℕ) (c : Change) (q : Request) (v : State) → IsFresh old → IsChangeOf v q c
    → Becomes (with_change old g c q) new → record_len new.items new.entries < 2 ^ 21
