-- Builders of atomic groups, which give batches their marks.
use Rattle.std.specs.Prelude.{◌≡◌, ℕ, Option, Some, None}
use Rattle.raft_log_record_frames.specs.declared.status.AtomicGroupStatus.{AtomicGroupStatus}
use Rattle.raft_log_record_frames.specs.declared.status.AtomicGroupStatus.TheVariants.{Begin, Middle, End}
use Rattle.raft_log_record_frames.specs.Marking.{mark_item}
use Rattle.raft_log_record_batches.specs.Batch.{Batch, with_item, Becomes}

-- The builder of one atomic group: the group's number, and the status of the mark that was added last, if any.
pub record AtomicGroup : Type 0 where
  pub id : ℕ
  pub status : Option AtomicGroupStatus

-- the last mark is `Begin` or `Middle`, so the group has begun and not ended
abbrev pub IsGroupOpen : Option AtomicGroupStatus → Type 0
IsGroupOpen None = ⊥
IsGroupOpen (Some Begin) = Unit {0}
IsGroupOpen (Some Middle) = Unit {0}
IsGroupOpen (Some End) = ⊥

-- The builder `old` became `new`, with `status` as its last status. The batch `batch` became `marked`: it got the mark
-- for this status as its last item. Apart from capacities, nothing else changed.
abbrev pub Marks : AtomicGroup → AtomicGroup → Batch → Batch → AtomicGroupStatus → Type 0
Marks old new batch marked status =
    (new ≡ record old { status = Some status }) × Becomes (with_item batch (mark_item old.id status)) marked
