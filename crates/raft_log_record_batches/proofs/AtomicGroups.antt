-- What a batch becomes once a mark is added.
use Rattle.std.proofs.Common.{◌≡◌, ℕ, List, sym, ap, subst}
use Rattle.raft_log_record_base.specs.Number.{IsU64, u64_bytes}
use Rattle.raft_log_record_items.specs.declared.item.LogItem.{LogItem}
use Rattle.raft_log_record_frames.specs.declared.status.AtomicGroupStatus.{AtomicGroupStatus}
use Rattle.raft_log_record_frames.specs.declared.marking.Marking.TheVariants.{Unmarked}
use Rattle.raft_log_record_frames.specs.Marking.{mark_item, marking_of_items}
use Rattle.raft_log_record_frames.specs.Meaning.{BecomesPart}
use Rattle.raft_log_record_frames.proofs.Public.{becomes_part, written_mark}
use Rattle.raft_log_record_batches.specs.Batch.{Batch, with_item, Becomes}

-- a batch without a mark becomes a part of a group by the mark that is added
pub became_part : (old new : Batch) (id : ℕ) (status : AtomicGroupStatus) → IsU64 (u64_bytes id) id → marking_of_items old.items ≡ Unmarked → Becomes (with_item old (mark_item id status)) new → BecomesPart old.items new.items id status
became_part old new id status spelled none is =
    subst (λ (l : List LogItem). BecomesPart old.items l id status) (sym (ap (λ (b : Batch). b.items) is.0)) (becomes_part old.items id status (written_mark id status spelled) none)
