-- Batches of the engine, by the changes that they make.
use Rattle.std.specs.Prelude.{◌≡◌, List, ◌++◌, [], ◌∷◌, map}
use Rattle.raft_log_record_frames.specs.declared.marking.Marking.TheVariants.{Unmarked}
use Rattle.raft_log_record_frames.specs.Marking.{marking_of_items}
use Rattle.raft_log_record_frames.specs.Meaning.{tagged_items}
use Rattle.raft_log_record_batches.specs.declared.log_batch.BatchState.TheVariants.{Filling}
use Rattle.raft_log_record_batches.specs.Batch.{Batch}
use Rattle.raft_log_record_batches.specs.Places.{entry_bytes}
use Rattle.raft_log_judge.specs.declared.change.Change.{Change}
use Rattle.raft_log_judge.specs.Changes.{tagged}

-- the batch is being filled, has no mark of an atomic group, and makes these changes
pub record HasChanges (b : Batch) (changes : List Change) : Type 0 where
  pub filling : b.state ≡ Filling
  pub plain : marking_of_items b.items ≡ Unmarked
  pub says : tagged_items (entry_bytes b.entries) b.items ≡ map tagged changes

-- if the batch made some changes before, it now makes these and then `change`
abbrev pub AddsChange : Batch → Batch → Change → Type 0
AddsChange old new change = (changes : List Change) → HasChanges old changes → HasChanges new (changes ++ change ∷ [])
