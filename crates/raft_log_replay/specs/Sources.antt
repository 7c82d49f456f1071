-- A machine replays one segment of a queue. The segment's ending is the value that reading the segment returns. A
-- source and a machine define these:
-- - `holds`: which batches and which ending the segment has.
-- - `begins`: with which batches the segment begins.
-- - `refuses`: why the segment can't be read.
-- - `reads`: which batches a machine has read.
-- - `declines`: with which errors a machine may fail at which batches.
use Rattle.std.specs.Prelude.{◌≡◌, ℕ, suc, ◌⊎◌, List, [], ◌∷◌, ◌++◌}
use Rattle.raft_log_record_base.specs.declared.errors.Error.{Error}
use Rattle.raft_log_record_base.specs.declared.errors.Error.TheVariants.{Memory}
use Rattle.raft_log_replay.specs.Machines.{Batch}

-- the machine read the batches of a segment, after those that it had read before; reading the segment returned `ending`
pub record ReplaysSegment {M E : Type 0} (holds : List Batch → E → Type 0) (reads : List Batch → M → Type 0)
    (old new : M) (ending : E) : Type 0 where
  pub batches : List Batch
  pub held : holds batches ending
  pub takes : (before : List Batch) → reads before old → reads (before ++ batches) new

-- The segment begins with some batches at which the machine fails with `error`. The machine may have read other batches
-- before.
pub record StopsIn {M : Type 0} (begins : List Batch → Type 0) (reads : List Batch → M → Type 0)
    (declines : List Batch → Error → Type 0) (machine : M) (error : Error) : Type 0 where
  pub batches : List Batch
  pub begun : begins batches
  pub declined : (before : List Batch) → reads before machine → declines (before ++ batches) error

-- Why a segment isn't replayed: reading it fails (`refuses`), the machine fails in it (`StopsIn`), or memory ran out.
abbrev pub SegmentRefused : {M : Type 0} → (Error → Type 0) → (List Batch → Type 0)
    → (List Batch → M → Type 0) → (List Batch → Error → Type 0) → M → Error → Type 0
SegmentRefused refuses begins reads declines machine error =
    refuses error ⊎ StopsIn begins reads declines machine error ⊎ (error ≡ Memory)

-- `holds` is true for each segment, from number `k` on, with its list of batches and its ending
abbrev pub HoldEach : {E : Type 0} → (ℕ → List Batch → E → Type 0) → ℕ → List (List Batch) → List E → Type 0
HoldEach holds k [] [] = Unit {0}
HoldEach holds k [] (e ∷ es) = ⊥
HoldEach holds k (bs ∷ bss) [] = ⊥
HoldEach holds k (bs ∷ bss) (e ∷ es) = holds k bs e × HoldEach holds (suc k) bss es
