-- A batch that is short enough isn't refused for its length.
use Rattle.std.proofs.Common.{◌≡◌, ◌<◌, ◌^◌, inl, inr, subst, arith}
use Rattle.raft_log_record_base.specs.declared.errors.Error.{Error}
use Rattle.raft_log_record_base.specs.declared.errors.Error.TheVariants as errors
use Rattle.raft_log_record_batches.specs.Batch.{Batch}
use Rattle.raft_log_record_batches.specs.Bounds.{batch_bound}
use Rattle.raft_log_record_batches.proofs.Public.{no_record_is_longer}
use Rattle.raft_log_engine_laws.specs.EngineState.{EngineState}
use Rattle.raft_log_engine_laws.specs.Writing.{NotWritten}
use Rattle.raft_log_purge.specs.Lengths.{HasLog}
use Rattle.raft_log_purge.specs.Laws.{BoundedBatchesAreNotFull}

never_full : (b : Batch) (s t : EngineState) → HasLog s → batch_bound b < 2 ^ 56 → NotWritten b errors.Full s t → ⊥
never_full b s t log few (inl unfit) = omega (arith, few, unfit.0, no_record_is_longer b.items b.entries)
never_full b s t log few (inr (inl failed)) = let other : errors.Full ≡ errors.Failed = failed.0 in let no : ⊥ = cc in no
never_full b s t (home, m, pending, holds) few (inr (inr refused)) = refused.leaves home m pending holds

pub bounded_batches_are_not_full : BoundedBatchesAreNotFull
bounded_batches_are_not_full b error s t log few refused full =
    never_full b s t log few (subst (λ (e : Error). NotWritten b e s t) full refused)
