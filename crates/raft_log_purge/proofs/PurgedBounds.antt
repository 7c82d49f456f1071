-- A purge of a modest log isn't refused as too long.
use Rattle.std.proofs.Common.{◌<◌, ◌^◌, List, [], inl, inr, subst, arith}
use Rattle.raft_log_record_base.specs.declared.errors.Error.{Error}
use Rattle.raft_log_record_base.specs.declared.errors.Error.TheVariants as errors
use Rattle.raft_log_record_items.specs.declared.item.LogItem.{LogItem}
use Rattle.raft_log_record_batches.specs.Bounds.{record_bound}
use Rattle.raft_log_record_batches.proofs.Public.{no_record_is_longer}
use Rattle.raft_log_engine_laws.specs.EngineState.{LogDirectories, LogMap, EngineState}
use Rattle.raft_log_purge_copy.specs.Reasons.{HasPurgeReason}
use Rattle.raft_log_purge.specs.Lengths.{AreModest}
use Rattle.raft_log_purge.specs.Marks.{CameOf}
use Rattle.raft_log_purge.specs.Laws.{ModestLogsArePurged}
use Rattle.raft_log_purge.proofs.Groups.{modest_logs_make_records}
use Rattle.raft_log_purge.proofs.Owed.{marks_within}

never_full : (home : LogDirectories) (m : LogMap) (items : List LogItem) (s t : EngineState) → AreModest m → CameOf items s.tables → record_bound items [] < 2 ^ 56 → HasPurgeReason home m errors.Full s t → ⊥
never_full home m items s t modest came few (inl long) = modest_logs_make_records m modest long
never_full home m items s t modest came few (inr (is, (b, says, long))) = omega (arith, few, long, no_record_is_longer b.items b.entries, marks_within items s.tables b came says)

pub modest_logs_are_purged : ModestLogsArePurged
modest_logs_are_purged home m items error s t modest came few reason full =
    never_full home m items s t modest came few (subst (λ (e : Error). HasPurgeReason home m e s t) full reason)
