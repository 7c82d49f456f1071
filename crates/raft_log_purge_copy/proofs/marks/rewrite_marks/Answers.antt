use Rattle.std.proofs.Common.{inl, subst, sym}
use Rattle.std.proofs.lemmas.Result.{err_from_is_err_and}
use Rattle.raft_log_engine_laws.specs.EngineState.{shows}
use Rattle.raft_log_memtables.specs.Owing.{AreOwed}
use Rattle.raft_log_purge_copy.proofs.PartExits.{refused_unmade}
use Rattle.raft_log_purge_copy.proofs.Reasons.{memory_reason, memory_unmade}
use Rattle.raft_log_purge_copy.proofs.marks.rewrite_marks.Goals as goal

pub returns-in_err-marks-clause-err : goal.returns-in_err-marks-clause-err
returns-in_err-marks-clause-err g c =
    let p = err_from_is_err_and c.from_residual.result c.from_residual.ensures.1 in
    rw p.1 (λ cache.
    let s = shows (g.P.PipeLog.shown c.args.pipes.now) c.args.tables.now cache in
    refused_unmade p.0 s (memory_unmade p.0 p.2) (λ home m h. inl (memory_reason home m p.0 s s p.2)))

pub write_tombstones-requires : goal.write_tombstones-requires
write_tombstones-requires g c = subst (AreOwed c.args.tables.now) (sym c.as_slice.ensures.value) c.in_ok-marks.ensures
