use Rattle.std.proofs.Common.{inl, inr, refl, subst, sym}
use Rattle.std.proofs.lemmas.Result.{err_from_is_err_and}
use Rattle.raft_log_purge_copy.specs.raft_log_engine_laws.specs.EngineState.{shows}
use Rattle.raft_log_memtables.specs.Walking.{ListsGroups}
use Rattle.raft_log_purge.proofs.Public.{none_restated_yet}
use Rattle.raft_log_purge_steps.specs.Compacting.{needs_up_to}
use Rattle.raft_log_purge_steps.proofs.Continuing.{continued, some_counted, whole_ended, whole_unended}
use Rattle.raft_log_purge_steps.proofs.compacting.go_on_compacting.Goals as goal

pub returns-in_err-listed-clause-err : goal.returns-in_err-listed-clause-err
returns-in_err-listed-clause-err g c =
    let p = err_from_is_err_and c.from_residual.result c.from_residual.ensures.1 in
    rw p.1 (none_restated_yet p.0 (shows (g.P.PipeLog.shown c.args.pipes.now) c.args.tables.now c.args.cache.now) p.2)

pub returns-in_err-listed-clause-kept : goal.returns-in_err-listed-clause-kept
returns-in_err-listed-clause-kept g c =
    let p = err_from_is_err_and c.from_residual.result c.from_residual.ensures.1 in
    rw p.1 (record { still = refl; rounds = refl; stats = inl (refl, refl) })

pub returns-then-is_empty-clause-ok : goal.returns-then-is_empty-clause-ok
returns-then-is_empty-clause-ok g c =
    let m = c.args.tables.now in
    let s = shows (g.P.PipeLog.shown c.args.pipes.now) m c.args.cache.now in
    let t = shows (g.P.PipeLog.shown c.end_compaction.new.pipes) m c.end_compaction.new.cache in
    let lists = subst (ListsGroups (needs_up_to c.args.file m)) (sym c.as_slice-groups.ensures.value) c.in_ok-listed.ensures in
    whole_ended c.args.file c.args.budget c.args.until.now c.end_compaction.new.until m c.args.counts.now (record c.args.counts.now { stats = c.end_compaction.new.stats }) s t c.as_slice-groups.result.now c.is_empty.result c.is_empty.ensures c.if-is_empty.true
    lists c.end_compaction.result refl c.end_compaction.ensures.ok

pub returns-then-is_empty-clause-kept : goal.returns-then-is_empty-clause-kept
returns-then-is_empty-clause-kept g c =
    let m = c.args.tables.now in
    let s = shows (g.P.PipeLog.shown c.args.pipes.now) m c.args.cache.now in
    let t = shows (g.P.PipeLog.shown c.end_compaction.new.pipes) m c.end_compaction.new.cache in
    whole_unended c.args.file c.args.budget c.args.until.now c.end_compaction.new.until m c.args.counts.now (record c.args.counts.now { stats = c.end_compaction.new.stats }) s t c.end_compaction.result refl refl c.end_compaction.ensures.counted c.end_compaction.ensures.kept

pub returns-in_err-count-clause-err : goal.returns-in_err-count-clause-err
returns-in_err-count-clause-err g c =
    let p = err_from_is_err_and c.from_residual-in_err-count.result c.from_residual-in_err-count.ensures.1 in
    rw p.1 (none_restated_yet p.0 (shows (g.P.PipeLog.shown c.args.pipes.now) c.args.tables.now c.args.cache.now) p.2)

pub returns-in_err-count-clause-kept : goal.returns-in_err-count-clause-kept
returns-in_err-count-clause-kept g c =
    let p = err_from_is_err_and c.from_residual-in_err-count.result c.from_residual-in_err-count.ensures.1 in
    rw p.1 (record { still = refl; rounds = refl; stats = inl (refl, refl) })

pub returns-in_err-restate_some-clause-err : goal.returns-in_err-restate_some-clause-err
returns-in_err-restate_some-clause-err g c =
    let p = err_from_is_err_and c.from_residual-in_err-restate_some.result c.from_residual-in_err-restate_some.ensures.1 in
    rw (p.1, p.2) c.in_err-restate_some.ensures.err

pub returns-in_err-restate_some-clause-kept : goal.returns-in_err-restate_some-clause-kept
returns-in_err-restate_some-clause-kept g c =
    let m = c.args.tables.now in
    let groups = c.as_slice-groups.result.now in
    let count = c.in_ok-count.count in
    let lists = subst (ListsGroups (needs_up_to c.args.file m)) (sym c.as_slice-groups.ensures.value) c.in_ok-listed.ensures in
    let p = err_from_is_err_and c.from_residual-in_err-restate_some.result c.from_residual-in_err-restate_some.ensures.1 in
    rw p.1 (record {
      still = refl;
      rounds = refl;
      stats = inr (
        groups,
        count,
        record { listed = lists; fits = c.in_ok-count.ensures },
        some_counted c.args.file c.args.budget m groups c.first_groups-part.result.now count c.first_groups-part.ensures lists c.restate_some.new.tables c.args.counts.now.stats c.restate_some.new.stats c.restate_some.ensures.stats,
      );
    })

pub returns-clause-ok : goal.returns-clause-ok
returns-clause-ok g c =
    let before = c.args.tables.now in
    let after = c.restate_some.new.tables in
    let s = shows (g.P.PipeLog.shown c.args.pipes.now) before c.args.cache.now in
    let t = shows (g.P.PipeLog.shown c.restate_some.new.pipes) after c.restate_some.new.cache in
    let lists = subst (ListsGroups (needs_up_to c.args.file before)) (sym c.as_slice-groups.ensures.value) c.in_ok-listed.ensures in
    continued c.args.file c.args.budget before c.as_slice-groups.result.now c.first_groups-part.result.now c.in_ok-count.count c.first_groups-part.ensures lists c.is_empty.result c.args.until.now after c.args.counts.now
    (record { rounds = c.args.counts.now.rounds; stats = c.restate_some.new.stats; number = c.restate_some.new.number }) c.silent.result s t c.is_empty.ensures c.if-is_empty.false c.in_ok-count.ensures c.in_ok-restate_some.ensures.ok c.restate_some.ensures.stats refl c.silent.ensures.answered c.silent.ensures.more
