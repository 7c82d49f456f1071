use Rattle.std.proofs.Common.{◌≡◌, ℕ, List, subst, sym}
use Rattle.std.proofs.lemmas.Result.{err_from_is_err_and}
use Rattle.raft_log_purge_copy.specs.raft_log_engine_laws.specs.EngineState.{shows}
use Rattle.raft_log_memtables.specs.Owing.{AreOwed}
use Rattle.raft_log_purge_policy.specs.declared.watermarks.Watermarks.{Watermarks}
use Rattle.raft_log_purge_policy.specs.Watermarks.{watermarks_of}
use Rattle.raft_log_purge_policy.specs.Picking.{count_of, rewrites_at}
use Rattle.raft_log_record_items.specs.declared.item.LogItem.{LogItem}
use Rattle.raft_log_purge.specs.Expired.{DeletesFirst, PicksGroups, RewritesPicked}
use Rattle.raft_log_purge_copy.proofs.Public.{among}
use Rattle.raft_log_purge.proofs.Picked.{failed_after_deleting, listed_picked, nothing_purged}
use Rattle.raft_log_purge.proofs.expired.purge_by_rules.Goals as goal

pub returns-in_err-picked-clause-err : goal.returns-in_err-picked-clause-err
returns-in_err-picked-clause-err g c =
    let p = err_from_is_err_and c.from_residual.result c.from_residual.ensures.1 in
    rw p.1 (nothing_purged p.0 (shows (g.P.PipeLog.shown c.args.pipes.now) c.args.tables.now c.args.cache.now) p.2)

pub returns-in_err-delete_before_writing-clause-err : goal.returns-in_err-delete_before_writing-clause-err
returns-in_err-delete_before_writing-clause-err g c =
    let p = err_from_is_err_and c.from_residual-in_err-delete_before_writing.result c.from_residual-in_err-delete_before_writing.ensures.1 in
    rw (p.1, p.2) c.in_err-delete_before_writing.ensures.err

pub returns-in_err-standing-clause-err : goal.returns-in_err-standing-clause-err
returns-in_err-standing-clause-err g c =
    let m = c.args.tables.now in
    let s = shows (g.P.PipeLog.shown c.args.pipes.now) m c.args.cache.now in
    let freed = shows (g.P.PipeLog.shown c.delete_before_writing.new.pipes) m c.delete_before_writing.new.cache in
    let t = shows (g.P.PipeLog.shown c.rewrite_picked.new.pipes) c.rewrite_picked.new.tables c.rewrite_picked.new.cache in
    let p = err_from_is_err_and c.from_residual-in_err-standing.result c.from_residual-in_err-standing.ensures.1 in
    rw (p.1, p.2) (failed_after_deleting c.args.held m c.as_slice-marks.result.now c.in_err-standing.field-0.0 s freed t c.in_ok-delete_before_writing.ensures.ok c.in_err-standing.ensures.err)

pub delete_before_writing-requires : goal.delete_before_writing-requires
delete_before_writing-requires g c = subst (AreOwed c.args.tables.now) (sym c.as_slice-marks.ensures.value) c.in_ok-picked.ensures.owed

pub rewrite_picked-requires : goal.rewrite_picked-requires
rewrite_picked-requires g c = subst (AreOwed c.args.tables.now) (sym c.as_slice-marks.ensures.value) c.in_ok-picked.ensures.owed

pub returns-clause-ok : goal.returns-clause-ok
returns-clause-ok g c =
    let v = g.P.PipeLog.shown c.args.pipes.now in
    let m = c.args.tables.now in
    let s = shows v m c.args.cache.now in
    let freed = shows (g.P.PipeLog.shown c.delete_before_writing.new.pipes) m c.delete_before_writing.new.cache in
    let after = c.rewrite_picked.new.tables in
    let t = shows (g.P.PipeLog.shown c.rewrite_picked.new.pipes) after c.rewrite_picked.new.cache in
    let picked = c.in_ok-picked.picked in
    let is : c.append_watermarks-watermarks.result ≡ watermarks_of v = c.append_watermarks-watermarks.ensures in
    let picks = subst (λ (w : Watermarks). PicksGroups w c.args.restated m c.args.rounds.now picked) is c.in_ok-picked.ensures in
    let listed = subst (λ (l : List ℕ). RewritesPicked (among l) c.append_watermarks-watermarks.result.rewrite c.args.held after freed t) c.as_slice.ensures.value c.in_ok-standing.ensures.ok in
    let done = subst (λ (w : Watermarks). RewritesPicked (among picked.rewritten.items) w.rewrite c.args.held after freed t) is listed in
    record {
      answered = picks.answered;
      rounds = picks.rounds;
      marks = picked.marks.items;
      owed = picks.owed;
      freed = freed;
      deletes = subst (λ (l : List LogItem). DeletesFirst c.args.held m l s freed) c.as_slice-marks.ensures.value c.in_ok-delete_before_writing.ensures.ok;
      rewrites = listed_picked picked.rewritten.items (rewrites_at (watermarks_of v) (count_of c.args.rounds.now) m) (watermarks_of v).rewrite c.args.held after freed t picks.rewritten done;
    }
