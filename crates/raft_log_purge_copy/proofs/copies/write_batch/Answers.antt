use Rattle.std.proofs.Common.{List, Some, inl, refl, subst}
use Rattle.std.specs.Prelude.{OnOk}
use Rattle.std.proofs.lemmas.Result.{err_from_is_err_and}
use Rattle.raft_log_record_items.specs.declared.entry.EntryIndex.{EntryIndex}
use Rattle.raft_log_record_items.specs.declared.item.LogItem.{LogItem}
use Rattle.raft_log_record_frames.specs.Meaning.{tagged_items}
use Rattle.raft_log_record_batches.specs.Batch.{Batch}
use Rattle.raft_log_memtables.specs.Rewriting.{PromisesMoves}
use Rattle.raft_log_purge_copy.specs.Syncing.{TakesRecord}
use Rattle.raft_log_purge_copy.proofs.Copying.{copied_then, not_copied, populated, refused_then}
use Rattle.raft_log_purge_copy.proofs.Promised.{room_forgotten}
use Rattle.raft_log_purge_copy.proofs.copies.write_batch.Goals as goal

pub returns-in_err-len-clause-err : goal.returns-in_err-len-clause-err
returns-in_err-len-clause-err g c =
    let p = err_from_is_err_and c.from_residual.result c.from_residual.ensures.1 in
    rw (p.1, p.2) (λ cache.
    not_copied (Some c.args.gate) c.args.batch c.in_err-len.field-0.0 (g.P.PipeLog.shown c.args.pipes.now) c.args.tables.now c.args.tables.now cache c.in_err-len.ensures.errors
    (record { shown = λ g. refl; counts = λ g. refl }))

pub returns-in_err-prepare_rewrite-clause-err : goal.returns-in_err-prepare_rewrite-clause-err
returns-in_err-prepare_rewrite-clause-err g c =
    let p = err_from_is_err_and c.from_residual-in_err-prepare_rewrite.result c.from_residual-in_err-prepare_rewrite.ensures.1 in
    rw p.1 (λ cache.
    not_copied (Some c.args.gate) c.args.batch p.0 (g.P.PipeLog.shown c.args.pipes.now) c.args.tables.now c.prepare_rewrite.new.self cache (inl p.2) c.prepare_rewrite.ensures.shows)

pub returns-clause-ok : goal.returns-clause-ok
returns-clause-ok g c =
    copied_then (Some c.args.gate) c.args.batch c.finish_populate.new.self (g.P.PipeLog.shown c.args.pipes.now) (g.P.PipeLog.shown c.append_copies.new.pipes) c.args.tables.now c.prepare_rewrite.new.self c.append_copies.new.tables c.append_copies.result
    c.in_ok-len.ensures.ok c.prepare_rewrite.ensures.shows c.append_copies.ensures.ok

pub returns-clause-there : goal.returns-clause-there
returns-clause-there g c =
    subst (λ (x : Batch). OnOk c.append_copies.result (TakesRecord x (g.P.PipeLog.shown c.args.pipes.now) (g.P.PipeLog.shown c.append_copies.new.pipes)))
    (populated c.args.batch c.finish_populate.new.self c.in_ok-len.ensures.ok) c.append_copies.ensures.there

pub returns-clause-err : goal.returns-clause-err
returns-clause-err g c =
    refused_then (Some c.args.gate) c.args.batch c.finish_populate.new.self (g.P.PipeLog.shown c.args.pipes.now) (g.P.PipeLog.shown c.append_copies.new.pipes) c.args.tables.now c.prepare_rewrite.new.self c.append_copies.new.tables c.append_copies.result
    c.in_ok-len.ensures.ok c.prepare_rewrite.ensures.shows c.append_copies.ensures.err

pub returns-in_err-prepare_rewrite-clause-moves : goal.returns-in_err-prepare_rewrite-clause-moves
returns-in_err-prepare_rewrite-clause-moves g c = room_forgotten c.args.tables.now c.prepare_rewrite.new.self c.items.result.now c.in_err-prepare_rewrite.ensures.err

pub returns-clause-moves : goal.returns-clause-moves
returns-clause-moves g c =
    λ none.
    c.append_copies.ensures.used c.args.tables.now none
    (subst (λ (l : List LogItem). PromisesMoves c.args.tables.now c.prepare_rewrite.new.self (tagged_items {E = EntryIndex} (λ e. e) l)) c.items.ensures c.in_ok-prepare_rewrite.ensures.ok)

pub returns-clause-rests : goal.returns-clause-rests
returns-clause-rests g c = λ r. c.append_copies.ensures.rests (c.prepare_rewrite.ensures.rest r)
