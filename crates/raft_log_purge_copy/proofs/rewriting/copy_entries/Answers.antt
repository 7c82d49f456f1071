use Rattle.std.proofs.Common.{◌≡◌, List, [], length, map, sym, ap, subst, ◌∙◌, refl, arith}
use Rattle.std.proofs.lemmas.Bool.{eqb-false}
use Rattle.std.proofs.lemmas.Result.{err_from_is_err_and}
use Rattle.raft_log_record_items.specs.declared.entry.EntryIndex.{EntryIndex}
use Rattle.raft_log_record_batches.specs.Entries.{IsEntriesRefusal, indexes_of}
use Rattle.raft_log_block_cache.specs.Blocks.{AreUnread, ReadsEntries}
use Rattle.raft_log_engine_laws.specs.EngineState.{shows}
use Rattle.raft_log_record_items.specs.declared.raw_message.RawMessage.{RawMessage}
use Rattle.raft_log_purge_copy.specs.Entries.{IsRunBatch, as_bytes}
use Rattle.raft_log_purge_copy.proofs.Reading.{entries_copied, entries_not_copied, next_piece, none_read, none_written, read_piece, unbuilt}
use Rattle.raft_log_purge_copy.specs.Lengths.{AreOnePiece}
use Rattle.raft_log_purge_copy.proofs.Handing.{copies_handed, none_handed}
use Rattle.raft_log_purge_copy.proofs.rewriting.copy_entries.Goals as goal

pub returns-in_err-entries-clause-err : goal.returns-in_err-entries-clause-err
returns-in_err-entries-clause-err g c =
    let s = shows (g.P.PipeLog.shown c.args.pipes.now) c.args.tables.now c.args.cache.now in
    let p = err_from_is_err_and c.from_residual.result c.from_residual.ensures.1 in
    rw (p.1, p.2) (none_written c.in_err-entries.field-0.0 s c.in_err-entries.ensures.errors)

pub returns-in_err-read-clause-err : goal.returns-in_err-read-clause-err
returns-in_err-read-clause-err g c =
    let v = g.P.PipeLog.shown c.args.pipes.now in
    let s = shows v c.args.tables.now c.args.cache.now in
    let es = c.in_ok-entries.entries.items in
    let new = c.read_entries.new.self in
    let error = c.in_err-read.field-0.0 in
    let unread = subst (λ (l : List EntryIndex). AreUnread as_bytes v l c.args.cache.now new error) c.as_slice.ensures.value c.in_err-read.ensures.err in
    let p = err_from_is_err_and c.from_residual-in_err-read.result c.from_residual-in_err-read.ensures.1 in
    rw (p.1, p.2) (none_read s c.args.group c.args.gate es c.in_ok-entries.ensures.ok new error unread)

pub returns-in_err-batch-clause-err : goal.returns-in_err-batch-clause-err
returns-in_err-batch-clause-err g c =
    let v = g.P.PipeLog.shown c.args.pipes.now in
    let s = shows v c.args.tables.now c.args.cache.now in
    let es = c.in_ok-entries.entries.items in
    let new = c.read_entries.new.self in
    let xs = c.in_ok-read.read.items in
    let reads = subst (λ (l : List EntryIndex). ReadsEntries as_bytes v l c.args.cache.now new xs) c.as_slice.ensures.value c.in_ok-read.ensures.ok in
    let error = c.in_err-batch.field-0.0 in
    let why : IsEntriesRefusal error 0 (indexes_of es) (map (λ e. e.bytes) xs) =
    subst (λ (l : List RawMessage). IsEntriesRefusal error 0 (indexes_of es) (map (λ e. e.bytes) l)) c.as_slice-3.ensures.value
    (subst (λ (l : List EntryIndex). IsEntriesRefusal error 0 (indexes_of l) (map (λ e. e.bytes) c.as_slice-3.result.now)) c.as_slice-2.ensures.value c.in_err-batch.ensures.errors) in
    let p = err_from_is_err_and c.from_residual-in_err-batch.result c.from_residual-in_err-batch.ensures.1 in
    rw (p.1, p.2) (unbuilt s c.args.group c.args.gate es c.in_ok-entries.ensures.ok new error xs reads why)

pub returns-in_err-write_copies-clause-err : goal.returns-in_err-write_copies-clause-err
returns-in_err-write_copies-clause-err g c =
    let v = g.P.PipeLog.shown c.args.pipes.now in
    let s = shows v c.args.tables.now c.args.cache.now in
    let t = shows (g.P.PipeLog.shown c.write_copies.new.pipes) c.write_copies.new.tables c.read_entries.new.self in
    let es = c.in_ok-entries.entries.items in
    let new = c.read_entries.new.self in
    let xs = c.in_ok-read.read.items in
    let b = c.in_ok-batch.batch in
    let reads = subst (λ (l : List EntryIndex). ReadsEntries as_bytes v l c.args.cache.now new xs) c.as_slice.ensures.value c.in_ok-read.ensures.ok in
    let filled = eqb-false _ _ (sym c.is_empty.ensures ∙ c.if-is_empty.false) in
    let many = c.in_ok-entries.entries.ok.0 in
    let some : es ≡ [] → ⊥ = λ none. filled (let none_long : length es ≡ 0 = ap length none in omega (arith, many, none_long)) in
    let is : IsRunBatch c.args.group (indexes_of es) (map (λ e. e.bytes) xs) b =
    subst (λ (l : List RawMessage). IsRunBatch c.args.group (indexes_of es) (map (λ e. e.bytes) l) b) c.as_slice-3.ensures.value
    (subst (λ (l : List EntryIndex). IsRunBatch c.args.group (indexes_of l) (map (λ e. e.bytes) c.as_slice-3.result.now) b) c.as_slice-2.ensures.value c.in_ok-batch.ensures.ok) in
    let p = err_from_is_err_and c.from_residual-in_err-write_copies.result c.from_residual-in_err-write_copies.ensures.1 in
    rw (p.1, p.2) (entries_not_copied s c.args.group c.args.gate es c.in_ok-entries.ensures.ok some new xs reads b is c.in_err-write_copies.field-0.0 t (c.in_err-write_copies.ensures.err new))

pub returns-clause-ok : goal.returns-clause-ok
returns-clause-ok g c =
    let v = g.P.PipeLog.shown c.args.pipes.now in
    let s = shows v c.args.tables.now c.args.cache.now in
    let t = shows (g.P.PipeLog.shown c.write_copies.new.pipes) c.write_copies.new.tables c.read_entries.new.self in
    let es = c.in_ok-entries.entries.items in
    let new = c.read_entries.new.self in
    let xs = c.in_ok-read.read.items in
    let b = c.in_ok-batch.batch in
    let reads = subst (λ (l : List EntryIndex). ReadsEntries as_bytes v l c.args.cache.now new xs) c.as_slice.ensures.value c.in_ok-read.ensures.ok in
    let filled = eqb-false _ _ (sym c.is_empty.ensures ∙ c.if-is_empty.false) in
    let many = c.in_ok-entries.entries.ok.0 in
    let some : es ≡ [] → ⊥ = λ none. filled (let none_long : length es ≡ 0 = ap length none in omega (arith, many, none_long)) in
    let is : IsRunBatch c.args.group (indexes_of es) (map (λ e. e.bytes) xs) b =
    subst (λ (l : List RawMessage). IsRunBatch c.args.group (indexes_of es) (map (λ e. e.bytes) l) b) c.as_slice-3.ensures.value
    (subst (λ (l : List EntryIndex). IsRunBatch c.args.group (indexes_of l) (map (λ e. e.bytes) c.as_slice-3.result.now) b) c.as_slice-2.ensures.value c.in_ok-batch.ensures.ok) in
    entries_copied s c.args.group c.args.gate es c.in_ok-entries.ensures.ok some new xs reads b is t (c.in_ok-write_copies.ensures.ok new) refl

pub returns-clause-handed : goal.returns-clause-handed
returns-clause-handed g c =
    let v = g.P.PipeLog.shown c.args.pipes.now in
    let s = shows v c.args.tables.now c.args.cache.now in
    let es = c.in_ok-entries.entries.items in
    let new = c.read_entries.new.self in
    let xs = c.in_ok-read.read.items in
    let b = c.in_ok-batch.batch in
    let reads = subst (λ (l : List EntryIndex). ReadsEntries as_bytes v l c.args.cache.now new xs) c.as_slice.ensures.value c.in_ok-read.ensures.ok in
    let is : IsRunBatch c.args.group (indexes_of es) (map (λ e. e.bytes) xs) b =
    subst (λ (l : List RawMessage). IsRunBatch c.args.group (indexes_of es) (map (λ e. e.bytes) l) b) c.as_slice-3.ensures.value
    (subst (λ (l : List EntryIndex). IsRunBatch c.args.group (indexes_of l) (map (λ e. e.bytes) c.as_slice-3.result.now) b) c.as_slice-2.ensures.value c.in_ok-batch.ensures.ok) in
    let piece = subst AreOnePiece (sym is.says) (read_piece v es c.args.cache.now new xs (next_piece s c.args.group c.args.gate es c.in_ok-entries.ensures.ok new) reads) in
    copies_handed b c.args.unsynced.now c.write_copies.new.unsynced v (g.P.PipeLog.shown c.write_copies.new.pipes) piece c.in_ok-write_copies.ensures.counted

pub returns-then-is_empty-clause-handed : goal.returns-then-is_empty-clause-handed
returns-then-is_empty-clause-handed g c = none_handed c.args.unsynced.now (g.P.PipeLog.shown c.args.pipes.now)
