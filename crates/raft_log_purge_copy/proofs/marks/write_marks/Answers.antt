use Rattle.std.proofs.Common.{inl, sym, ◌∙◌}
use Rattle.std.proofs.lemmas.Bool.{false≢true}
use Rattle.std.proofs.lemmas.Result.{err_from_is_err_and}
use Rattle.raft_log_record_base.specs.declared.pipe_log.FileBlockHandle.{FileBlockHandle}
use Rattle.raft_log_engine_laws.specs.EngineState.{shows}
use Rattle.raft_log_memtables.specs.Tables.{counts, shown_of}
use Rattle.raft_log_purge_copy.proofs.Carried.{says_marks}
use Rattle.raft_log_purge_copy.proofs.Marking.{marks_unmade}
use Rattle.raft_log_purge_copy.proofs.PartExits.{marks_are_refused, marks_are_written, no_marks, refused_unmade}
use Rattle.raft_log_purge_copy.proofs.Reasons.{marks_long_reason, memory_or_full_unmade, memory_reason, memory_unmade}
use Rattle.raft_log_purge_copy.proofs.marks.write_marks.Goals as goal

pub returns-in_err-batch-clause-err : goal.returns-in_err-batch-clause-err
returns-in_err-batch-clause-err g c =
    let p = err_from_is_err_and c.from_residual.result c.from_residual.ensures.1 in
    rw (p.1, p.2) (λ m owed cache.
    let s = shows (g.P.PipeLog.shown c.args.pipes.now) m cache in
    let error = c.in_err-batch.field-0.0 in
    let memory = marks_unmade m c.args.marks.now error owed c.in_err-batch.ensures.errors in
    refused_unmade error s (memory_unmade error memory) (λ home log h. inl (memory_reason home log error s s memory)))

pub returns-in_err-signed-clause-err : goal.returns-in_err-signed-clause-err
returns-in_err-signed-clause-err g c =
    let p = err_from_is_err_and c.from_residual-in_err-signed.result c.from_residual-in_err-signed.ensures.1 in
    rw (p.1, p.2) (λ m owed cache.
    let s = shows (g.P.PipeLog.shown c.args.pipes.now) m cache in
    let error = c.in_err-signed.field-0.0 in
    let says = says_marks m c.args.marks.now c.in_ok-batch.batch owed c.in_ok-batch.ensures.ok c.in_ok-batch.ensures.bare in
    refused_unmade error s (memory_or_full_unmade error _ c.in_err-signed.ensures.errors)
    (λ home log h. marks_long_reason home log error s s c.in_ok-batch.batch says c.in_err-signed.ensures.errors))

pub returns-then-is_empty-clause-ok : goal.returns-then-is_empty-clause-ok
returns-then-is_empty-clause-ok g c = λ m owed.
    let says = says_marks m c.args.marks.now c.in_ok-batch.batch owed c.in_ok-batch.ensures.ok c.in_ok-batch.ensures.bare in
    no_marks (shown_of m) c.in_ok-batch.batch (g.P.PipeLog.shown c.args.pipes.now) says (c.is_empty.ensures.0 c.if-is_empty.true)

pub returns-in_err-append-clause-err : goal.returns-in_err-append-clause-err
returns-in_err-append-clause-err g c =
    let e = c.in_err-append.ensures in
    let p = err_from_is_err_and c.from_residual-in_err-append.result c.from_residual-in_err-append.ensures.1 in
    rw (p.1, p.2) (λ m owed cache.
    let says = says_marks m c.args.marks.now c.in_ok-batch.batch owed c.in_ok-batch.ensures.ok c.in_ok-batch.ensures.bare in
    marks_are_refused (shown_of m) c.in_ok-batch.batch c.in_ok-signed.signed.batch (g.P.PipeLog.shown c.args.pipes.now) (g.P.PipeLog.shown c.append.new.self) says
    (λ none. false≢true (sym c.if-is_empty.false ∙ c.is_empty.ensures.1 none)) c.in_ok-signed.ensures.ok e.later {A = FileBlockHandle} c.in_err-append.field-0.0 (counts m) cache e.fails e.err e.range e.refusal)

pub returns-clause-ok : goal.returns-clause-ok
returns-clause-ok g c =
    let e = c.in_ok-append.ensures in
    λ m owed.
    let says = says_marks m c.args.marks.now c.in_ok-batch.batch owed c.in_ok-batch.ensures.ok c.in_ok-batch.ensures.bare in
    marks_are_written (shown_of m) c.in_ok-batch.batch c.in_ok-signed.signed.batch (g.P.PipeLog.shown c.args.pipes.now) (g.P.PipeLog.shown c.append.new.self) says
    (λ none. false≢true (sym c.if-is_empty.false ∙ c.is_empty.ensures.1 none)) c.in_ok-signed.ensures.ok e.later c.in_ok-append.field-0 e.fails e.ok
