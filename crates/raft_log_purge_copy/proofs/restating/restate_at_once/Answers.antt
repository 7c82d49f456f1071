use Rattle.std.proofs.Common.{List, sym, subst, ◌∙◌}
use Rattle.std.proofs.lemmas.Bool.{false≢true}
use Rattle.std.proofs.lemmas.Result.{err_from_is_err_and}
use Rattle.raft_log_purge_copy.specs.declared.parts.RestatedPart.{RestatedPart}
use Rattle.raft_log_purge_copy.specs.Promised.{AreOfOne}
use Rattle.raft_log_purge_copy.specs.Taking.{WritesLast}
use Rattle.raft_log_purge_copy.proofs.Together.{one_of_one}
use Rattle.raft_log_purge_copy.proofs.Once.{once_nothing, once_refused, once_restated, once_unread}
use Rattle.raft_log_purge_copy.proofs.Handing.{built_has_piece, none_handed, one_handed}
use Rattle.raft_log_purge_copy.proofs.restating.restate_at_once.Goals as goal

pub returns-in_err-batch-clause-err : goal.returns-in_err-batch-clause-err
returns-in_err-batch-clause-err g c =
    let p = err_from_is_err_and c.from_residual.result c.from_residual.ensures.1 in
    rw (p.1, p.2)
    (λ stands. once_unread c.args.group c.args.entries.now c.args.pairs.now (g.P.PipeLog.shown c.args.pipes.now) c.args.tables.now c.args.cache.now c.piece_of.new.cache stands c.requires c.in_err-batch.field-0.0 c.in_err-batch.ensures.err)

pub returns-then-is_empty-clause-ok : goal.returns-then-is_empty-clause-ok
returns-then-is_empty-clause-ok g c =
    λ stands.
    once_nothing c.args.group c.args.entries.now c.args.pairs.now (g.P.PipeLog.shown c.args.pipes.now) c.args.tables.now c.args.cache.now c.piece_of.new.cache stands c.in_ok-batch.batch c.in_ok-batch.ensures.ok (c.is_empty.ensures.0 c.if-is_empty.true)

pub returns-in_err-write_last-clause-err : goal.returns-in_err-write_last-clause-err
returns-in_err-write_last-clause-err g c =
    let p = err_from_is_err_and c.from_residual-in_err-write_last.result c.from_residual-in_err-write_last.ensures.1 in
    rw (p.1, p.2)
    (λ stands.
    once_refused c.args.group c.args.entries.now c.args.pairs.now (g.P.PipeLog.shown c.args.pipes.now) c.args.tables.now c.args.cache.now c.piece_of.new.cache stands c.in_ok-batch.batch c.in_ok-batch.ensures.ok
    (λ none. false≢true (sym c.if-is_empty.false ∙ c.is_empty.ensures.1 none)) c.requires c.in_err-write_last.field-0.0 (g.P.PipeLog.shown c.write_last.new.pipes) c.write_last.new.tables c.in_err-write_last.ensures.err)

pub returns-clause-ok : goal.returns-clause-ok
returns-clause-ok g c =
    let v = g.P.PipeLog.shown c.args.pipes.now in
    let w = g.P.PipeLog.shown c.write_last.new.pipes in
    let b = c.in_ok-batch.batch in
    let block = c.in_ok-write_last.field-0 in
    let wrote = subst (λ (l : List RestatedPart). WritesLast l b block v c.args.tables.now w c.write_last.new.tables) (c.as_slice.ensures.value ∙ c.new-none.ensures.items) c.in_ok-write_last.ensures.ok in
    λ stands.
    once_restated c.args.group c.args.entries.now c.args.pairs.now v c.args.tables.now c.args.cache.now c.piece_of.new.cache stands b c.in_ok-batch.ensures.ok (λ none. false≢true (sym c.if-is_empty.false ∙ c.is_empty.ensures.1 none)) block w
    c.write_last.new.tables wrote

pub returns-then-is_empty-clause-handed : goal.returns-then-is_empty-clause-handed
returns-then-is_empty-clause-handed g c = none_handed c.args.unsynced.now (g.P.PipeLog.shown c.args.pipes.now)

pub returns-clause-handed : goal.returns-clause-handed
returns-clause-handed g c =
    let v = g.P.PipeLog.shown c.args.pipes.now in
    let b = c.in_ok-batch.batch in
    one_handed b c.args.unsynced.now c.write_last.new.unsynced v (g.P.PipeLog.shown c.write_last.new.pipes)
    (built_has_piece c.args.group c.args.entries.now c.args.pairs.now v c.args.cache.now c.piece_of.new.cache b c.in_ok-batch.ensures.ok c.requires) c.in_ok-write_last.ensures.counted

pub returns-in_err-write_last-clause-moves : goal.returns-in_err-write_last-clause-moves
returns-in_err-write_last-clause-moves g c =
    let p = err_from_is_err_and c.from_residual-in_err-write_last.result c.from_residual-in_err-write_last.ensures.1 in
    let b = c.in_ok-batch.batch in
    let one = subst (λ (l : List RestatedPart). AreOfOne l b.items) (sym (c.as_slice.ensures.value ∙ c.new-none.ensures.items)) (one_of_one b.items) in
    rw p.1 (λ alive none. c.in_err-write_last.ensures.moves one alive none)

pub returns-clause-moves : goal.returns-clause-moves
returns-clause-moves g c =
    let b = c.in_ok-batch.batch in
    let one = subst (λ (l : List RestatedPart). AreOfOne l b.items) (sym (c.as_slice.ensures.value ∙ c.new-none.ensures.items)) (one_of_one b.items) in
    λ alive none. c.in_ok-write_last.ensures.moves one tt none
