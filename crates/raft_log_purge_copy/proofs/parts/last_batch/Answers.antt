use Rattle.std.proofs.Common.{◌+◌, ◌-◌, ℕ, List, None, length, take, drop, refl, sym, ap, subst, arith, length-drop}
use Rattle.std.proofs.lemmas.List.{take_all}
use Rattle.std.proofs.lemmas.Result.{err_from_is_err_and}
use Rattle.raft_log_record_frames.specs.declared.status.AtomicGroupStatus.TheVariants.{End}
use Rattle.raft_log_record_items.specs.declared.entry.EntryIndex.{EntryIndex}
use Rattle.raft_log_record_batches.specs.Batch.{Batch}
use Rattle.raft_log_purge_copy.specs.Pieces.{MakeOnePiece}
use Rattle.raft_log_purge_copy.proofs.Reasons.{values_in}
use Rattle.raft_log_purge_copy.proofs.Opening.{at_shown, built_made, built_piece, built_plain, bytes, fails_shown, has_shown, last_made, marked_piece, more_unmarked, more_unread}
use Rattle.raft_log_purge_copy.proofs.Handing.{built_has_piece, marked_has_piece}
use Rattle.raft_log_purge_copy.proofs.parts.last_batch.Goals as goal

-- all that is left is handed on
rest_piece : (done : ℕ) (all : List EntryIndex) → MakeOnePiece (drop done all) → MakeOnePiece (take (length all - done) (drop done all))
rest_piece done all one = subst MakeOnePiece (sym (take_all (length all - done) (drop done all) (omega (arith, length-drop done all)))) one

pub end-requires-clause-unmarked : goal.end-requires-clause-unmarked
end-requires-clause-unmarked g c =
    built_plain c.args.group (take (length c.args.entries.now - c.args.done) (drop c.args.done c.args.entries.now)) c.args.pairs.now (g.P.PipeLog.shown c.args.pipes.now) c.args.cache.now c.piece_of.new.cache c.in_ok-batch.batch c.in_ok-batch.ensures.ok

pub returns-in_err-batch-clause-err : goal.returns-in_err-batch-clause-err
returns-in_err-batch-clause-err g c =
    let v = g.P.PipeLog.shown c.args.pipes.now in
    let all = c.args.entries.now in
    let n = c.args.builder.now.id in
    let within = c.requires.within in
    let p = err_from_is_err_and c.from_residual.result c.from_residual.ensures.1 in
    λ parts.
    rw (p.1, p.2)
    (λ m s is one lists has.
    fails_shown c.args.group n c.args.done parts s v v m c.args.cache.now c.piece_of.new.cache has c.in_err-batch.field-0.0
    (more_unread c.args.group n c.args.done (length all - c.args.done) parts s v c.args.cache.now c.piece_of.new.cache (at_shown c.args.group n c.args.done parts s v m c.args.cache.now has) all (take (length all - c.args.done) (drop c.args.done all)) is refl
    (omega (arith, within)) (rest_piece c.args.done all one) c.args.pairs.now (λ home log h. values_in home log s h c.args.group None c.args.pairs.now lists) c.in_err-batch.field-0.0 c.in_err-batch.ensures.err))

pub returns-in_err-end-clause-err : goal.returns-in_err-end-clause-err
returns-in_err-end-clause-err g c =
    let v = g.P.PipeLog.shown c.args.pipes.now in
    let all = c.args.entries.now in
    let n = c.args.builder.now.id in
    let within = c.requires.within in
    let p = err_from_is_err_and c.from_residual-in_err-end.result c.from_residual-in_err-end.ensures.1 in
    λ parts.
    rw p.1
    (λ m s is one lists has.
    fails_shown c.args.group n c.args.done parts s v v m c.args.cache.now c.piece_of.new.cache has p.0
    (more_unmarked c.args.group n c.args.done (length all - c.args.done) parts s v c.args.cache.now c.piece_of.new.cache (at_shown c.args.group n c.args.done parts s v m c.args.cache.now has) all (take (length all - c.args.done) (drop c.args.done all)) is refl
    (omega (arith, within)) p.0 p.2 c.args.pairs.now c.in_ok-batch.batch c.in_ok-batch.ensures.ok))

pub returns-clause-ok : goal.returns-clause-ok
returns-clause-ok g c =
    let v = g.P.PipeLog.shown c.args.pipes.now in
    let old = c.args.cache.now in
    let new = c.piece_of.new.cache in
    let all = c.args.entries.now in
    let n = c.args.builder.now.id in
    let b = c.in_ok-batch.batch in
    let count = length all - c.args.done in
    let es = take count (drop c.args.done all) in
    let built = c.in_ok-batch.ensures.ok in
    let within = c.requires.within in
    λ parts m s is has.
    let marked = marked_piece c.args.group ((s.tables c.args.group).first + c.args.done) n End (bytes c.args.group es c.args.pairs.now v old new b built) c.args.pairs.now b c.end.new.batch c.args.builder.now c.end.new.self
    (built_piece c.args.group es c.args.pairs.now v old new b built (s.tables c.args.group) c.args.done count (ap (λ l. take count (drop c.args.done l)) is))
    (built_made c.args.group es c.args.pairs.now v old new b built (s.tables c.args.group) c.args.done count (ap (λ l. take count (drop c.args.done l)) is)) built.keys.state refl c.in_ok-end.ensures.ok c.in_ok-end.ensures.part in
    let made = last_made c.args.group n c.args.done count parts s v old new (at_shown c.args.group n c.args.done parts s v m old has) all es is refl (omega (arith, within)) (omega (arith, within)) c.args.pairs.now b c.end.new.batch built marked in
    (has_shown c.args.group n c.args.done parts s v v m old new has c.args.done parts made.0, made.1)

pub returns-clause-piece : goal.returns-clause-piece
returns-clause-piece g c =
    let v = g.P.PipeLog.shown c.args.pipes.now in
    let all = c.args.entries.now in
    let b = c.in_ok-batch.batch in
    λ one.
    marked_has_piece b c.end.new.batch c.args.builder.now.id End (ap (λ (x : Batch). x.items) c.in_ok-end.ensures.ok.1.0) (ap (λ (x : Batch). x.entries) c.in_ok-end.ensures.ok.1.0)
    (built_has_piece c.args.group (take (length all - c.args.done) (drop c.args.done all)) c.args.pairs.now v c.args.cache.now c.piece_of.new.cache b c.in_ok-batch.ensures.ok (rest_piece c.args.done all one))
