use Rattle.std.proofs.Common.{◌≡◌, ◌+◌, ◌∙◌, ℕ, List, [], take, refl, ap, subst}
use Rattle.std.proofs.lemmas.Result.{err_from_is_err_and}
use Rattle.raft_log_record_frames.specs.declared.status.AtomicGroupStatus.TheVariants.{Begin}
use Rattle.raft_log_engine_laws.specs.EngineState.{shows}
use Rattle.raft_log_record_batches.specs.Batch.{Batch}
use Rattle.raft_log_purge_copy.specs.Pieces.{BuildsPiece, FailsToBuildPiece}
use Rattle.raft_log_purge_copy.proofs.Opening.{begin_stopped, begin_unmarked, begin_unread, built_made, built_piece, built_plain, bytes, err_map, marked_piece, ok_map, parts_begun}
use Rattle.raft_log_purge_copy.proofs.Handing.{built_has_piece, marked_has_piece, one_handed_then, piece_of_count}
use Rattle.raft_log_purge_copy.proofs.parts.begin_parts.Goals as goal

pub begin-requires-clause-unmarked : goal.begin-requires-clause-unmarked
begin-requires-clause-unmarked g c =
    built_plain c.args.group (take c.args.count c.args.entries.now) c.as_slice.result.now (g.P.PipeLog.shown c.args.pipes.now) c.args.cache.now c.piece_of.new.cache c.in_ok-batch.batch c.in_ok-batch.ensures.ok

pub returns-in_err-batch-clause-err : goal.returns-in_err-batch-clause-err
returns-in_err-batch-clause-err g c =
    let v = g.P.PipeLog.shown c.args.pipes.now in
    let es = take c.args.count c.args.entries.now in
    let error = c.in_err-batch.field-0.0 in
    let none : c.as_slice.result.now ≡ [] = c.as_slice.ensures.value ∙ c.new-none.ensures.items in
    let fails = subst (λ (l : List (List ℕ × List ℕ)). FailsToBuildPiece c.args.group es l v c.args.cache.now c.piece_of.new.cache error) none c.in_err-batch.ensures.err in
    let p = err_from_is_err_and c.from_residual.result c.from_residual.ensures.1 in
    rw (p.1, p.2)
    (λ m is one.
    begin_unread c.args.group c.args.count (shows v m c.args.cache.now) c.piece_of.new.cache c.args.entries.now es is refl one [] (λ home log h. tt) error fails)

pub returns-in_err-begin-clause-err : goal.returns-in_err-begin-clause-err
returns-in_err-begin-clause-err g c =
    let v = g.P.PipeLog.shown c.args.pipes.now in
    let p = err_from_is_err_and c.from_residual-in_err-begin.result c.from_residual-in_err-begin.ensures.1 in
    rw p.1
    (λ m is one.
    begin_unmarked c.args.group c.args.count (shows v m c.args.cache.now) c.piece_of.new.cache c.args.entries.now (take c.args.count c.args.entries.now) is refl p.0 p.2 c.as_slice.result.now c.in_ok-batch.batch c.in_ok-batch.ensures.ok)

pub returns-clause-ok : goal.returns-clause-ok
returns-clause-ok g c =
    let v = g.P.PipeLog.shown c.args.pipes.now in
    let new = c.piece_of.new.cache in
    let all = c.args.entries.now in
    let es = take c.args.count all in
    let b = c.in_ok-batch.batch in
    let none : c.as_slice.result.now ≡ [] = c.as_slice.ensures.value ∙ c.new-none.ensures.items in
    let built = subst (λ (l : List (List ℕ × List ℕ)). BuildsPiece c.args.group es l v c.args.cache.now new b) none c.in_ok-batch.ensures.ok in
    ok_map c.write_part.result
    (λ part wrote m is.
    let s = shows v m c.args.cache.now in
    let marked = marked_piece c.args.group ((s.tables c.args.group).first + 0) c.args.builder.now.id Begin (bytes c.args.group es [] v c.args.cache.now new b built) [] b c.begin.new.batch c.args.builder.now c.begin.new.self
    (built_piece c.args.group es [] v c.args.cache.now new b built (s.tables c.args.group) 0 c.args.count (ap (take c.args.count) is))
    (built_made c.args.group es [] v c.args.cache.now new b built (s.tables c.args.group) 0 c.args.count (ap (take c.args.count) is)) built.keys.state refl c.in_ok-begin.ensures.ok c.in_ok-begin.ensures.part in
    parts_begun c.args.group c.args.builder.now.id c.args.count s new all es is refl c.requires.few c.requires.some b c.begin.new.batch built marked (g.P.PipeLog.shown c.write_part.new.pipes) part wrote)
    c.write_part.ensures.ok

pub returns-clause-err : goal.returns-clause-err
returns-clause-err g c =
    let v = g.P.PipeLog.shown c.args.pipes.now in
    let new = c.piece_of.new.cache in
    let all = c.args.entries.now in
    let es = take c.args.count all in
    let b = c.in_ok-batch.batch in
    let none : c.as_slice.result.now ≡ [] = c.as_slice.ensures.value ∙ c.new-none.ensures.items in
    let built = subst (λ (l : List (List ℕ × List ℕ)). BuildsPiece c.args.group es l v c.args.cache.now new b) none c.in_ok-batch.ensures.ok in
    err_map c.write_part.result
    (λ error fails m is one.
    let s = shows v m c.args.cache.now in
    let marked = marked_piece c.args.group ((s.tables c.args.group).first + 0) c.args.builder.now.id Begin (bytes c.args.group es [] v c.args.cache.now new b built) [] b c.begin.new.batch c.args.builder.now c.begin.new.self
    (built_piece c.args.group es [] v c.args.cache.now new b built (s.tables c.args.group) 0 c.args.count (ap (take c.args.count) is))
    (built_made c.args.group es [] v c.args.cache.now new b built (s.tables c.args.group) 0 c.args.count (ap (take c.args.count) is)) built.keys.state refl c.in_ok-begin.ensures.ok c.in_ok-begin.ensures.part in
    begin_stopped c.args.group c.args.builder.now.id c.args.count s new all es is refl c.requires.few c.requires.some b c.begin.new.batch built marked one error (g.P.PipeLog.shown c.write_part.new.pipes) fails)
    c.write_part.ensures.err

pub returns-clause-handed : goal.returns-clause-handed
returns-clause-handed g c =
    let v = g.P.PipeLog.shown c.args.pipes.now in
    let b = c.in_ok-batch.batch in
    let made = c.begin.new.batch in
    λ most.
    one_handed_then made c.args.unsynced.now c.write_part.new.unsynced v (g.P.PipeLog.shown c.write_part.new.pipes) c.write_part.result
    (marked_has_piece b made c.args.builder.now.id Begin (ap (λ (x : Batch). x.items) c.in_ok-begin.ensures.ok.1.0) (ap (λ (x : Batch). x.entries) c.in_ok-begin.ensures.ok.1.0)
    (built_has_piece c.args.group (take c.args.count c.args.entries.now) c.as_slice.result.now v c.args.cache.now c.piece_of.new.cache b c.in_ok-batch.ensures.ok (piece_of_count c.args.count c.args.entries.now most)))
    c.write_part.ensures.counted
