use Rattle.std.proofs.Common.{◌≡◌, ◌+◌, ℕ, List, [], ◌∷◌, ◌++◌, drop, sym, ap, subst, ◌∙◌}
use Rattle.std.proofs.lemmas.Result.{err_from_is_err_and}
use Rattle.raft_log_record_items.specs.declared.entry.EntryIndex.{EntryIndex}
use Rattle.raft_log_engine_laws.specs.EngineState.{shows}
use Rattle.raft_log_purge_copy.specs.declared.parts.RestatedPart.{RestatedPart}
use Rattle.raft_log_purge_copy.specs.GroupParts.{HasParts}
use Rattle.raft_log_engine_laws.specs.Parts.{parts_of}
use Rattle.raft_log_purge_copy.specs.Pieces.{MakeOnePiece}
use Rattle.raft_log_purge_copy.specs.Promised.{AreOfOne}
use Rattle.raft_log_purge_copy.proofs.Together.{parts_of_one}
use Rattle.raft_log_purge_copy.proofs.Closing.{ended_then, not_ended_then, not_restated_then, restated_then}
use Rattle.raft_log_purge_copy.proofs.Opening.{given_up}
use Rattle.raft_log_purge_copy.proofs.Handing.{handed_on, last_handed}
use Rattle.raft_log_purge_copy.proofs.restating.restate_in_parts.Goals as goal

pub returns-in_err-first-clause-err : goal.returns-in_err-first-clause-err
returns-in_err-first-clause-err g c =
    let p = err_from_is_err_and c.from_residual.result c.from_residual.ensures.1 in
    rw (p.1, p.2) (λ stands. c.in_err-first.ensures.err c.args.tables.now stands.entries c.requires.piece)

pub returns-in_err-push-clause-err : goal.returns-in_err-push-clause-err
returns-in_err-push-clause-err g c =
    let p = err_from_is_err_and c.from_residual-in_err-push.result c.from_residual-in_err-push.ensures.1 in
    let m = c.args.tables.now in
    let s = shows (g.P.PipeLog.shown c.args.pipes.now) m c.args.cache.now in
    rw p.1
    (λ stands.
    given_up c.args.group c.args.builder.now.id c.args.count (c.in_ok-first.first ∷ []) s (shows (g.P.PipeLog.shown c.begin_parts.new.pipes) m c.begin_parts.new.cache) (c.in_ok-first.ensures.ok m stands.entries) p.0 p.2)

pub returns-in_err-done-clause-err : goal.returns-in_err-done-clause-err
returns-in_err-done-clause-err g c =
    let p = err_from_is_err_and c.from_residual-in_err-done.result c.from_residual-in_err-done.ensures.1 in
    let m = c.args.tables.now in
    let s = shows (g.P.PipeLog.shown c.args.pipes.now) m c.args.cache.now in
    let one = shows (g.P.PipeLog.shown c.begin_parts.new.pipes) m c.begin_parts.new.cache in
    let pushed : c.push.new.self.items ≡ c.in_ok-first.first ∷ [] = c.in_ok-push.ensures.items ∙ ap (λ (l : List RestatedPart). l ++ c.in_ok-first.first ∷ []) c.new-parts.ensures.items in
    rw (p.1, p.2)
    (λ stands.
    c.in_err-done.ensures.err m s stands.entries
    (subst (λ (l : List RestatedPart). HasParts c.args.group c.begin_parts.new.builder.id c.args.count l s one) (sym pushed)
    (subst (λ (n : ℕ). HasParts c.args.group n c.args.count (c.in_ok-first.first ∷ []) s one) (sym c.in_ok-first.ensures.same) (c.in_ok-first.ensures.ok m stands.entries))))

pub returns-in_err-batch-clause-err : goal.returns-in_err-batch-clause-err
returns-in_err-batch-clause-err g c =
    let p = err_from_is_err_and c.from_residual-in_err-batch.result c.from_residual-in_err-batch.ensures.1 in
    let m = c.args.tables.now in
    let s = shows (g.P.PipeLog.shown c.args.pipes.now) m c.args.cache.now in
    let one = shows (g.P.PipeLog.shown c.begin_parts.new.pipes) m c.begin_parts.new.cache in
    let two = shows (g.P.PipeLog.shown c.write_middles.new.pipes) m c.write_middles.new.cache in
    let pushed : c.push.new.self.items ≡ c.in_ok-first.first ∷ [] = c.in_ok-push.ensures.items ∙ ap (λ (l : List RestatedPart). l ++ c.in_ok-first.first ∷ []) c.new-parts.ensures.items in
    rw (p.1, p.2)
    (λ stands.
    c.in_err-batch.ensures.err c.write_middles.new.parts.items m s stands.entries c.in_ok-done.ensures.last stands.keys
    (subst (λ (n : ℕ). HasParts c.args.group n c.in_ok-done.done c.write_middles.new.parts.items s two) (sym c.in_ok-done.ensures.same)
    (c.in_ok-done.ensures.ok m s stands.entries
    (subst (λ (l : List RestatedPart). HasParts c.args.group c.begin_parts.new.builder.id c.args.count l s one) (sym pushed)
    (subst (λ (n : ℕ). HasParts c.args.group n c.args.count (c.in_ok-first.first ∷ []) s one) (sym c.in_ok-first.ensures.same) (c.in_ok-first.ensures.ok m stands.entries))))))

pub returns-clause-ok : goal.returns-clause-ok
returns-clause-ok g c =
    let m = c.args.tables.now in
    let s = shows (g.P.PipeLog.shown c.args.pipes.now) m c.args.cache.now in
    let one = shows (g.P.PipeLog.shown c.begin_parts.new.pipes) m c.begin_parts.new.cache in
    let v = g.P.PipeLog.shown c.write_middles.new.pipes in
    let two = shows v m c.write_middles.new.cache in
    let w = g.P.PipeLog.shown c.end_parts.new.pipes in
    let parts = c.write_middles.new.parts.items in
    let pushed : c.push.new.self.items ≡ c.in_ok-first.first ∷ [] = c.in_ok-push.ensures.items ∙ ap (λ (l : List RestatedPart). l ++ c.in_ok-first.first ∷ []) c.new-parts.ensures.items in
    restated_then c.end_parts.result c.args.group c.args.entries.now c.args.pairs.now s (shows w c.end_parts.new.tables c.last_batch.new.cache)
    (λ stands.
    let made =
    c.in_ok-batch.ensures.ok parts m s stands.entries
    (subst (λ (n : ℕ). HasParts c.args.group n c.in_ok-done.done parts s two) (sym c.in_ok-done.ensures.same)
    (c.in_ok-done.ensures.ok m s stands.entries
    (subst (λ (l : List RestatedPart). HasParts c.args.group c.begin_parts.new.builder.id c.args.count l s one) (sym pushed)
    (subst (λ (n : ℕ). HasParts c.args.group n c.args.count (c.in_ok-first.first ∷ []) s one) (sym c.in_ok-first.ensures.same) (c.in_ok-first.ensures.ok m stands.entries))))) in
    ended_then c.end_parts.result c.args.group c.write_middles.new.builder.id c.in_ok-done.done c.as_slice.result.now c.args.pairs.now c.in_ok-batch.batch s v w m c.end_parts.new.tables c.last_batch.new.cache
    (subst (λ (l : List RestatedPart). HasParts c.args.group c.write_middles.new.builder.id c.in_ok-done.done l s (shows v m c.last_batch.new.cache)) (sym c.as_slice.ensures.value) made.0) made.1 stands.keys c.end_parts.ensures.ok)

pub returns-clause-err : goal.returns-clause-err
returns-clause-err g c =
    let m = c.args.tables.now in
    let s = shows (g.P.PipeLog.shown c.args.pipes.now) m c.args.cache.now in
    let one = shows (g.P.PipeLog.shown c.begin_parts.new.pipes) m c.begin_parts.new.cache in
    let v = g.P.PipeLog.shown c.write_middles.new.pipes in
    let two = shows v m c.write_middles.new.cache in
    let w = g.P.PipeLog.shown c.end_parts.new.pipes in
    let parts = c.write_middles.new.parts.items in
    let pushed : c.push.new.self.items ≡ c.in_ok-first.first ∷ [] = c.in_ok-push.ensures.items ∙ ap (λ (l : List RestatedPart). l ++ c.in_ok-first.first ∷ []) c.new-parts.ensures.items in
    not_restated_then c.end_parts.result c.args.group c.args.entries.now c.args.pairs.now s (shows w c.end_parts.new.tables c.last_batch.new.cache)
    (λ stands.
    let made =
    c.in_ok-batch.ensures.ok parts m s stands.entries
    (subst (λ (n : ℕ). HasParts c.args.group n c.in_ok-done.done parts s two) (sym c.in_ok-done.ensures.same)
    (c.in_ok-done.ensures.ok m s stands.entries
    (subst (λ (l : List RestatedPart). HasParts c.args.group c.begin_parts.new.builder.id c.args.count l s one) (sym pushed)
    (subst (λ (n : ℕ). HasParts c.args.group n c.args.count (c.in_ok-first.first ∷ []) s one) (sym c.in_ok-first.ensures.same) (c.in_ok-first.ensures.ok m stands.entries))))) in
    not_ended_then c.end_parts.result c.args.group c.write_middles.new.builder.id c.in_ok-done.done c.as_slice.result.now c.args.pairs.now c.in_ok-batch.batch s v w m c.end_parts.new.tables c.last_batch.new.cache
    (subst (λ (l : List RestatedPart). HasParts c.args.group c.write_middles.new.builder.id c.in_ok-done.done l s (shows v m c.last_batch.new.cache)) (sym c.as_slice.ensures.value) made.0)
    (subst (λ (es : List EntryIndex). MakeOnePiece (drop c.in_ok-done.done es)) stands.entries c.in_ok-done.ensures.last) made.1 stands.keys c.end_parts.ensures.err)

pub returns-clause-handed : goal.returns-clause-handed
returns-clause-handed g c =
    let v = g.P.PipeLog.shown c.args.pipes.now in
    let one = g.P.PipeLog.shown c.begin_parts.new.pipes in
    let two = g.P.PipeLog.shown c.write_middles.new.pipes in
    λ most.
    last_handed c.in_ok-batch.batch c.args.unsynced.now c.write_middles.new.unsynced c.end_parts.new.unsynced v two (g.P.PipeLog.shown c.end_parts.new.pipes) c.end_parts.result (c.in_ok-batch.ensures.piece c.in_ok-done.ensures.last)
    (handed_on c.args.unsynced.now c.begin_parts.new.unsynced c.write_middles.new.unsynced v one two (c.in_ok-first.ensures.handed most) c.in_ok-done.ensures.handed) c.end_parts.ensures.counted

pub returns-clause-moves : goal.returns-clause-moves
returns-clause-moves g c =
    let m = c.args.tables.now in
    let s = shows (g.P.PipeLog.shown c.args.pipes.now) m c.args.cache.now in
    let one = shows (g.P.PipeLog.shown c.begin_parts.new.pipes) m c.begin_parts.new.cache in
    let two = shows (g.P.PipeLog.shown c.write_middles.new.pipes) m c.write_middles.new.cache in
    let parts = c.write_middles.new.parts.items in
    let b = c.in_ok-batch.batch in
    let pushed : c.push.new.self.items ≡ c.in_ok-first.first ∷ [] = c.in_ok-push.ensures.items ∙ ap (λ (l : List RestatedPart). l ++ c.in_ok-first.first ∷ []) c.new-parts.ensures.items in
    λ entries.
    let made =
    c.in_ok-batch.ensures.ok parts m s entries
    (subst (λ (n : ℕ). HasParts c.args.group n c.in_ok-done.done parts s two) (sym c.in_ok-done.ensures.same)
    (c.in_ok-done.ensures.ok m s entries
    (subst (λ (l : List RestatedPart). HasParts c.args.group c.begin_parts.new.builder.id c.args.count l s one) (sym pushed)
    (subst (λ (n : ℕ). HasParts c.args.group n c.args.count (c.in_ok-first.first ∷ []) s one) (sym c.in_ok-first.ensures.same) (c.in_ok-first.ensures.ok m entries))))) in
    let (has, last) = made in
    c.end_parts.ensures.moves
    (subst (λ (l : List RestatedPart). AreOfOne l b.items) (sym c.as_slice.ensures.value)
    (parts_of_one c.args.group (s.tables c.args.group).first has.pieces parts (parts_of has.group) has.kept has.are ((s.tables c.args.group).first + c.in_ok-done.done) last.bytes c.args.pairs.now b last.is.piece last.some))
