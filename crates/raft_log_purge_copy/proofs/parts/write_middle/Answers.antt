use Rattle.std.proofs.Common.{◌≡◌, ◌+◌, ◌-◌, ◌∙◌, ℕ, List, [], ◌∷◌, ◌++◌, take, drop, refl, sym, ap, subst, arith}
use Rattle.std.proofs.lemmas.Result.{err_from_is_err_and}
use Rattle.raft_log_record_frames.specs.declared.status.AtomicGroupStatus.TheVariants.{Middle}
use Rattle.raft_log_record_items.specs.declared.entry.EntryIndex.{EntryIndex}
use Rattle.raft_log_record_batches.specs.Batch.{Batch}
use Rattle.raft_log_purge_copy.specs.Pieces.{BuildsPiece, FailsToBuildPiece, MakeOnePiece}
use Rattle.raft_log_purge_copy.proofs.Opening.{at_shown, built_made, built_piece, built_plain, bytes, err_map, fails_shown, has_shown, marked_piece, middle_stopped, more_unmarked, more_unread, ok_map, parts_gone_on}
use Rattle.raft_log_purge_copy.proofs.Handing.{built_has_piece, marked_has_piece, one_handed_then}
use Rattle.raft_log_purge_copy.proofs.parts.write_middle.Goals as goal

-- the slice of a piece
cut : (done count : ℕ) (all : List EntryIndex) → take ((done + count) - done) (drop done all) ≡ take count (drop done all)
cut done count all = ap (λ (n : ℕ). take n (drop done all)) (let same : (done + count) - done ≡ count = omega arith in same)

-- it makes one record
piece_cut : (done count : ℕ) (all : List EntryIndex) → MakeOnePiece (take count (drop done all)) → MakeOnePiece (take ((done + count) - done) (drop done all))
piece_cut done count all one = subst MakeOnePiece (sym (cut done count all)) one

pub add-requires-clause-unmarked : goal.add-requires-clause-unmarked
add-requires-clause-unmarked g c =
    built_plain c.args.group (take ((c.args.done + c.args.count) - c.args.done) (drop c.args.done c.args.entries.now)) c.as_slice.result.now (g.P.PipeLog.shown c.args.pipes.now) c.args.cache.now c.piece_of.new.cache c.in_ok-batch.batch
    c.in_ok-batch.ensures.ok

pub returns-in_err-batch-clause-err : goal.returns-in_err-batch-clause-err
returns-in_err-batch-clause-err g c =
    let v = g.P.PipeLog.shown c.args.pipes.now in
    let all = c.args.entries.now in
    let n = c.args.builder.now.id in
    let es = take ((c.args.done + c.args.count) - c.args.done) (drop c.args.done all) in
    let error = c.in_err-batch.field-0.0 in
    let none : c.as_slice.result.now ≡ [] = c.as_slice.ensures.value ∙ c.new-none.ensures.items in
    let fails = subst (λ (l : List (List ℕ × List ℕ)). FailsToBuildPiece c.args.group es l v c.args.cache.now c.piece_of.new.cache error) none c.in_err-batch.ensures.err in
    let p = err_from_is_err_and c.from_residual.result c.from_residual.ensures.1 in
    λ parts.
    rw (p.1, p.2)
    (λ m s is has.
    fails_shown c.args.group n c.args.done parts s v v m c.args.cache.now c.piece_of.new.cache has c.in_err-batch.field-0.0
    (more_unread c.args.group n c.args.done c.args.count parts s v c.args.cache.now c.piece_of.new.cache (at_shown c.args.group n c.args.done parts s v m c.args.cache.now has) all
    es is (cut c.args.done c.args.count all) c.requires.few (piece_cut c.args.done c.args.count all c.requires.piece) [] (λ home log h. tt) error fails))

pub returns-in_err-add-clause-err : goal.returns-in_err-add-clause-err
returns-in_err-add-clause-err g c =
    let v = g.P.PipeLog.shown c.args.pipes.now in
    let all = c.args.entries.now in
    let n = c.args.builder.now.id in
    let p = err_from_is_err_and c.from_residual-in_err-add.result c.from_residual-in_err-add.ensures.1 in
    λ parts.
    rw p.1
    (λ m s is has.
    fails_shown c.args.group n c.args.done parts s v v m c.args.cache.now c.piece_of.new.cache has p.0
    (more_unmarked c.args.group n c.args.done c.args.count parts s v c.args.cache.now c.piece_of.new.cache (at_shown c.args.group n c.args.done parts s v m c.args.cache.now has) all
    (take ((c.args.done + c.args.count) - c.args.done) (drop c.args.done all)) is (cut c.args.done c.args.count all) c.requires.few p.0 p.2 c.as_slice.result.now c.in_ok-batch.batch c.in_ok-batch.ensures.ok))

pub returns-clause-ok : goal.returns-clause-ok
returns-clause-ok g c =
    let v = g.P.PipeLog.shown c.args.pipes.now in
    let w = g.P.PipeLog.shown c.write_part.new.pipes in
    let old = c.args.cache.now in
    let new = c.piece_of.new.cache in
    let all = c.args.entries.now in
    let n = c.args.builder.now.id in
    let b = c.in_ok-batch.batch in
    let es = take ((c.args.done + c.args.count) - c.args.done) (drop c.args.done all) in
    let none : c.as_slice.result.now ≡ [] = c.as_slice.ensures.value ∙ c.new-none.ensures.items in
    let built = subst (λ (l : List (List ℕ × List ℕ)). BuildsPiece c.args.group es l v old new b) none c.in_ok-batch.ensures.ok in
    λ parts.
    ok_map c.write_part.result
    (λ part wrote m s is has.
    let marked = marked_piece c.args.group ((s.tables c.args.group).first + c.args.done) n Middle (bytes c.args.group es [] v old new b built) [] b c.add.new.batch c.args.builder.now c.add.new.self
    (built_piece c.args.group es [] v old new b built (s.tables c.args.group) c.args.done c.args.count (cut c.args.done c.args.count all ∙ ap (λ l. take c.args.count (drop c.args.done l)) is))
    (built_made c.args.group es [] v old new b built (s.tables c.args.group) c.args.done c.args.count (cut c.args.done c.args.count all ∙ ap (λ l. take c.args.count (drop c.args.done l)) is)) built.keys.state refl c.in_ok-add.ensures.ok c.in_ok-add.ensures.part in
    has_shown c.args.group n c.args.done parts s v w m old new has (c.args.done + c.args.count) (parts ++ part ∷ [])
    (parts_gone_on c.args.group n c.args.done c.args.count parts s v old new (at_shown c.args.group n c.args.done parts s v m old has) all es is (cut c.args.done c.args.count all) c.requires.few c.requires.some b c.add.new.batch built marked w part wrote))
    c.write_part.ensures.ok

pub returns-clause-err : goal.returns-clause-err
returns-clause-err g c =
    let v = g.P.PipeLog.shown c.args.pipes.now in
    let w = g.P.PipeLog.shown c.write_part.new.pipes in
    let old = c.args.cache.now in
    let new = c.piece_of.new.cache in
    let all = c.args.entries.now in
    let n = c.args.builder.now.id in
    let b = c.in_ok-batch.batch in
    let es = take ((c.args.done + c.args.count) - c.args.done) (drop c.args.done all) in
    let none : c.as_slice.result.now ≡ [] = c.as_slice.ensures.value ∙ c.new-none.ensures.items in
    let built = subst (λ (l : List (List ℕ × List ℕ)). BuildsPiece c.args.group es l v old new b) none c.in_ok-batch.ensures.ok in
    λ parts.
    err_map c.write_part.result
    (λ error fails m s is has.
    let marked = marked_piece c.args.group ((s.tables c.args.group).first + c.args.done) n Middle (bytes c.args.group es [] v old new b built) [] b c.add.new.batch c.args.builder.now c.add.new.self
    (built_piece c.args.group es [] v old new b built (s.tables c.args.group) c.args.done c.args.count (cut c.args.done c.args.count all ∙ ap (λ l. take c.args.count (drop c.args.done l)) is))
    (built_made c.args.group es [] v old new b built (s.tables c.args.group) c.args.done c.args.count (cut c.args.done c.args.count all ∙ ap (λ l. take c.args.count (drop c.args.done l)) is)) built.keys.state refl c.in_ok-add.ensures.ok c.in_ok-add.ensures.part in
    fails_shown c.args.group n c.args.done parts s v w m old new has error
    (middle_stopped c.args.group n c.args.done c.args.count parts s v old new (at_shown c.args.group n c.args.done parts s v m old has) all es is (cut c.args.done c.args.count all) c.requires.few c.requires.some b c.add.new.batch built marked (piece_cut c.args.done c.args.count all c.requires.piece) error w fails))
    c.write_part.ensures.err

pub returns-clause-handed : goal.returns-clause-handed
returns-clause-handed g c =
    let v = g.P.PipeLog.shown c.args.pipes.now in
    let all = c.args.entries.now in
    let es = take ((c.args.done + c.args.count) - c.args.done) (drop c.args.done all) in
    let b = c.in_ok-batch.batch in
    let made = c.add.new.batch in
    λ most.
    one_handed_then made c.args.unsynced.now c.write_part.new.unsynced v (g.P.PipeLog.shown c.write_part.new.pipes) c.write_part.result
    (marked_has_piece b made c.args.builder.now.id Middle (ap (λ (x : Batch). x.items) c.in_ok-add.ensures.ok.1.0) (ap (λ (x : Batch). x.entries) c.in_ok-add.ensures.ok.1.0)
    (built_has_piece c.args.group es c.as_slice.result.now v c.args.cache.now c.piece_of.new.cache b c.in_ok-batch.ensures.ok (piece_cut c.args.done c.args.count all c.requires.piece)))
    c.write_part.ensures.counted
