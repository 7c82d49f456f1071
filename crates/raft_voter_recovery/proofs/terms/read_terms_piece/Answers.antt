use Rattle.std.proofs.Common.{◌+◌, ◌∙◌, sym, arith}
use Rattle.std.proofs.lemmas.Result.{err_from_is_err_and}
use Rattle.raft_log_engine_core.specs.Reads.{shows_of}
use Rattle.raft_voter_durability_laws.proofs.Public.{engines_are_counted}
use Rattle.raft_voter_recovery.proofs.TermsRead.{head_of, heads_fetched, heads_total, terms_added, terms_unread}
use Rattle.raft_voter_recovery.proofs.Refusing.{unfetched_for, unfetched_stays}
use Rattle.raft_voter_recovery.proofs.Telling.{placed_below}
use Rattle.raft_voter_recovery.proofs.terms.read_terms_piece.Goals as goal

pub push_terms-requires : goal.push_terms-requires
push_terms-requires g c =
    let s = shows_of g.P.PipeLog.shown c.args.engine.now in
    let t = shows_of g.P.PipeLog.shown c.fetch_entries_to.new.self in
    let to = c.piece_end-to.result in
    let inside = placed_below (s.tables c.args.group) c.args.from to c.args.end c.requires.placed c.piece_end-to.ensures.some c.piece_end-to.ensures.within in
    let many = heads_fetched s t c.args.group c.args.from to c.in-Ok.field-0 _ c.new-heads.result.items c.fetch_entries_to.new.vec.items c.as_slice.result.now c.new-heads.ensures.items c.as_slice.ensures.value c.in-Ok.ensures.ok
    (engines_are_counted (g.P.PipeLog.shown c.args.engine.now.pipes) c.args.engine.now.tables c.args.engine.now.cache) c.piece_end-to.ensures.some inside in
    omega (arith, many.1, c.piece_end-to.ensures.within, c.requires.small)

pub returns-in_err-push_terms-in-Ok-clause-err : goal.returns-in_err-push_terms-in-Ok-clause-err
returns-in_err-push_terms-in-Ok-clause-err g c =
    let p = err_from_is_err_and c.from_residual.result c.from_residual.ensures.1 in
    rw (p.1, p.2) (terms_unread (shows_of g.P.PipeLog.shown c.args.engine.now) (shows_of g.P.PipeLog.shown c.fetch_entries_to.new.self) c.args.group c.args.from c.piece_end-to.result c.in-Ok.field-0 _ c.new-heads.result.items
    c.fetch_entries_to.new.vec.items c.as_slice.result.now c.new-heads.ensures.items c.as_slice.ensures.value c.in-Ok.ensures.ok c.in_err-push_terms-in-Ok.field-0.0 c.in_err-push_terms-in-Ok.ensures.err)

pub returns-in-Ok-clause-ok : goal.returns-in-Ok-clause-ok
returns-in-Ok-clause-ok g c =
    let s = shows_of g.P.PipeLog.shown c.args.engine.now in
    let t = shows_of g.P.PipeLog.shown c.fetch_entries_to.new.self in
    let to = c.piece_end-to.result in
    let inside = placed_below (s.tables c.args.group) c.args.from to c.args.end c.requires.placed c.piece_end-to.ensures.some c.piece_end-to.ensures.within in
    terms_added s t c.args.group c.args.from to c.in-Ok.field-0 _ c.new-heads.result.items c.fetch_entries_to.new.vec.items c.as_slice.result.now c.new-heads.ensures.items c.as_slice.ensures.value c.in-Ok.ensures.ok
    c.args.end _ c.args.outline.now.voter c.push_terms.new.outline.voter c.piece_end-to.ensures.within
    (engines_are_counted (g.P.PipeLog.shown c.args.engine.now.pipes) c.args.engine.now.tables c.args.engine.now.cache) c.piece_end-to.ensures.some inside c.in_ok-push_terms-in-Ok.ensures.ok (c.len.ensures ∙ sym c.as_slice.ensures.len)

pub returns-clause-err : goal.returns-clause-err
returns-clause-err g c =
    let s = shows_of g.P.PipeLog.shown c.args.engine.now in
    unfetched_for head_of heads_total c.args.group c.args.from c.piece_end-to.result c.in-Err.refusal c.from_refusal.result (shows_of g.P.PipeLog.shown c.args.engine.now) (shows_of g.P.PipeLog.shown c.fetch_entries_to.new.self) c.from_refusal.ensures
    (placed_below (s.tables c.args.group) c.args.from c.piece_end-to.result c.args.end c.requires.placed c.piece_end-to.ensures.some c.piece_end-to.ensures.within) c.in-Err.ensures.err

pub returns-clause-stays : goal.returns-clause-stays
returns-clause-stays g c =
    unfetched_stays head_of heads_total c.args.group c.args.from c.piece_end-to.result c.in-Err.refusal (shows_of g.P.PipeLog.shown c.args.engine.now) (shows_of g.P.PipeLog.shown c.fetch_entries_to.new.self) c.in-Err.ensures.err
