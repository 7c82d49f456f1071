use Rattle.std.proofs.Common.{inl, sym, ◌∙◌}
use Rattle.std.proofs.lemmas.Bool.{false≢true}
use Rattle.raft_log_block_cache.specs.Signing.{signed_for}
use Rattle.raft_log_engine_core.proofs.Hearing.{heard_again, heard_less_again}
use Rattle.raft_log_engine_core.proofs.Put.{refused_again, taken_again, told_again, written_again}
use Rattle.raft_log_engine_core.proofs.writing.append_or_again.Goals as goal

pub returns-then-is_no_space-clause-ok : goal.returns-then-is_no_space-clause-ok
returns-then-is_no_space-clause-ok g c =
    written_again (signed_for c.args.signed.now.batch) _ c.in-Err.error (g.P.PipeLog.shown c.args.pipes.now) (g.P.PipeLog.shown c.append.new.self) (g.P.PipeLog.shown c.append-then-is_no_space.new.self)
    c.append-then-is_no_space.result c.append.ensures.signed (c.is_no_space.ensures.0 c.if-is_no_space.true) c.append.ensures.later c.in-Err.ensures.err c.append-then-is_no_space.ensures.ok

pub returns-then-is_no_space-clause-err : goal.returns-then-is_no_space-clause-err
returns-then-is_no_space-clause-err g c =
    refused_again (signed_for c.args.signed.now.batch) _ c.in-Err.error (g.P.PipeLog.shown c.args.pipes.now) (g.P.PipeLog.shown c.append.new.self) (g.P.PipeLog.shown c.append-then-is_no_space.new.self)
    c.append-then-is_no_space.result c.append.ensures.signed (c.is_no_space.ensures.0 c.if-is_no_space.true) c.append.ensures.later c.append-then-is_no_space.ensures.later c.in-Err.ensures.err c.append-then-is_no_space.ensures.err c.append-then-is_no_space.ensures.range

pub returns-then-is_no_space-clause-takes : goal.returns-then-is_no_space-clause-takes
returns-then-is_no_space-clause-takes g c =
    taken_again (signed_for c.args.signed.now.batch) _ c.in-Err.error (g.P.PipeLog.shown c.args.pipes.now) (g.P.PipeLog.shown c.append.new.self) (g.P.PipeLog.shown c.append-then-is_no_space.new.self)
    c.append-then-is_no_space.result c.append.ensures.signed (c.is_no_space.ensures.0 c.if-is_no_space.true) c.in-Err.ensures.fails c.in-Err.ensures.refusal c.append-then-is_no_space.ensures.calls

pub returns-then-is_no_space-clause-told : goal.returns-then-is_no_space-clause-told
returns-then-is_no_space-clause-told g c =
    told_again (signed_for c.args.signed.now.batch) _ c.in-Err.error (g.P.PipeLog.shown c.args.pipes.now) (g.P.PipeLog.shown c.append.new.self) (g.P.PipeLog.shown c.append-then-is_no_space.new.self)
    c.append-then-is_no_space.result c.append.ensures.signed (c.is_no_space.ensures.0 c.if-is_no_space.true) c.in-Err.ensures.fails c.in-Err.ensures.refusal c.append-then-is_no_space.ensures.refusal

pub returns-clause-told : goal.returns-clause-told
returns-clause-told g c = inl ((λ none. false≢true (sym c.if-is_no_space.false ∙ c.is_no_space.ensures.1 none)), c.in-Err.ensures.refusal)

pub returns-then-is_no_space-clause-heard : goal.returns-then-is_no_space-clause-heard
returns-then-is_no_space-clause-heard g c =
    let pipes = g.P.PipeLog in
    heard_again pipes.hears (pipes.shown c.args.pipes.now) (pipes.shown c.append.new.self) (pipes.shown c.append-then-is_no_space.new.self)
    (pipes.listener c.args.pipes.now) (pipes.listener c.append.new.self) (pipes.listener c.append-then-is_no_space.new.self)
    c.append-then-is_no_space.result c.in-Err.ensures.grows c.append-then-is_no_space.ensures.goes_into c.in-Err.ensures.told_less c.append-then-is_no_space.ensures.told

pub returns-then-is_no_space-clause-heard_less : goal.returns-then-is_no_space-clause-heard_less
returns-then-is_no_space-clause-heard_less g c =
    let pipes = g.P.PipeLog in
    heard_less_again pipes.hears (pipes.shown c.args.pipes.now) (pipes.shown c.append.new.self) (pipes.shown c.append-then-is_no_space.new.self)
    (pipes.listener c.args.pipes.now) (pipes.listener c.append.new.self) (pipes.listener c.append-then-is_no_space.new.self)
    c.append-then-is_no_space.result c.in-Err.ensures.grows c.append-then-is_no_space.ensures.grows c.in-Err.ensures.told_less c.append-then-is_no_space.ensures.told_less
