use Rattle.std.proofs.Common.{refl, sym, ◌∙◌}
use Rattle.raft_log_engine.specs.raft_log_engine_core.specs.Reads.{shows_of}
use Rattle.raft_voter_outline.specs.Kept.{outlines_in}
use Rattle.raft_voter_store.proofs.Noting.{past_notes, served_notes}
use Rattle.raft_voter_store.proofs.Rounds.{past_goes_on, served_goes_on, wrote_before, wrote_now}
use Rattle.raft_voter_store.proofs.store.LogVoterStore.serve_one.Goals as goal

pub returns-then-wrote-clause-went : goal.returns-then-wrote-clause-went
returns-then-wrote-clause-went g c =
    let shown = g.P.PipeLog.shown in
    served_goes_on (c.args.group, c.args.request.now) c.in-Ok.taken.reply c.args.wrote c.in-Ok.taken.wrote c.args.wrote c.args.replies.now.items c.push_reserved.new.self.items (shows_of shown c.args.self.now.engine) (shows_of shown c.take.new.self.engine)
    (outlines_in c.args.self.now.outlines) (outlines_in c.take.new.self.outlines) c.in-Ok.ensures.ok c.push_reserved.ensures.items (wrote_before c.args.wrote c.in-Ok.taken.wrote c.if-wrote.true)

pub returns-else-wrote-clause-went : goal.returns-else-wrote-clause-went
returns-else-wrote-clause-went g c =
    let shown = g.P.PipeLog.shown in
    served_goes_on (c.args.group, c.args.request.now) c.in-Ok.taken.reply c.args.wrote c.in-Ok.taken.wrote c.in-Ok.taken.wrote c.args.replies.now.items c.push_reserved.new.self.items (shows_of shown c.args.self.now.engine) (shows_of shown c.take.new.self.engine)
    (outlines_in c.args.self.now.outlines) (outlines_in c.take.new.self.outlines) c.in-Ok.ensures.ok c.push_reserved.ensures.items (wrote_now c.args.wrote c.in-Ok.taken.wrote c.if-wrote.false)

pub returns-else-is_failed-clause-went : goal.returns-else-is_failed-clause-went
returns-else-is_failed-clause-went g c =
    let shown = g.P.PipeLog.shown in
    past_goes_on (c.args.group, c.args.request.now) c.in-Err.error c.args.wrote c.args.replies.now.items c.push_reserved-in-Err.new.self.items (shows_of shown c.args.self.now.engine) (shows_of shown c.take.new.self.engine) (outlines_in c.args.self.now.outlines)
    (outlines_in c.take.new.self.outlines) c.in-Err.ensures.err (sym c.is_failed.ensures ∙ c.if-is_failed.false) c.push_reserved-in-Err.ensures.items

pub returns-then-wrote-clause-unwritten : goal.returns-then-wrote-clause-unwritten
returns-then-wrote-clause-unwritten g c = λ V are stays. refl

pub returns-else-wrote-clause-unwritten : goal.returns-else-wrote-clause-unwritten
returns-else-wrote-clause-unwritten g c = λ V are stays. c.in-Ok.ensures.unwritten V are stays ∙ sym c.if-wrote.false

pub returns-else-is_failed-clause-unwritten : goal.returns-else-is_failed-clause-unwritten
returns-else-is_failed-clause-unwritten g c = λ V are stays. refl

pub returns-then-wrote-clause-noted : goal.returns-then-wrote-clause-noted
returns-then-wrote-clause-noted g c = λ room.
    let shown = g.P.PipeLog.shown in
    served_notes (c.args.group, c.args.request.now) c.in-Ok.taken.reply c.in-Ok.taken.wrote c.len.result c.args.replies.now.items c.push_reserved.new.self.items c.args.refusals.now.items c.note_told.new.refusals.items
    (shows_of shown c.args.self.now.engine) (shows_of shown c.take.new.self.engine) (outlines_in c.args.self.now.outlines) (outlines_in c.take.new.self.outlines) c.in-Ok.ensures.ok c.push_reserved.ensures.items (c.len.ensures ∙ c.args.replies.now.ok.0) (c.note_told.ensures.noted room)

pub returns-else-wrote-clause-noted : goal.returns-else-wrote-clause-noted
returns-else-wrote-clause-noted g c = λ room.
    let shown = g.P.PipeLog.shown in
    served_notes (c.args.group, c.args.request.now) c.in-Ok.taken.reply c.in-Ok.taken.wrote c.len.result c.args.replies.now.items c.push_reserved.new.self.items c.args.refusals.now.items c.note_told.new.refusals.items
    (shows_of shown c.args.self.now.engine) (shows_of shown c.take.new.self.engine) (outlines_in c.args.self.now.outlines) (outlines_in c.take.new.self.outlines) c.in-Ok.ensures.ok c.push_reserved.ensures.items (c.len.ensures ∙ c.args.replies.now.ok.0) (c.note_told.ensures.noted room)

pub returns-else-is_failed-clause-noted : goal.returns-else-is_failed-clause-noted
returns-else-is_failed-clause-noted g c = λ room.
    let shown = g.P.PipeLog.shown in
    past_notes (c.args.group, c.args.request.now) c.in-Err.error c.len-in-Err.result c.args.replies.now.items c.push_reserved-in-Err.new.self.items c.args.refusals.now.items c.note.new.refusals.items
    (shows_of shown c.args.self.now.engine) (shows_of shown c.take.new.self.engine) (outlines_in c.args.self.now.outlines) (outlines_in c.take.new.self.outlines) c.in-Err.ensures.err (sym c.is_failed.ensures ∙ c.if-is_failed.false)
    c.push_reserved-in-Err.ensures.items (c.len-in-Err.ensures ∙ c.args.replies.now.ok.0) (c.note.ensures.noted room)
