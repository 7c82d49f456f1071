use Rattle.std.proofs.Common.{◌∙◌, ◌<◌, ap, arith, length, refl, vec_capacity, vec_len}
use Rattle.std.specs.Prelude.{slice_get}
use Rattle.raft_log_engine.specs.raft_log_engine_core.specs.Reads.{shows_of}
use Rattle.raft_voter_outline.specs.Kept.{outlines_in}
use Rattle.raft_voter_store.proofs.Noting.{none_noted, noted_since}
use Rattle.raft_voter_store.proofs.Rounds.{at_index, begun, stops_at}
use Rattle.raft_voter_store.proofs.Silence.{idle_more, reads_more, reads_none, unwritten_more}
use Rattle.raft_voter_store.proofs.store.LogVoterStore.take_all.Goals as goal

pub loop-group-init : goal.loop-group-init
loop-group-init g c = (
  begun c.args.requests.now c.args.replies.now.items (shows_of g.P.PipeLog.shown c.args.self.now.engine) (outlines_in c.args.self.now.outlines) c.requires.empty c.requires.lives,
  ap (λ l. length l) c.requires.empty,
  omega (arith, c.requires.room),
  λ V are all. refl,
  λ V are all. reads_none (shows_of g.P.PipeLog.shown c.args.self.now.engine) c.args.self.now.outlines,
  λ none V are all. refl,
  λ room. (none_noted c.args.requests.now c.args.replies.now.items c.args.refusals.now.items (shows_of g.P.PipeLog.shown c.args.self.now.engine) (outlines_in c.args.self.now.outlines) c.requires.empty, omega (arith, room)),
)

pub returns-in_default-clause-broke : goal.returns-in_default-clause-broke
returns-in_default-clause-broke g c = λ none.
    let shown = g.P.PipeLog.shown in
    stops_at c.args.requests.now c.loop-group.replies.items c.serve_one.new.replies.items c.loop-group.group-index c.loop-group-item.result c.loop-group.wrote (shows_of shown c.args.self.now.engine) (shows_of shown c.loop-group.self.engine) (shows_of shown c.serve_one.new.self.engine)
    (outlines_in c.args.self.now.outlines) (outlines_in c.loop-group.self.outlines) c.loop-group.invariant.0 c.loop-group.invariant.1 (at_index c.args.requests.now c.loop-group.group-index c.loop-group-item.result c.loop-group-test.true c.loop-group-item.is)
    (c.in_default.ensures.untold refl) (c.in_default.ensures.broke refl)

pub returns-in_default-clause-quiet : goal.returns-in_default-clause-quiet
returns-in_default-clause-quiet g c =
    let shown = g.P.PipeLog.shown in
    reads_more c.args.requests.now c.loop-group.group-index c.loop-group-item.result (shows_of shown c.args.self.now.engine) (shows_of shown c.loop-group.self.engine) (shows_of shown c.serve_one.new.self.engine) c.args.self.now.outlines c.loop-group.self.outlines c.serve_one.new.self.outlines
    c.loop-group-test.true c.loop-group-item.is c.loop-group.invariant.4 c.serve_one.ensures.quiet

pub returns-in_default-clause-noted : goal.returns-in_default-clause-noted
returns-in_default-clause-noted g c = λ room.
    let shown = g.P.PipeLog.shown in
    noted_since c.args.requests.now c.loop-group.replies.items c.serve_one.new.replies.items c.args.refusals.now.items c.loop-group.refusals.items c.serve_one.new.refusals.items
    (shows_of shown c.args.self.now.engine) (shows_of shown c.loop-group.self.engine) (shows_of shown c.serve_one.new.self.engine) (outlines_in c.args.self.now.outlines)
    (c.in_default.ensures.broke refl).later (c.in_default.ensures.untold refl) (c.in_default.ensures.unnoted refl) (c.loop-group.invariant.6 room).0

pub returns-in_default-clause-idle : goal.returns-in_default-clause-idle
returns-in_default-clause-idle g c =
    idle_more (λ store. store.outlines) c.args.requests.now c.loop-group.group-index c.loop-group-item.result c.args.self.now c.loop-group.self c.serve_one.new.self c.loop-group-test.true c.loop-group-item.is c.loop-group.invariant.5 c.serve_one.ensures.idle

pub loop-group-preserved : goal.loop-group-preserved
loop-group-preserved g c =
    let requests = c.args.requests.now in
    let shown = g.P.PipeLog.shown in
    let i = c.loop-group.group-index in
    let q = c.loop-group-item.result in
    let s = shows_of shown c.args.self.now.engine in
    let t = shows_of shown c.loop-group.self.engine in
    let u = shows_of shown c.serve_one.new.self.engine in
    let inside = c.loop-group-test.true in
    let item = c.loop-group-item.is in
    let first = c.args.self.now.outlines in
    let before = c.loop-group.self.outlines in
    let now = c.serve_one.new.self.outlines in
    let at = at_index requests c.loop-group.group-index c.loop-group-item.result c.loop-group-test.true c.loop-group-item.is in (
      c.in-Some.ensures.went requests (shows_of g.P.PipeLog.shown c.args.self.now.engine) (outlines_in c.args.self.now.outlines) c.loop-group.invariant.0 (ap (λ n. slice_get requests n) c.loop-group.invariant.1 ∙ at),
      omega (arith, c.in-Some.ensures.count, c.loop-group.invariant.1),
      omega (arith, c.loop-group.invariant.2, c.in-Some.ensures.len, c.in-Some.ensures.room, c.loop-group-test.true),
      unwritten_more requests i q c.loop-group.wrote c.in-Some.more s t first before inside item c.loop-group.invariant.3 c.loop-group.invariant.4 c.in-Some.ensures.unwritten,
      reads_more requests i q s t u first before now inside item c.loop-group.invariant.4 c.serve_one.ensures.quiet,
      idle_more (λ store. store.outlines) requests i q c.args.self.now c.loop-group.self c.serve_one.new.self inside item c.loop-group.invariant.5 c.serve_one.ensures.idle,
      λ room.
          let so = c.loop-group.invariant.6 room in
          let next : vec_len c.loop-group.refusals < vec_capacity c.loop-group.refusals = omega (arith, so.1, inside) in (
            c.in-Some.ensures.noted next requests c.loop-group.wrote s (outlines_in first) c.args.refusals.now.items c.loop-group.invariant.0 (ap (λ n. slice_get requests n) c.loop-group.invariant.1 ∙ at) so.0,
            omega (arith, so.1, inside, c.serve_one.ensures.notes, c.serve_one.ensures.note_room),
          ),
    )
