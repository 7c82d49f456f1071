use Rattle.std.proofs.Common.{◌+◌, List, drop, subst, sym}
use Rattle.std.proofs.lemmas.List.{drop_all}
use Rattle.raft_log_engine.specs.raft_log_engine_core.specs.Reads.{shows_of}
use Rattle.raft_crash_examples.specs.declared.changing.KeyChange.{KeyChange}
use Rattle.raft_crash_examples.specs.Changing.{ChangesKeys}
use Rattle.raft_crash_examples.proofs.Said.{changes_more, first_left}
use Rattle.raft_crash_examples.proofs.changing.write_changes.Goals as goal

pub loop-change-preserved : goal.loop-change-preserved
loop-change-preserved g c new on =
    let i = c.loop-change.change-index in
    let changes = c.args.changes.now in
    let x = c.change-item.result in
    let now = shows_of g.P.PipeLog.shown c.loop-change.engine in
    c.loop-change.invariant new (subst (λ (l : List KeyChange). ChangesKeys l now new) (sym (first_left changes i x x c.loop-change-test.true c.change-item.is))
    (changes_more x (drop (i + 1) changes) now (shows_of g.P.PipeLog.shown c.write_change.new.engine) new c.in_ok-write_change.ensures.ok on))

pub returns : goal.returns
returns g c =
    let i = c.loop-change.change-index in
    let changes = c.args.changes.now in
    let now = shows_of g.P.PipeLog.shown c.loop-change.engine in
    record {
      ok = c.loop-change.invariant now (subst (λ (l : List KeyChange). ChangesKeys l now now) (sym (drop_all i changes c.loop-change-test.false)) (λ home m h. h));
    }
