use Rattle.std.proofs.Common.{ap, refl}
use Rattle.raft_log_record_base.specs.declared.errors.Error.TheVariants as errors
use Rattle.raft_voter_outline.specs.Kept.{outlines_in}
use Rattle.raft_log_engine.specs.raft_log_engine_core.specs.Reads.{shows_of}
use Rattle.raft_voter_store.proofs.Taking.{retired_fresh, served_on, unmade, unwritten_fails, write_served}
use Rattle.raft_voter_store.proofs.store.LogVoterStore.write.Goals as goal

pub returns-in_default-clause-err : goal.returns-in_default-clause-err
returns-in_default-clause-err g c =
    unmade (c.args.group, c.args.request.now) errors.Memory (shows_of g.P.PipeLog.shown c.args.self.now.engine) (outlines_in c.args.self.now.outlines) (outlines_in c.args.self.now.outlines) refl (λ h. refl) c.requires.lives

pub returns-in-Ok-log_change-clause-ok : goal.returns-in-Ok-log_change-clause-ok
returns-in-Ok-log_change-clause-ok g c =
    let w = c.in-Ok-log_change.ensures.ok in
    let s = shows_of g.P.PipeLog.shown c.args.self.now.engine in
    let t = shows_of g.P.PipeLog.shown c.log_change.new.self.engine in
    let os = outlines_in c.args.self.now.outlines in
    let served = write_served (c.args.group, c.args.request.now) c.args.reply c.args.change.now w.batch w.len s t os os (outlines_in c.log_change.new.self.outlines) (λ h. refl)
    c.requires.bare c.requires.told c.requires.decided w.says c.in-Ok-log_change.ensures.steps w.writes in
    served_on (c.args.group, c.args.request.now) c.args.reply s t (shows_of g.P.PipeLog.shown c.forget_retired.new.self.engine) os (outlines_in c.log_change.new.self.outlines) (outlines_in c.forget_retired.new.self.outlines)
    (ap (λ e. shows_of g.P.PipeLog.shown e) c.forget_retired.ensures.engine) c.forget_retired.ensures.voters served

pub forget_retired-requires : goal.forget_retired-requires
forget_retired-requires g c = λ is.
    retired_fresh c.args.group c.args.request.now (outlines_in c.args.self.now.outlines) (outlines_in c.log_change.new.self.outlines) c.requires.bare c.in-Ok-log_change.ensures.steps is

pub returns-in-Err-clause-err : goal.returns-in-Err-clause-err
returns-in-Err-clause-err g c =
    unwritten_fails (c.args.group, c.args.request.now) c.args.change.now c.in-Err.error (shows_of g.P.PipeLog.shown c.args.self.now.engine) (shows_of g.P.PipeLog.shown c.log_change.new.self.engine)
    (outlines_in c.args.self.now.outlines) (outlines_in c.log_change.new.self.outlines) c.in-Err.ensures.same c.requires.lives c.requires.decided c.in-Err.ensures.err
