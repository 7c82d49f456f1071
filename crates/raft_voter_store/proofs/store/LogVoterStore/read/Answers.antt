use Rattle.raft_voter_outline.specs.Kept.{outlines_in}
use Rattle.raft_log_engine.specs.raft_log_engine_core.specs.Reads.{shows_of}
use Rattle.raft_voter_durability_laws.proofs.Public.{engines_are_counted}
use Rattle.raft_voter_store.proofs.Taking.{read_failed, read_served}
use Rattle.raft_voter_store.proofs.store.LogVoterStore.read.Goals as goal

pub returns-in-Ok-clause-ok : goal.returns-in-Ok-clause-ok
returns-in-Ok-clause-ok g c =
    rw (c.entries.ensures.outlines) (read_served (c.args.group, c.args.request.now) c.args.from c.args.to (shows_of g.P.PipeLog.shown c.args.self.now.engine) (shows_of g.P.PipeLog.shown c.entries.new.self.engine) (outlines_in c.args.self.now.outlines)
    c.in-Ok.entries c.requires.told (engines_are_counted (g.P.PipeLog.shown c.args.self.now.engine.pipes) c.args.self.now.engine.tables c.args.self.now.engine.cache) c.in-Ok.ensures.ok)

pub returns-in-Err-clause-err : goal.returns-in-Err-clause-err
returns-in-Err-clause-err g c =
    rw (c.entries.ensures.outlines) (read_failed (c.args.group, c.args.request.now) c.args.from c.args.to c.in-Err.error (shows_of g.P.PipeLog.shown c.args.self.now.engine) (shows_of g.P.PipeLog.shown c.entries.new.self.engine) (outlines_in c.args.self.now.outlines)
    c.requires.lives c.requires.told c.in-Err.ensures.err)
