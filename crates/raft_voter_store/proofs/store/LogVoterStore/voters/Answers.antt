use Rattle.std.proofs.Common.{◌∙◌, inl, refl, sym}
use Rattle.raft_log_engine.specs.raft_log_engine_core.specs.Reads.{shows_of}
use Rattle.raft_voter_store.proofs.Silence.{reads_none}
use Rattle.raft_voter_store.proofs.store.LogVoterStore.voters.Goals as goal

pub returns-then-is_failed-clause-err : goal.returns-then-is_failed-clause-err
returns-then-is_failed-clause-err g c = inl (refl, sym c.is_failed.ensures ∙ c.if-is_failed.true)

pub returns-then-is_failed-clause-stays : goal.returns-then-is_failed-clause-stays
returns-then-is_failed-clause-stays g c = (reads_none (shows_of g.P.PipeLog.shown c.args.self.now.engine) c.args.self.now.outlines).0
