use Rattle.raft_log_engine.specs.raft_log_engine_core.specs.Reads.{shows_of}
use Rattle.raft_voter.specs.declared.service.RoundFault.{RoundFault}
use Rattle.raft_voter_outline.specs.Kept.{outlines_in}
use Rattle.raft_voter_store.proofs.Serving.{answers_round, cuts_off, may_refuse, of_answer, of_refusal}
use Rattle.raft_voter_store.proofs.store.service.LogVoterStoreRoundService.serve.Goals as goal

pub returns-clause-ok : goal.returns-clause-ok
returns-clause-ok g c =
    of_answer _ _ _ _ (λ told answered all. answers_round (λ store. shows_of g.P.PipeLog.shown store.engine) (λ store. outlines_in store.outlines) c.args.requests.now told c.args.self.now c.serve.new.self answered all) c.serve.ensures.ok c.serve.ensures.all

pub returns-clause-refused : goal.returns-clause-refused
returns-clause-refused g c =
    of_answer _ _ _ _ (λ told excused all. may_refuse (λ store. shows_of g.P.PipeLog.shown store.engine) (λ store. outlines_in store.outlines) c.args.requests.now told c.args.self.now c.serve.new.self excused) c.serve.ensures.excused c.serve.ensures.all

pub returns-clause-err : goal.returns-clause-err
returns-clause-err g c =
    of_refusal _ _ _ _ (λ (fault : RoundFault) none cut. cuts_off (λ store. shows_of g.P.PipeLog.shown store.engine) (λ store. outlines_in store.outlines) fault.cause c.args.requests.now fault.refused c.args.self.now c.serve.new.self none cut) c.serve.ensures.err c.serve.ensures.cut
