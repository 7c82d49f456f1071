use Rattle.std.proofs.Common.{refl, subst, Option}
use Rattle.std.specs.Prelude.{MatchOption}
use Rattle.raft_log_engine.specs.raft_log_engine_core.specs.Reads.{shows_of}
use Rattle.raft_voter_outline.specs.declared.outline.decision.Answer.{Answer}
use Rattle.raft_voter_outline.specs.declared.outline.decision.Change.{Change}
use Rattle.raft_voter_outline.specs.Outlines.{ChangesEach, IsReplyOfEach, LeavesEach}
use Rattle.raft_voter_outline.specs.Kept.{outlines_in}
use Rattle.raft_voter_durability_laws.proofs.Public.{told_requests_are_served}
use Rattle.raft_voter_store.proofs.Silence.{reads_none}
use Rattle.raft_voter_store.proofs.store.LogVoterStore.take.Goals as goal

pub returns-in-None-clause-ok : goal.returns-in-None-clause-ok
returns-in-None-clause-ok g c =
    let o = outlines_in c.args.self.now.outlines c.args.group in
    let q = c.args.request.now in
    told_requests_are_served (c.args.group, q) _ (shows_of g.P.PipeLog.shown c.args.self.now.engine) (outlines_in c.args.self.now.outlines) c.requires c.decide-answer.ensures.own
    (subst (λ (a : Answer). IsReplyOfEach o q a) c.in-Told.is c.decide-answer.ensures.decides.answer)
    (subst (λ (x : Option Change). MatchOption x (LeavesEach o q) (ChangesEach o q)) c.in-None.is c.decide-answer.ensures.decides.change)

pub returns-in-None-clause-unwritten : goal.returns-in-None-clause-unwritten
returns-in-None-clause-unwritten g c = λ V are stays. refl

pub returns-in-None-clause-quiet : goal.returns-in-None-clause-quiet
returns-in-None-clause-quiet g c = λ V are stays. reads_none (shows_of g.P.PipeLog.shown c.args.self.now.engine) c.args.self.now.outlines

pub returns-in-None-clause-idle : goal.returns-in-None-clause-idle
returns-in-None-clause-idle g c = λ none V are stays. refl
