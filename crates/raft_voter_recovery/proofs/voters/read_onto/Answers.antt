use Rattle.std.proofs.Common.{Option, refl, inl, inr, subst}
use Rattle.raft_log_engine_core.specs.Reads.{shows_of}
use Rattle.raft_voter_outline.specs.State.{State}
use Rattle.raft_voter_recovery.specs.Listing.{TellsVoter}
use Rattle.raft_voter_recovery.proofs.voters.read_onto.Goals as goal

pub returns-in_default-clause-ok : goal.returns-in_default-clause-ok
returns-in_default-clause-ok g c =
    let s = shows_of g.P.PipeLog.shown c.args.engine.now in
    inr (refl, subst (λ (x : Option State). TellsVoter s c.args.group x) c.in_default.is c.in_ok-voter.ensures.ok)

pub returns-clause-ok : goal.returns-clause-ok
returns-clause-ok g c =
    let s = shows_of g.P.PipeLog.shown c.args.engine.now in
    inl (c.in-Some.voter, c.in-Ok.ensures.items, subst (λ (x : Option State). TellsVoter s c.args.group x) c.in-Some.is c.in_ok-voter.ensures.ok)
