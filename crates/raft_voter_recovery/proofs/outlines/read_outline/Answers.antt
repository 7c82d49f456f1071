use Rattle.std.proofs.Common.{Option, subst}
use Rattle.raft_log_engine_core.specs.Reads.{shows_of}
use Rattle.raft_voter_recovery.specs.Groups.{TellsHead}
use Rattle.raft_voter_recovery.specs.declared.heads.Head.{Head}
use Rattle.raft_voter_recovery.proofs.TermsRead.{outline_held}
use Rattle.raft_voter_recovery.proofs.outlines.read_outline.Goals as goal

pub returns-clause-ok : goal.returns-clause-ok
returns-clause-ok g c =
    let s = shows_of g.P.PipeLog.shown c.args.engine.now in
    outline_held s c.args.group c.in-Some.head c.in_ok-outline.outline.voter (subst (λ (x : Option Head). TellsHead s c.args.group x) c.in-Some.is c.in_ok-head.ensures.ok) c.in_ok-outline.ensures.ok
