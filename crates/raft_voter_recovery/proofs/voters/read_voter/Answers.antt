use Rattle.std.proofs.Common.{Option, subst}
use Rattle.raft_log_engine_core.specs.Reads.{shows_of}
use Rattle.raft_voter_recovery.specs.Groups.{TellsHead}
use Rattle.raft_voter_recovery.specs.declared.heads.Head.{Head}
use Rattle.raft_voter_recovery.proofs.Holding.{restored_held}
use Rattle.raft_voter_recovery.proofs.voters.read_voter.Goals as goal

pub returns-in-Ok-clause-ok : goal.returns-in-Ok-clause-ok
returns-in-Ok-clause-ok g c =
    let s = shows_of g.P.PipeLog.shown c.args.engine.now in
    restored_held s c.args.group c.in-Some.head c.in_ok-entries.entries.items c.from_vec.result c.in-Ok.voter (subst (λ (x : Option Head). TellsHead s c.args.group x) c.in-Some.is c.in_ok-head.ensures.ok) c.in_ok-entries.ensures.ok c.from_vec.ensures
    c.in-Ok.ensures.ok
