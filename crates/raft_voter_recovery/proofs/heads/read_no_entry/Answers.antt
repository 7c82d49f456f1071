use Rattle.std.proofs.Common.{ℕ, Option, subst}
use Rattle.raft_log_engine_core.specs.Reads.{shows_of}
use Rattle.raft_voter_recovery.specs.Groups.{ReadsSpan}
use Rattle.raft_voter_recovery.proofs.Ends.{no_head, no_slot}
use Rattle.raft_voter_recovery.proofs.heads.read_no_entry.Goals as goal

pub returns-in-None-clause-ok : goal.returns-in-None-clause-ok
returns-in-None-clause-ok g c =
    let s = shows_of g.P.PipeLog.shown c.args.engine.now in
    no_slot s c.args.group c.requires (subst (λ (x : Option (ℕ × ℕ)). ReadsSpan s c.args.group x) c.in-None.is c.in_ok-read_span.ensures.ok)

pub returns-in-Some-clause-err : goal.returns-in-Some-clause-err
returns-in-Some-clause-err g c =
    let s = shows_of g.P.PipeLog.shown c.args.engine.now in
    no_head s c.args.group c.in-Some.field-0.0 c.in-Some.field-0.1 c.requires (subst (λ (x : Option (ℕ × ℕ)). ReadsSpan s c.args.group x) c.in-Some.is c.in_ok-read_span.ensures.ok)
