use Rattle.std.proofs.Common.{inr}
use Rattle.raft_log_recovery_read.proofs.foreign.refuse_foreign.Goals as goal

pub returns-in-None-clause-ok : goal.returns-in-None-clause-ok
returns-in-None-clause-ok g c = λ file opened honest. rw c.in-None.is at (c.in_ok-foreign_record.ensures.ok file opened honest)

pub returns-in_ok-text-in-Some-clause-err : goal.returns-in_ok-text-in-Some-clause-err
returns-in_ok-text-in-Some-clause-err g c = λ file opened honest.
    let found = rw c.in-Some.is at (c.in_ok-foreign_record.ensures.ok file opened honest) in
    inr (record { at = c.in-Some.record.offset; compression = c.in-Some.record.compression; foreign = found; told = c.in_ok-text-in-Some.ensures })
