use Rattle.raft_log_recovery_read.proofs.taking.take_noted.Goals as goal

pub returns-in-Some : goal.returns-in-Some
returns-in-Some g c = λ start before taken. rw c.in-Some.is (c.take.ensures start before taken)
