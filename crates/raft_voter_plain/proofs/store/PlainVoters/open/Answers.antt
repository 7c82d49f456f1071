use Rattle.raft_voter_plain.proofs.store.PlainVoters.open.Goals as goal

pub returns-in-Err-clause-err : goal.returns-in-Err-clause-err
returns-in-Err-clause-err c = rw c.bytes.ensures at c.in-Err.ensures.err
