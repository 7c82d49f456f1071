use Rattle.raft_log_session.proofs.words.number_in.Goals as goal

pub returns-in-Some : goal.returns-in-Some
returns-in-Some c = (c.read_number.ensures c.in-Some.number).0 c.in-Some.is
