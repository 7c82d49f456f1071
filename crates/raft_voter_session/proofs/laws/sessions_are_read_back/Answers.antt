use Rattle.raft_voter_session.proofs.WrittenSessions as written
use Rattle.raft_voter_session.proofs.laws.sessions_are_read_back.Goals as goal

pub returns : goal.returns
returns c = written.sessions_are_read_back
