use Rattle.raft_log_open.specs.Finding.FailsToReadAnew.{unread}
use Rattle.raft_log_open.proofs.in_turn.read_unpadded_in_turn.Goals as goal

pub returns-in-Err-clause-err : goal.returns-in-Err-clause-err
returns-in-Err-clause-err g c = unread c.find_unpadded.new.builder _ c.in_ok-find_unpadded.ensures.ok c.in-Err.ensures.err
