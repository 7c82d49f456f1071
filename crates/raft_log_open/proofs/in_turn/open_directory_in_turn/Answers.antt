use Rattle.raft_log_open.specs.Opening.FailsToOpenDirectory.{unfinished}
use Rattle.raft_log_open.proofs.in_turn.open_directory_in_turn.Goals as goal

pub returns-in-Err-finish-clause-err : goal.returns-in-Err-finish-clause-err
returns-in-Err-finish-clause-err g c = unfinished c.in-Ok.read.tables c.in-Ok.read.builder _ c.in-Ok.ensures.ok c.in-Err-finish.ensures.err
