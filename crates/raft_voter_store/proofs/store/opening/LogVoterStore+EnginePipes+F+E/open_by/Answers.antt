use Rattle.raft_voter_store.specs.Opening.FailsToOpenVoters.{unopened}
use Rattle.raft_voter_store.proofs.Opening.{closes_unread}
use Rattle.raft_voter_store.proofs.store.opening.LogVoterStore+EnginePipes+F+E.open_by.Goals as goal

pub returns-in-Err-clause-err : goal.returns-in-Err-clause-err
returns-in-Err-clause-err g c = unopened c.in-Err.refused.error c.from_refusal.ensures c.in-Err.ensures.err

pub returns-in-Err-read_outlines-clause-err : goal.returns-in-Err-read_outlines-clause-err
returns-in-Err-read_outlines-clause-err g c =
    closes_unread g.F.FileSystem.disk g.F.FileSystem.tells_space c.args.config c.in-Err-read_outlines.cause c.args.file_system c.close-file_system.result.files _ c.in-Ok.engine.tables c.in-Ok.engine.cache _ c.in-Ok.ensures.ok
    c.in-Ok.ensures.none c.in-Err-read_outlines.ensures.err c.read_outlines.ensures.stays c.close-file_system.ensures.held
