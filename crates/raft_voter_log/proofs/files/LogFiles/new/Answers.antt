use Rattle.raft_voter_log.proofs.Crashes.{fresh_at_first}
use Rattle.raft_voter_log.proofs.files.LogFiles.new.Goals as goal

pub returns-clause-fresh : goal.returns-clause-fresh
returns-clause-fresh c = fresh_at_first c.args.config _ c.new.ensures.empty
