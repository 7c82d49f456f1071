use Rattle.raft_voter_log.proofs.RunsPurging.{purges_keep_or_fail}
use Rattle.raft_voter_log.proofs.purges.purges_keep_or_fail.Goals as goal

pub returns : goal.returns
returns g c = purges_keep_or_fail (λ voters. voters.store.engine.pipes.pipes.pipes.file_system) _ (λ voters. voters.store.engine) _
