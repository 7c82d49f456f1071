use Rattle.raft_voter_log.proofs.RunsPurging.{refused_purges_have_reasons}
use Rattle.raft_voter_log.proofs.purges.refused_purges_have_reasons.Goals as goal

pub returns : goal.returns
returns g c = refused_purges_have_reasons (λ voters. voters.store.engine.pipes.pipes.pipes.file_system) (λ pipes most. Unit {0}) (λ voters. voters.store.engine) _
