use Rattle.raft_voter_outline.specs.Kept.{outlines_in}
use Rattle.raft_voter_log.proofs.Walking.{runs_ask_nothing}
use Rattle.raft_voter_log.proofs.sessions.runs_ask_nothing.Goals as goal

pub returns : goal.returns
returns g c = runs_ask_nothing _ (λ voters. voters.config) _ _ (λ voters. outlines_in voters.store.outlines)
