use Rattle.raft_voter_outline.specs.Kept.{outlines_in}
use Rattle.raft_voter_log.proofs.ClosedWalking.{closed_runs_ask_nothing}
use Rattle.raft_voter_log.proofs.OpenLemmas.{memory_sound}
use Rattle.raft_voter_log.proofs.closed_stores.closed_runs_ask_nothing.Goals as goal

pub returns : goal.returns
returns g c = closed_runs_ask_nothing _ (λ voters. voters.config) _ _ (λ voters. outlines_in voters.store.outlines) (λ voters. memory_sound voters.store.engine.pipes.pipes.pipes.file_system)
