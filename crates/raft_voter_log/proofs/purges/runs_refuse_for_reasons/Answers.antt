use Rattle.raft_voter_log.specs.declared.voters.LogVoters.{LogVoters}
use Rattle.raft_voter_outline.specs.Kept.{outlines_in}
use Rattle.raft_voter_log.proofs.RunsPurging.{refused_purges_have_reasons, runs_refuse_for_reasons}
use Rattle.raft_voter_log.proofs.purges.runs_refuse_for_reasons.Goals as goal

pub returns : goal.returns
returns g c =
    runs_refuse_for_reasons (λ (voters : LogVoters). voters.config) _ _ (λ (voters : LogVoters). outlines_in voters.store.outlines) _
    (refused_purges_have_reasons (λ (voters : LogVoters). voters.store.engine.pipes.pipes.pipes.file_system) (λ pipes most. Unit {0}) (λ (voters : LogVoters). voters.store.engine) _)
