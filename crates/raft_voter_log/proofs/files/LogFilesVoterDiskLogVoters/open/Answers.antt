use Rattle.std.proofs.Common.{refl}
use Rattle.raft_voter_log.specs.declared.voters.LogVoters.{LogVoters}
use Rattle.raft_voter_log.proofs.OpenLemmas.{cause_outside, finds, refused_stands, refuses_as}
use Rattle.raft_voter_log.proofs.files.LogFilesVoterDiskLogVoters.open.Goals as goal

pub returns-in-Ok-open-clause-finds : goal.returns-in-Ok-open-clause-finds
returns-in-Ok-open-clause-finds g c =
    finds _ (λ (voters : LogVoters). voters.config) _ _ c.args.self c.args.workers (record { config = c.args.self.config; store = c.in-Ok-open.store }) (c.in-Ok.settings, c.in-Ok.ensures, c.in-Ok-open.ensures.ok) refl

pub returns-in-Err-clause-err : goal.returns-in-Err-clause-err
returns-in-Err-clause-err g c =
    refuses_as _ c.args.self c.args.workers c.unread_cause.result c.in-Err.refused.file_system c.in-Ok.settings c.in-Err.refused.cause c.in-Ok.ensures c.unread_cause.ensures c.in-Err.ensures.err

pub returns-in-Err-clause-stands : goal.returns-in-Err-clause-stands
returns-in-Err-clause-stands g c = refused_stands _ c.args.self c.args.workers c.in-Err.refused.file_system c.in-Ok.settings c.in-Err.refused.cause c.in-Ok.ensures c.in-Err.ensures.err

pub returns-in-Err-clause-errors : goal.returns-in-Err-clause-errors
returns-in-Err-clause-errors g c = cause_outside c.unread_cause.result c.in-Err.refused.cause c.unread_cause.ensures
