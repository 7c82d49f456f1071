use Rattle.raft_log_operator.proofs.PurgeLemmas.{keeps_contents, not_purged, purged_and_closed, purged_not_closed}
use Rattle.raft_log_operator.proofs.purging.purge_and_close.Goals as goal

pub returns-in-Ok-result-clause-ok : goal.returns-in-Ok-result-clause-ok
returns-in-Ok-result-clause-ok g c =
    purged_and_closed _ _ _ _ _ _ _ c.close-files.result.result c.in-Ok.ensures.ok
    c.in-Ok-result.field-0 c.in-Ok-result.is c.close-files.ensures.settled

pub returns-in-Ok-result-clause-keeps : goal.returns-in-Ok-result-clause-keeps
returns-in-Ok-result-clause-keeps g c = keeps_contents _ _ _ _ _ c.purge_engine-purged.ensures.model c.close-files.ensures.model

pub returns-in-Err-result-clause-err : goal.returns-in-Err-result-clause-err
returns-in-Err-result-clause-err g c =
    purged_not_closed _ _ _ _ _ _ _ c.close-files.result.result c.in-Ok.ensures.ok
    c.in-Err-result.error c.in-Err-result.is c.close-files.ensures.value

pub returns-in-Err-result-clause-keeps : goal.returns-in-Err-result-clause-keeps
returns-in-Err-result-clause-keeps g c = keeps_contents _ _ _ _ _ c.purge_engine-purged.ensures.model c.close-files.ensures.model

pub returns-in-Err-clause-err : goal.returns-in-Err-clause-err
returns-in-Err-clause-err g c =
    not_purged _ _ _ c.in-Err.error _ _ _ c.close-files.result.result c.in-Err.ensures.err
    c.close-files.ensures.held c.close-files.ensures.model

pub returns-in-Err-clause-keeps : goal.returns-in-Err-clause-keeps
returns-in-Err-clause-keeps g c = keeps_contents _ _ _ _ _ c.purge_engine-purged.ensures.model c.close-files.ensures.model
