use Rattle.std.proofs.Common.{inr}
use Rattle.raft_voter_shared_log.proofs.store.LogStore.open.Goals as goal

pub returns-in-Ok-open-clause-ok : goal.returns-in-Ok-open-clause-ok
returns-in-Ok-open-clause-ok g c = (c.in-Ok.settings, c.in-Ok.ensures, c.in-Ok-open.ensures.ok)

pub returns-in-Err-clause-err : goal.returns-in-Err-clause-err
returns-in-Err-clause-err g c = inr (c.in-Ok.settings, c.in-Ok.ensures, c.in-Err.ensures.err)
