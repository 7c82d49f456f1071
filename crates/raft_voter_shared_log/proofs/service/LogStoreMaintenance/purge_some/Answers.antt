use Rattle.std.proofs.Common.{ap, refl}
use Rattle.raft_voter_outline.specs.Kept.{outlines_in}
use Rattle.raft_voter_shared_log.proofs.Keeping.{purged_serves, refused_serves}
use Rattle.raft_voter_shared_log.proofs.service.LogStoreMaintenance.purge_some.Goals as goal

pub returns-in-Ok-clause-keeps : goal.returns-in-Ok-clause-keeps
returns-in-Ok-clause-keeps g c =
    purged_serves _ _ _ c.args.self.now (record c.args.self.now { store = c.purge_some.new.self }) refl (ap outlines_in c.purge_some.ensures.others.0) c.in-Ok.ensures.lived c.in-Ok.ensures.ok

pub returns-in-Err-clause-keeps : goal.returns-in-Err-clause-keeps
returns-in-Err-clause-keeps g c =
    refused_serves _ _ _ c.args.self.now (record c.args.self.now { store = c.purge_some.new.self }) refl (ap outlines_in c.purge_some.ensures.others.0) c.in-Err.error c.in-Err.ensures.why c.in-Err.ensures.err
