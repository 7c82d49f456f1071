use Rattle.std.proofs.Common.{ap, refl}
use Rattle.raft_voter_outline.specs.Kept.{outlines_in}
use Rattle.raft_voter_shared_log.proofs.Keeping.{purged_serves, refused_serves}
use Rattle.raft_voter_shared_log.proofs.service.LogStoreMaintenance.force_purge.Goals as goal

pub returns-in-Ok-clause-keeps : goal.returns-in-Ok-clause-keeps
returns-in-Ok-clause-keeps g c =
    purged_serves _ _ _ c.args.self.now (record c.args.self.now { store = c.must_rewrite_append_queue.new.self }) refl (ap outlines_in c.must_rewrite_append_queue.ensures.others.0) c.in-Ok.ensures.lived c.in-Ok.ensures.ok

pub returns-in-Err-clause-keeps : goal.returns-in-Err-clause-keeps
returns-in-Err-clause-keeps g c =
    refused_serves _ _ _ c.args.self.now (record c.args.self.now { store = c.must_rewrite_append_queue.new.self }) refl (ap outlines_in c.must_rewrite_append_queue.ensures.others.0) c.in-Err.error c.in-Err.ensures.why c.in-Err.ensures.err

pub returns-in-Ok-must_rewrite_rewrite_queue-clause-keeps : goal.returns-in-Ok-must_rewrite_rewrite_queue-clause-keeps
returns-in-Ok-must_rewrite_rewrite_queue-clause-keeps g c =
    purged_serves _ _ _ c.args.self.now (record c.args.self.now { store = c.must_rewrite_rewrite_queue.new.self }) refl (ap outlines_in c.must_rewrite_rewrite_queue.ensures.others.0) c.in-Ok-must_rewrite_rewrite_queue.ensures.lived c.in-Ok-must_rewrite_rewrite_queue.ensures.ok

pub returns-in-Err-must_rewrite_rewrite_queue-clause-keeps : goal.returns-in-Err-must_rewrite_rewrite_queue-clause-keeps
returns-in-Err-must_rewrite_rewrite_queue-clause-keeps g c =
    refused_serves _ _ _ c.args.self.now (record c.args.self.now { store = c.must_rewrite_rewrite_queue.new.self }) refl (ap outlines_in c.must_rewrite_rewrite_queue.ensures.others.0) c.in-Err-must_rewrite_rewrite_queue.error c.in-Err-must_rewrite_rewrite_queue.ensures.why c.in-Err-must_rewrite_rewrite_queue.ensures.err
