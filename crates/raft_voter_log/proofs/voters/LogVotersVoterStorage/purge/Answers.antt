use Rattle.std.proofs.Common.{ap, refl}
use Rattle.raft_voter_outline.specs.Kept.{outlines_in}
use Rattle.raft_voter_world.specs.declared.faults.Purge.TheVariants.{Expired}
use Rattle.raft_voter_log.proofs.Purging.{purged_as, purged_keeps, refused_keeps}
use Rattle.raft_voter_log.proofs.voters.LogVotersVoterStorage.purge.Goals as goal

pub returns-in-Ok-clause-keeps : goal.returns-in-Ok-clause-keeps
returns-in-Ok-clause-keeps g c =
    purged_keeps _ _ _ c.args.self.now (record c.args.self.now { store = c.maintain.new.self }) refl (ap outlines_in c.maintain.ensures.others.0) c.in-Ok.ensures.lived c.in-Ok.ensures.ok

pub returns-in-Ok-clause-purges : goal.returns-in-Ok-clause-purges
returns-in-Ok-clause-purges g c =
    purged_as _ c.args.purge Expired c.args.self.now.store.engine c.maintain.new.self.engine _ _ c.in-Expired.is (c.in-Ok.field-0.items, c.in-Ok.ensures.purges)

pub returns-in-Expired-clause-keeps : goal.returns-in-Expired-clause-keeps
returns-in-Expired-clause-keeps g c =
    refused_keeps _ _ _ c.args.self.now (record c.args.self.now { store = c.maintain.new.self }) refl (ap outlines_in c.maintain.ensures.others.0) c.in-Err.error c.in-Err.ensures.why c.in-Err.ensures.err

pub returns-in-Ok-must_rewrite_append_queue-clause-keeps : goal.returns-in-Ok-must_rewrite_append_queue-clause-keeps
returns-in-Ok-must_rewrite_append_queue-clause-keeps g c =
    purged_keeps _ _ _ c.args.self.now (record c.args.self.now { store = c.must_rewrite_append_queue.new.self }) refl (ap outlines_in c.must_rewrite_append_queue.ensures.others.0)
    c.in-Ok-must_rewrite_append_queue.ensures.lived c.in-Ok-must_rewrite_append_queue.ensures.ok

pub returns-in-RewriteAppend-clause-keeps : goal.returns-in-RewriteAppend-clause-keeps
returns-in-RewriteAppend-clause-keeps g c =
    refused_keeps _ _ _ c.args.self.now (record c.args.self.now { store = c.must_rewrite_append_queue.new.self }) refl (ap outlines_in c.must_rewrite_append_queue.ensures.others.0)
    c.in-Err-must_rewrite_append_queue.error c.in-Err-must_rewrite_append_queue.ensures.why c.in-Err-must_rewrite_append_queue.ensures.err

pub returns-in-Ok-must_rewrite_rewrite_queue-clause-keeps : goal.returns-in-Ok-must_rewrite_rewrite_queue-clause-keeps
returns-in-Ok-must_rewrite_rewrite_queue-clause-keeps g c =
    purged_keeps _ _ _ c.args.self.now (record c.args.self.now { store = c.must_rewrite_rewrite_queue.new.self }) refl (ap outlines_in c.must_rewrite_rewrite_queue.ensures.others.0)
    c.in-Ok-must_rewrite_rewrite_queue.ensures.lived c.in-Ok-must_rewrite_rewrite_queue.ensures.ok

pub returns-clause-keeps : goal.returns-clause-keeps
returns-clause-keeps g c =
    refused_keeps _ _ _ c.args.self.now (record c.args.self.now { store = c.must_rewrite_rewrite_queue.new.self }) refl (ap outlines_in c.must_rewrite_rewrite_queue.ensures.others.0)
    c.in-Err-must_rewrite_rewrite_queue.error c.in-Err-must_rewrite_rewrite_queue.ensures.why c.in-Err-must_rewrite_rewrite_queue.ensures.err
