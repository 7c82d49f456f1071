use Rattle.raft_crash_examples.proofs.Purged.{purged}
use Rattle.raft_crash_examples.proofs.purging.purge_once.Goals as goal

pub returns-in-Expired : goal.returns-in-Expired
returns-in-Expired g c = purged c.purge_expired_files.result _ _ c.purge_expired_files.ensures.model

pub returns-in-Append : goal.returns-in-Append
returns-in-Append g c = purged c.must_rewrite_append_queue.result _ _ c.must_rewrite_append_queue.ensures.model

pub returns-in-Rewrite : goal.returns-in-Rewrite
returns-in-Rewrite g c = purged c.must_rewrite_rewrite_queue.result _ _ c.must_rewrite_rewrite_queue.ensures.model

pub returns-in-Stale : goal.returns-in-Stale
returns-in-Stale g c = purged c.must_purge_all_stale.result _ _ c.must_purge_all_stale.ensures.model
