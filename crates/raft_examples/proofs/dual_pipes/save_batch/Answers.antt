use Rattle.std.proofs.Common.{subst}
use Rattle.raft_log_machine_laws.specs.Calls.Which.{InAppend}
use Rattle.raft_log_dual_pipes.specs.Calls.{AppendsTo}
use Rattle.raft_log_block_cache.specs.Signing.{signed_for}
use Rattle.raft_examples.proofs.dual_pipes.save_batch.Goals as goal

pub returns-clause-ok : goal.returns-clause-ok
returns-clause-ok g c =
    let shown = g.P.PipeLog.shown in
    record {
      between = shown c.append.new.self;
      written = subst (λ b. AppendsTo InAppend (signed_for b) c.in_ok-place.place (shown c.args.pipes.now) (shown c.append.new.self)) c.new-signed.ensures c.in_ok-place.ensures.ok;
      synced = c.in_ok-sync.ensures.ok;
    }
