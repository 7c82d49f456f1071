use Rattle.std.proofs.Common.{ℕ, List, arith, subst}
use Rattle.raft_voter_messages.specs.StoredForms.{IsEntry}
use Rattle.raft_voter_recovery.proofs.Messages.{one_more}
use Rattle.raft_voter_recovery.proofs.entries.read_all.Goals as goal

pub loop-message-preserved : goal.loop-message-preserved
loop-message-preserved c =
    let one = subst (λ (bytes : List ℕ). IsEntry bytes c.loop-message.index c.in-Ok.entry) c.as_slice.ensures c.in-Ok.ensures.ok in
    record {
      read = one_more c.args.first c.loop-message.message-index c.loop-message.index c.args.messages.now c.message-item.result c.loop-message.entries.items c.push.new.self.items c.in-Ok.entry (omega (arith, c.loop-message-test.true))
          c.message-item.is c.loop-message.invariant.at c.loop-message.invariant.read c.in-Ok-push.ensures.items one;
      at = omega (arith, c.loop-message.invariant.at);
    }
