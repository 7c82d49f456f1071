use Rattle.std.proofs.Common.{List, ℕ, arith, subst}
use Rattle.raft_voter_messages.specs.StoredForms.{IsEntry}
use Rattle.raft_voter_store.proofs.Reading.{read_more}
use Rattle.raft_voter_store.proofs.entries.read_entries.Goals as goal

pub loop-message-preserved : goal.loop-message-preserved
loop-message-preserved c =
    let one = subst (λ (bytes : List ℕ). IsEntry bytes c.loop-message.index c.in-Ok.entry) c.as_slice.ensures c.in-Ok.ensures.ok in (
      read_more c.args.first c.loop-message.message-index c.loop-message.index c.args.messages.now c.message-item.result _ _ c.in-Ok.entry (omega (arith, c.loop-message-test.true)) c.message-item.is c.loop-message.invariant.1 c.loop-message.invariant.0 c.in_ok-push.ensures.ok one,
      omega (arith, c.loop-message.invariant.1),
    )
