use Rattle.std.proofs.Common.{◌≡◌, ◌<◌, ℕ, length, slice_get, Some, sym, ap, ◌∙◌, arith}
use Rattle.std.proofs.lemmas.Option.{slice_get-get_or}
use Rattle.raft_voter_shared.proofs.Clashing.{noted_one}
use Rattle.raft_voter_shared.proofs.clashes.noted_turns.Goals as goal

pub loop-receipt-preserved : goal.loop-receipt-preserved
loop-receipt-preserved g c =
    let index : ℕ = c.loop-receipt.receipt-index in
    let inside : index < length c.args.receipts.now = omega (arith, c.loop-receipt-test.true) in
    let at : slice_get c.args.receipts.now index ≡ Some c.statement.result.now =
    slice_get-get_or c.args.receipts.now index c.receipt-item.result inside ∙ ap Some (sym c.receipt-item.is ∙ sym c.statement.ensures) in
    noted_one c.args.first c.args.receipts.now index c.loop-receipt.turns.items c.note_turn.new.turns.items c.statement.result.now at
    c.note_turn.ensures.before (c.note_turn.ensures.free c.if-not-note_turn.false) (c.note_turn.ensures.noted c.if-not-note_turn.false)
    c.loop-receipt.invariant
