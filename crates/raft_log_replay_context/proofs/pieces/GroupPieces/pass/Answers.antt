use Rattle.raft_log_replay_context.proofs.pieces.GroupPieces.pass.Goals as goal

pub returns-in_ok-push-in-Some-Ends-clause-done : goal.returns-in_ok-push-in-Some-Ends-clause-done
returns-in_ok-push-in-Some-Ends-clause-done c =
    rw (c.in-Some-Ends.is, c.in-Some-Ends.field-0-is)
    (c.in_ok-joined-in-Some-Ends.field-0, c.in_ok-push-in-Some-Ends.ensures.items, c.in_ok-joined-in-Some-Ends.ensures)
