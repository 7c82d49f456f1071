use Rattle.raft_voter_plain.proofs.Damage.{any_err, handed_on, no_count, no_entries_read, no_group, no_state, no_state_read, stored_fault}
use Rattle.raft_voter_plain.proofs.Records.{record_read}
use Rattle.raft_voter_plain.proofs.record.read_voter_record.Goals as goal

pub returns-clause-ok : goal.returns-clause-ok
returns-clause-ok c =
    record_read _ _ _ _ _ _ _ _ _ _ _ c.in_ok-group.ensures.ok c.in_ok-state.ensures.ok c.in_ok-state-2.ensures.ok c.in_ok-count.ensures.ok
    c.in_ok-entries.ensures.ok c.in_ok-voter.ensures.ok

pub returns-in_err-group-clause-err : goal.returns-in_err-group-clause-err
returns-in_err-group-clause-err c = any_err c.from_residual.result _ (no_group c.args.bytes.now c.in_err-group.ensures.err.1)

pub returns-in_err-state-clause-err : goal.returns-in_err-state-clause-err
returns-in_err-state-clause-err c =
    let group = c.in_ok-group.ensures.ok in
    any_err c.from_residual-in_err-state.result _ (no_state _ _ _ group.text group.small c.in_err-state.ensures.err.1)

pub returns-in_err-state-2-clause-err : goal.returns-in_err-state-2-clause-err
returns-in_err-state-2-clause-err c =
    let group = c.in_ok-group.ensures.ok in
    let state = c.in_ok-state.ensures.ok in
    let fault = c.in_err-state-2.field-0.0 in
    stored_fault c.from_residual-in_err-state-2.result _ fault c.from_residual-in_err-state-2.ensures.1
    (λ _. no_state_read _ _ _ _ _ fault group.text group.small state.text state.size c.in_err-state-2.ensures.err)

pub returns-in_err-count-clause-err : goal.returns-in_err-count-clause-err
returns-in_err-count-clause-err c =
    let group = c.in_ok-group.ensures.ok in
    let state = c.in_ok-state.ensures.ok in
    any_err c.from_residual-in_err-count.result _ (no_count _ _ _ _ _ group.text group.small state.text state.size c.in_err-count.ensures.err.1)

pub returns-in_err-entries-clause-err : goal.returns-in_err-entries-clause-err
returns-in_err-entries-clause-err c =
    let group = c.in_ok-group.ensures.ok in
    let state = c.in_ok-state.ensures.ok in
    let count = c.in_ok-count.ensures.ok in
    handed_on c.from_residual-in_err-entries.result _ _ c.in_err-entries.field-0.0 c.from_residual-in_err-entries.ensures.1 c.in_err-entries.ensures.err
    (no_entries_read _ _ _ _ _ _ _ _ group.text group.small state.text state.size c.in_ok-state-2.ensures.ok count.text count.small)
