use Rattle.raft_voter_plain.proofs.Damage.{any_err, no_entry_read, no_own, no_size, stored_fault}
use Rattle.raft_voter_plain.proofs.Records.{one_entry}
use Rattle.raft_voter_plain.proofs.record.read_one.Goals as goal

pub returns-clause-ok : goal.returns-clause-ok
returns-clause-ok c = one_entry _ _ _ _ _ _ c.in_ok-entry.entry c.in_ok-size.ensures.ok c.in_ok-stored.ensures.ok c.in_ok-entry.ensures.ok

pub returns-in_err-size-clause-err : goal.returns-in_err-size-clause-err
returns-in_err-size-clause-err c = any_err c.from_residual.result _ (no_size c.args.bytes.now c.args.index c.in_err-size.ensures.err.1)

pub returns-in_err-stored-clause-err : goal.returns-in_err-stored-clause-err
returns-in_err-stored-clause-err c =
    let size = c.in_ok-size.ensures.ok in
    any_err c.from_residual-in_err-stored.result _ (no_own _ _ _ c.args.index size.text size.small c.in_err-stored.ensures.err.1)

pub returns-in_err-entry-clause-err : goal.returns-in_err-entry-clause-err
returns-in_err-entry-clause-err c =
    let size = c.in_ok-size.ensures.ok in
    let own = c.in_ok-stored.ensures.ok in
    stored_fault c.from_residual-in_err-entry.result _ c.in_err-entry.field-0.0 c.from_residual-in_err-entry.ensures.1
    (no_entry_read _ _ _ _ _ c.args.index c.in_err-entry.field-0.0 size.text size.small own.size own.text c.in_err-entry.ensures.err)
