use Rattle.std.proofs.Common.{arith}
use Rattle.raft_voter.proofs.Public.{last_in_range}
use Rattle.raft_voter_plain.proofs.Damage.{handed_on, no_entries}
use Rattle.raft_voter_plain.proofs.Records.{one_more}
use Rattle.raft_voter_plain.proofs.record.read_entries.Goals as goal

pub overflow_add-base-in-loop-i : goal.overflow_add-base-in-loop-i
overflow_add-base-in-loop-i c =
    let before = c.loop-i.invariant in
    omega (arith, before.size, last_in_range c.loop-i.entries c.args.base before.entries.fit before.entries.ordered c.requires)

pub loop-i-preserved : goal.loop-i-preserved
loop-i-preserved c = rw c.in_ok-push.ensures.ok (one_more _ _ _ _ _ _ _ c.loop-i.invariant c.in_ok-entry.ensures.ok)

pub returns-in_err-entry-clause-err : goal.returns-in_err-entry-clause-err
returns-in_err-entry-clause-err c =
    handed_on c.from_residual.result _ _ c.in_err-entry.field-0.0 c.from_residual.ensures.1 c.in_err-entry.ensures.err
    (no_entries _ _ c.args.base c.args.count c.loop-i.i c.loop-i.entries c.loop-i.invariant (omega arith))
