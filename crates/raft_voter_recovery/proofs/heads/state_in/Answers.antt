use Rattle.std.proofs.Common.{refl, inr, arith}
use Rattle.raft_voter_recovery.proofs.Keys.{no_pairs, told_of_broken_state, told_of_other_key, told_of_state}
use Rattle.raft_voter_recovery.proofs.heads.state_in.Goals as goal

pub returns-in-empty-clause-ok : goal.returns-in-empty-clause-ok
returns-in-empty-clause-ok c = no_pairs c.args.pairs.now (omega (arith, c.in-empty.len_below))

pub returns-then-ne-clause-err : goal.returns-then-ne-clause-err
returns-then-ne-clause-err c =
    told_of_other_key c.args.group c.args.pairs.now c.index-pairs-0.result c.as_slice.result.now c.as_slice-in-len1.result.now c.ne.result (omega (arith, c.in-len1.len_at_least)) (omega (arith, c.in-len1.len_below)) c.as_slice.ensures c.as_slice-in-len1.ensures
    c.ne.ensures c.if-ne.true

pub returns-in-Ok-clause-ok : goal.returns-in-Ok-clause-ok
returns-in-Ok-clause-ok c =
    told_of_state c.args.pairs.now c.index-pairs-0.result c.index-pairs-0-then-pairs-lt2.result c.as_slice.result.now c.as_slice-in-len1.result.now c.as_slice-in-len1-2.result.now c.ne.result (omega (arith, c.in-len1.len_at_least))
    (omega (arith, c.in-len1.len_below)) c.as_slice.ensures c.as_slice-in-len1.ensures c.ne.ensures c.if-ne.false c.as_slice-in-len1-2.ensures c.in-Ok.state c.in-Ok.ensures.ok

pub returns-in-Err-clause-err : goal.returns-in-Err-clause-err
returns-in-Err-clause-err c =
    told_of_broken_state c.args.pairs.now c.index-pairs-0.result c.index-pairs-0-then-pairs-lt2.result c.as_slice.result.now c.as_slice-in-len1.result.now c.as_slice-in-len1-2.result.now c.ne.result (omega (arith, c.in-len1.len_at_least))
    (omega (arith, c.in-len1.len_below)) c.as_slice.ensures c.as_slice-in-len1.ensures c.ne.ensures c.if-ne.false c.as_slice-in-len1-2.ensures c.args.group c.in-Err.field-0 c.in-Err.ensures.err

pub returns-in_default-clause-err : goal.returns-in_default-clause-err
returns-in_default-clause-err c = (refl, inr (inr (omega (arith, c.in_default.len_at_least))))
