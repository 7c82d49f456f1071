use Rattle.std.proofs.Common.{◌≡◌, ℕ, false, List, subst, arith}
use Rattle.raft_log_record_items.specs.Items.{put_item}
use Rattle.raft_log_record_frames.specs.Marking.{has_mark_key}
use Rattle.raft_log_record_batches.specs.Batch.{Puts}
use Rattle.std.proofs.lemmas.Result.{err_from_is_err_and}
use Rattle.raft_log_purge_copy.proofs.KeysCopied.{key_unput}
use Rattle.raft_log_purge_copy.proofs.Building.{all_keys, key_more, no_keys}
use Rattle.raft_log_purge_copy.proofs.pieces.add_keys.Goals as goal

pub loop-pair-init : goal.loop-pair-init
loop-pair-init c = no_keys c.args.group c.args.batch.now c.requires

pub loop-pair-preserved : goal.loop-pair-preserved
loop-pair-preserved c =
    let key : c.as_slice.result.now ≡ c.pair-item.result.0 = c.as_slice.ensures in
    let value : c.as_slice-in-loop-pair.result.now ≡ c.pair-item.result.1 = c.as_slice-in-loop-pair.ensures in
    let none = subst (λ (w : List ℕ). has_mark_key (put_item c.args.group c.pair-item.result.0 w) ≡ false) value
    (subst (λ (k : List ℕ). has_mark_key (put_item c.args.group k c.as_slice-in-loop-pair.result.now) ≡ false) key c.in_ok-put_as_read.ensures.plain) in
    key_more c.args.group c.args.pairs.now c.loop-pair.pair-index c.pair-item.result c.pair-item.result c.args.batch.now c.loop-pair.batch c.put_as_read.new.self c.loop-pair-test.true c.pair-item.is c.loop-pair.invariant none
    (subst (λ (w : List ℕ). Puts c.loop-pair.batch c.put_as_read.new.self c.args.group c.pair-item.result.0 w) value
    (subst (λ (k : List ℕ). Puts c.loop-pair.batch c.put_as_read.new.self c.args.group k c.as_slice-in-loop-pair.result.now) key c.in_ok-put_as_read.ensures.ok))

pub returns-clause-ok : goal.returns-clause-ok
returns-clause-ok c = all_keys c.args.group c.args.pairs.now c.loop-pair.pair-index c.args.batch.now c.loop-pair.batch (omega (arith, c.loop-pair-test.false)) c.loop-pair.invariant

pub returns-in_err-put_as_read-clause-errors : goal.returns-in_err-put_as_read-clause-errors
returns-in_err-put_as_read-clause-errors c =
    let p = err_from_is_err_and c.from_residual.result c.from_residual.ensures.1 in
    rw (p.1, p.2)
    (key_unput c.args.group c.args.pairs.now c.loop-pair.pair-index c.pair-item.result c.pair-item.result c.as_slice.result.now c.in_err-put_as_read.field-0.0 c.loop-pair-test.true c.pair-item.is c.as_slice.ensures c.in_err-put_as_read.ensures.errors)
