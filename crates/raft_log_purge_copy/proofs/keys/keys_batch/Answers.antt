use Rattle.std.proofs.Common.{◌≡◌, ℕ, false, List, subst}
use Rattle.raft_log_record_items.specs.Items.{put_item}
use Rattle.raft_log_record_frames.specs.Marking.{has_mark_key}
use Rattle.raft_log_record_batches.specs.Batch.{Puts}
use Rattle.std.proofs.lemmas.Result.{err_from_is_err_and}
use Rattle.raft_log_purge_copy.proofs.KeysCopied.{key_more, key_unput}
use Rattle.raft_log_purge_copy.proofs.keys.keys_batch.Goals as goal

pub loop-pair-preserved : goal.loop-pair-preserved
loop-pair-preserved c =
    let key : c.as_slice.result.now ≡ c.pair-item.result.0 = c.as_slice.ensures in
    let value : c.as_slice-in-loop-pair.result.now ≡ c.pair-item.result.1 = c.as_slice-in-loop-pair.ensures in
    let none = subst (λ (w : List ℕ). has_mark_key (put_item c.args.group c.pair-item.result.0 w) ≡ false) value
    (subst (λ (k : List ℕ). has_mark_key (put_item c.args.group k c.as_slice-in-loop-pair.result.now) ≡ false) key c.in_ok-put_as_read.ensures.plain) in
    key_more c.args.group c.args.pairs.now c.loop-pair.pair-index c.pair-item.result c.pair-item.result c.loop-pair.batch c.put_as_read.new.self c.loop-pair-test.true c.pair-item.is c.loop-pair.invariant none
    (subst (λ (w : List ℕ). Puts c.loop-pair.batch c.put_as_read.new.self c.args.group c.pair-item.result.0 w) value
    (subst (λ (k : List ℕ). Puts c.loop-pair.batch c.put_as_read.new.self c.args.group k c.as_slice-in-loop-pair.result.now) key c.in_ok-put_as_read.ensures.ok))

pub returns-in_err-put_as_read-clause-errors : goal.returns-in_err-put_as_read-clause-errors
returns-in_err-put_as_read-clause-errors c =
    let p = err_from_is_err_and c.from_residual-in_err-put_as_read.result c.from_residual-in_err-put_as_read.ensures.1 in
    rw (p.1, p.2)
    (key_unput c.args.group c.args.pairs.now c.loop-pair.pair-index c.pair-item.result c.pair-item.result c.as_slice.result.now c.in_err-put_as_read.field-0.0 c.loop-pair-test.true c.pair-item.is c.as_slice.ensures c.in_err-put_as_read.ensures.errors)
