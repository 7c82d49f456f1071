use Rattle.std.proofs.Common.{ℕ, List, ◌<◌, ◌++◌, length, take, flat_map, arith, sym, subst}
use Rattle.std.proofs.lemmas.Result.{err_from_is_err_and}
use Rattle.raft_log_record_items.specs.Writing.{item_bytes, KeepsFront}
use Rattle.std.proofs.lemmas.List.{append-nil}
use Rattle.raft_log_record_items.proofs.Each.{keeps_more, each_more, each_spelled, no_times}
use Rattle.raft_log_record_items.proofs.items.append_each.Goals as goal

pub loop-item-init : goal.loop-item-init
loop-item-init c = (sym (append-nil _), no_times)

pub returns-in_err-append_item-clause-err : goal.returns-in_err-append_item-clause-err
returns-in_err-append_item-clause-err c =
    let p = err_from_is_err_and c.from_residual.result c.from_residual.ensures.1 in
    let kept : KeepsFront (c.args.out.now.items ++ flat_map item_bytes (take c.loop-item.item-index c.args.items.now)) c.append_item.new.out.items =
    subst (λ (l : List ℕ). KeepsFront l c.append_item.new.out.items) c.loop-item.invariant.0 c.in_err-append_item.ensures.err in
    rw p.1 (keeps_more c.args.out.now.items _ c.append_item.new.out.items kept)

pub loop-item-preserved : goal.loop-item-preserved
loop-item-preserved c =
    let lt : c.loop-item.item-index < length c.args.items.now = omega arith in (
      each_more c.args.out.now.items c.args.items.now c.loop-item.item-index c.item-item.result c.loop-item.out.items _ lt c.item-item.is c.loop-item.invariant.0 c.in_ok-append_item.ensures.ok,
      each_spelled c.args.items.now c.loop-item.item-index c.item-item.result lt c.item-item.is c.loop-item.invariant.1 c.in_ok-append_item.ensures.spelled,
    )
