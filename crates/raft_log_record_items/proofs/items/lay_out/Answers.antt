use Rattle.std.proofs.Common.{◌+◌, arith, ◌∙◌}
use Rattle.raft_log_record_items.proofs.ItemPlaces.{laid_item, laid_end, entries_len-take}
use Rattle.raft_log_record_items.proofs.items.lay_out.Goals as goal

pub lay_out_content-next-requires : goal.lay_out_content-next-requires
lay_out_content-next-requires c =
    let old = c.args.items.now in
    let i = c.loop-item.item-index in
    omega (
      arith,
      laid_end c.args.offset c.loop-item.next old c.loop-item.items i c.item-item.result c.loop-item-test.true c.loop-item.invariant.0 c.loop-item.invariant.1,
      entries_len-take (i + 1) old,
      c.requires,
    )

pub loop-item-preserved : goal.loop-item-preserved
loop-item-preserved c =
    let old = c.args.items.now in
    let i = c.loop-item.item-index in (
      laid_item c.args.offset c.loop-item.next old c.loop-item.items i c.item-item.result c.lay_out_content-next.new.content c.loop-item-test.true c.loop-item.invariant.0 c.loop-item.invariant.1 c.lay_out_content-next.ensures.laid,
      c.lay_out_content-next.ensures.end ∙ laid_end c.args.offset c.loop-item.next old c.loop-item.items i c.item-item.result c.loop-item-test.true c.loop-item.invariant.0 c.loop-item.invariant.1,
    )
