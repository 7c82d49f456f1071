use Rattle.raft_log_record_items.proofs.ItemPlaces.{written_step}
use Rattle.raft_log_record_items.proofs.items.set_written.Goals as goal

pub loop-item-preserved : goal.loop-item-preserved
loop-item-preserved c =
    written_step c.args.handle c.args.items.now c.loop-item.items c.loop-item.item-index c.item-item.result c.set_content_written.new.content c.loop-item-test.true c.loop-item.invariant c.set_content_written.ensures
