use Rattle.std.proofs.Common.{◌≡◌, refl, subst}
use Rattle.raft_log_record_items.specs.declared.item.LogItem.{LogItem}
use Rattle.raft_log_record_items.specs.Items.{IsItem}
use Rattle.raft_log_record_items.specs.Writing.{item_bytes, plain_item}
use Rattle.raft_examples.specs.Counter.{counter_put}
use Rattle.raft_examples.proofs.items.counter_item.Goals as goal

-- what is written of the item spells it, and it has no place
pub returns-clause-spelled : goal.returns-clause-spelled
returns-clause-spelled c =
    let item : LogItem = counter_put c.args.group c.args.key.now c.args.counter.count in
    let same : c.new_kv-item.result ≡ item = rw (c.new_kv-item.ensures, c.in_ok-key.ensures, c.from_vec.ensures, c.in_ok-write.ensures.ok, c.new-value.ensures.items) refl in
    let spelled : IsItem (item_bytes item) (plain_item item) = subst (λ (x : LogItem). IsItem (item_bytes x) (plain_item x)) same c.in_ok-encode.ensures.spelled in
    rw (c.in_ok-encode.ensures.ok, c.new-out.ensures.items, same) spelled
