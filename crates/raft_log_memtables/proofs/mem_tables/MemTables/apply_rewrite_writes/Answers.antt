use Rattle.std.proofs.Common.{◌≡◌, true, false, rules, take}
use Rattle.raft_log_record_frames.specs.Marking.{has_mark_key}
use Rattle.raft_log_record_frames.specs.Meaning.{tagged, tagged_items}
use Rattle.raft_log_extents.specs.declared.place.Place.{Place}
use Rattle.raft_log_extents.specs.Entries.{place_of}
use Rattle.raft_log_memtables.proofs.Items.{tagged_more, tagged_split}
use Rattle.raft_log_memtables.proofs.Moved.{may_for, moved_more, next_may_move, still_moved}
use Rattle.raft_log_memtables.proofs.mem_tables.MemTables.apply_rewrite_writes.Goals as goal
use Rattle.raft_log_memtables.proofs.mem_tables.MemTables.apply_rewrite_writes.Goals.{then-not-is_mark, else-not-is_mark}

pub rewrite_item-requires : goal.rewrite_item-requires
rewrite_item-requires c = λ h.
    let xs = c.args.items.now in
    let x = c.item-item.result in
    let plain : has_mark_key x ≡ false = search rules in
    let whole = tagged_split {E = Place} place_of xs c.loop-item.item-index _ x c.loop-item-test.true c.item-item.is plain in
    next_may_move c.args.gate c.args.file c.args.self.now c.loop-item.self _ _ _ (tagged {E = Place} place_of x) c.loop-item.invariant whole
    (may_for place_of c.args.self.now xs c.requires) h

pub loop-item-preserved : goal.loop-item-preserved
loop-item-preserved c =
    let xs = c.args.items.now in
    let i = c.loop-item.item-index in
    let x = c.item-item.result in
    let read = tagged_items place_of (take i xs) in
    elim c.if-not-is_mark.branch [
      | then-not-is_mark w ↦
          let plain : false ≡ has_mark_key x = search rules in
          let said = tagged_more {E = Place} place_of xs i x x false c.loop-item-test.true c.item-item.is plain in
          rw (w.self-is, said) (moved_more c.args.gate c.args.file c.args.self.now c.loop-item.self w.rewrite_item.new.self read (tagged {E = Place} place_of x) c.loop-item.invariant w.rewrite_item.ensures)
      | else-not-is_mark w ↦
          let said = tagged_more {E = Place} place_of xs i x x true c.loop-item-test.true c.item-item.is w.if-not-is_mark.ensures in
          rw (w.self-is, said) (still_moved c.args.gate c.args.file c.args.self.now c.loop-item.self read c.loop-item.invariant)
    ]
