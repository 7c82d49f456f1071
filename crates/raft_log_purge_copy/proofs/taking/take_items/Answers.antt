use Rattle.std.proofs.Common.{◌+◌, List, None, drop, sym, subst}
use Rattle.raft_log_record_items.specs.declared.item.LogItem.{LogItem}
use Rattle.raft_log_record_frames.specs.Meaning.{tagged_items}
use Rattle.raft_log_extents.specs.Entries.{place_of}
use Rattle.raft_log_memtables.specs.Rewriting.{MayMove, TakesRewritten}
use Rattle.raft_log_purge_copy.proofs.Adding.{taken_adds}
use Rattle.raft_log_purge_copy.proofs.Room.{items_taken, part_taken, parts_left, room_first, room_rest, said, stay_twice}
use Rattle.raft_log_purge_copy.proofs.Together.{spent_all, spent_more}
use Rattle.raft_log_purge_copy.proofs.taking.take_items.Goals as goal

pub apply_rewrite_writes-requires : goal.apply_rewrite_writes-requires
apply_rewrite_writes-requires c =
    let i = c.loop-part.part-index in
    let parts = c.args.parts.now in
    let x = c.part-item.result in
    subst (λ (l : List LogItem). MayMove c.loop-part.tables (said l)) (sym c.as_slice.ensures.value)
    (room_first c.loop-part.tables (drop i parts) c.args.items.now c.loop-part.invariant.room x (drop (i + 1) parts) (parts_left parts i x x c.loop-part-test.true c.part-item.is))

pub loop-part-preserved : goal.loop-part-preserved
loop-part-preserved c =
    let i = c.loop-part.part-index in
    let parts = c.args.parts.now in
    let x = c.part-item.result in
    let so_far = c.loop-part.invariant in
    let m = c.loop-part.tables in
    let k = c.apply_rewrite_writes.new.self in
    let e = c.apply_rewrite_writes.ensures in
    let done = subst (λ (l : List LogItem). TakesRewritten None x.block.id.seq m k (tagged_items place_of l)) c.as_slice.ensures.value e.moved in record {
      took = part_taken c.args.tables.now m k parts i x x c.loop-part-test.true c.part-item.is so_far.took done;
      stay = stay_twice c.args.tables.now m k so_far.stay e.moved.stay;
      room = room_rest m (drop i parts) c.args.items.now so_far.room x (drop (i + 1) parts) (parts_left parts i x x c.loop-part-test.true c.part-item.is) k x.block.id.seq done;
      rests = λ r. e.rest (so_far.rests r);
      owes = λ v h. taken_adds None x.block.id.seq m k (tagged_items place_of x.items.items) done v (so_far.owes v h);
      spent = spent_more None x.block.id.seq c.args.tables.now m k parts i x x c.loop-part-test.true c.part-item.is so_far.spent done;
    }

pub returns-clause-took : goal.returns-clause-took
returns-clause-took c =
    items_taken c.args.tables.now c.loop-part.tables c.apply_rewrite_writes-2.new.self c.args.parts.now c.loop-part.part-index c.args.items.now c.args.block c.loop-part-test.false c.loop-part.invariant.took c.loop-part.invariant.stay
    c.apply_rewrite_writes-2.ensures.moved

pub returns-clause-owes : goal.returns-clause-owes
returns-clause-owes c =
    λ v h.
    taken_adds None c.args.block.id.seq c.loop-part.tables c.apply_rewrite_writes-2.new.self (tagged_items place_of c.args.items.now) c.apply_rewrite_writes-2.ensures.moved v (c.loop-part.invariant.owes v h)

pub returns-clause-spent : goal.returns-clause-spent
returns-clause-spent c =
    spent_all None c.args.block.id.seq c.args.tables.now c.loop-part.tables c.apply_rewrite_writes-2.new.self c.args.parts.now c.loop-part.part-index c.args.items.now c.loop-part-test.false c.loop-part.invariant.spent c.apply_rewrite_writes-2.ensures.moved
