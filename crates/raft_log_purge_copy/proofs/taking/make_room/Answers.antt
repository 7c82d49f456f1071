use Rattle.std.proofs.Common.{refl}
use Rattle.std.proofs.lemmas.Result.{err_from_is_err_and}
use Rattle.raft_log_memtables.proofs.Public.{none_promised}
use Rattle.raft_log_purge_copy.proofs.Together.{asked_more, asked_then, last_let_go, part_let_go}
use Rattle.raft_log_purge_copy.proofs.Room.{no_room_yet, room_more, room_then, same_twice, stay_same, stay_then, stay_twice}
use Rattle.raft_log_purge_copy.proofs.taking.make_room.Goals as goal

pub loop-part-preserved : goal.loop-part-preserved
loop-part-preserved c =
    let so_far = c.loop-part.invariant in
    let e = c.prepare_rewrite.ensures in record {
      asked = asked_more c.args.tables.now c.loop-part.tables c.prepare_rewrite.new.self c.args.parts.now c.loop-part.part-index c.part-item.result c.part-item.result c.as_slice.result.now c.loop-part-test.true c.part-item.is c.as_slice.ensures.value so_far.asked c.in_ok-prepare_rewrite.ensures.ok;
      stay = stay_twice c.args.tables.now c.loop-part.tables c.prepare_rewrite.new.self so_far.stay c.in_ok-prepare_rewrite.ensures.ok.stay;
      shows = same_twice c.args.tables.now c.loop-part.tables c.prepare_rewrite.new.self so_far.shows e.shows;
      room = room_more c.loop-part.tables c.prepare_rewrite.new.self c.args.parts.now c.loop-part.part-index c.part-item.result c.part-item.result c.as_slice.result.now c.loop-part-test.true c.part-item.is c.as_slice.ensures.value so_far.room c.in_ok-prepare_rewrite.ensures.ok;
      rests = λ r. e.rest (so_far.rests r);
    }

pub returns-clause-ok : goal.returns-clause-ok
returns-clause-ok c =
    room_then c.loop-part.tables c.prepare_rewrite-2.new.self c.args.parts.now c.loop-part.part-index c.args.items.now c.prepare_rewrite-2.result c.loop-part-test.false c.loop-part.invariant.room c.prepare_rewrite-2.ensures.ok

pub loop-part-init : goal.loop-part-init
loop-part-init c = record { asked = none_promised c.args.tables.now; stay = stay_same c.args.tables.now; shows = record { shown = λ g. refl; counts = λ g. refl }; room = no_room_yet c.args.tables.now; rests = λ r. r }

pub returns-clause-stay : goal.returns-clause-stay
returns-clause-stay c = stay_then c.args.tables.now c.loop-part.tables c.prepare_rewrite-2.new.self c.args.items.now c.prepare_rewrite-2.result c.loop-part.invariant.stay c.prepare_rewrite-2.ensures.ok

pub returns-clause-asked : goal.returns-clause-asked
returns-clause-asked c =
    asked_then c.args.tables.now c.loop-part.tables c.prepare_rewrite-2.new.self c.args.parts.now c.loop-part.part-index c.args.items.now c.prepare_rewrite-2.result c.loop-part-test.false c.loop-part.invariant.asked c.prepare_rewrite-2.ensures.ok

pub returns-in_err-prepare_rewrite-clause-moves : goal.returns-in_err-prepare_rewrite-clause-moves
returns-in_err-prepare_rewrite-clause-moves c =
    let p = err_from_is_err_and c.from_residual.result c.from_residual.ensures.1 in
    rw p.1
    (part_let_go c.args.tables.now c.loop-part.tables c.prepare_rewrite.new.self c.args.parts.now c.loop-part.part-index c.part-item.result c.part-item.result c.args.items.now c.as_slice.result.now c.loop-part-test.true c.part-item.is c.as_slice.ensures.value
    c.loop-part.invariant.asked c.in_err-prepare_rewrite.ensures.err)

pub returns-clause-moves : goal.returns-clause-moves
returns-clause-moves c =
    last_let_go c.args.tables.now c.loop-part.tables c.prepare_rewrite-2.new.self c.args.parts.now c.loop-part.part-index c.args.items.now c.prepare_rewrite-2.result c.loop-part.invariant.asked c.prepare_rewrite-2.ensures.err
