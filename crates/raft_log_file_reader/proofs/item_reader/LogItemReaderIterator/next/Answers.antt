use Rattle.std.specs.Vec.Iter.{into_iter_items}
use Rattle.std.proofs.Common.{◌≡◌, length, refl, arith}
use Rattle.raft_log_file_reader.specs.declared.item_reader.LogItemReader.{LogItemReader}
use Rattle.raft_log_file_reader.proofs.Items.{empty_of, refused}
use Rattle.raft_log_file_reader.proofs.item_reader.LogItemReaderIterator.next.Goals as goal

pub returns-in-Err-clause-steps : goal.returns-in-Err-clause-steps
returns-in-Err-clause-steps g c =
    let from = c.loop-item.self in
    let new : LogItemReader _ = record { alloc = from.alloc; file_system = from.file_system; batches = c.next-in-loop-item.new.self; items = c.next.new.self } in
    let empty : length (into_iter_items from.items) ≡ 0 = omega (arith, c.in_default.ensures.cases) in
    let left : length (into_iter_items c.next.new.self) ≡ 0 = omega (arith, c.in_default.ensures.cases) in
    let none = empty_of (into_iter_items from.items) empty in
    let still = empty_of (into_iter_items c.next.new.self) left in
    (refused g.F.FileSystem.disk c.in-Err.error c.args.self.now from new c.loop-item.invariant none still refl c.in-Err.ensures.err c.in-Err.ensures.fewer_behind).0
