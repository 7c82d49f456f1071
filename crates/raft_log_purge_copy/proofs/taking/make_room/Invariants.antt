use Rattle.std.proofs.Common.{take}
use Rattle.raft_log_memtables.specs.Rewriting.{GroupsStay, MayMove, PromisesMoves}
use Rattle.raft_log_memtables.specs.Tables.{IsAtRest, ShowsSame}
use Rattle.raft_log_purge_copy.specs.GroupParts.{items_of_all}
use Rattle.raft_log_purge_copy.proofs.Room.{said}
use Rattle.raft_log_purge_copy.proofs.taking.make_room.Given as goal

-- there is room for the parts so far
abbrev pub invariant-loop-part : goal.invariant-loop-part
invariant-loop-part l = record {
  asked : PromisesMoves l.fn.tables l.tables (said (items_of_all (take l.part-index l.parts)));
  stay : GroupsStay l.fn.tables l.tables;
  shows : ShowsSame l.fn.tables l.tables;
  room : MayMove l.tables (said (items_of_all (take l.part-index l.parts)));
  rests : IsAtRest l.fn.tables → IsAtRest l.tables;
}
