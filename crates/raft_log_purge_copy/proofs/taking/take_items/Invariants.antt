use Rattle.std.proofs.Common.{drop, take}
use Rattle.raft_log_memtables.specs.Rewriting.{GroupsStay}
use Rattle.raft_log_memtables.specs.Tables.{IsAtRest}
use Rattle.raft_log_purge_copy.specs.Owed.{AddsNoMarks}
use Rattle.raft_log_purge_copy.specs.Taking.{HaveRoom}
use Rattle.raft_log_purge_copy.specs.GroupParts.{items_of_all}
use Rattle.raft_log_purge_copy.proofs.Room.{TakesParts}
use Rattle.raft_log_purge_copy.proofs.Together.{Spends}
use Rattle.raft_log_purge_copy.proofs.taking.take_items.Given as goal

-- the parts so far moved, and there is room for the others
abbrev pub invariant-loop-part : goal.invariant-loop-part
invariant-loop-part l = record {
  took : TakesParts (take l.part-index l.parts) l.fn.tables l.tables;
  stay : GroupsStay l.fn.tables l.tables;
  room : HaveRoom l.tables (drop l.part-index l.parts) l.items;
  rests : IsAtRest l.fn.tables → IsAtRest l.tables;
  owes : AddsNoMarks l.fn.tables l.tables;
  spent : Spends l.fn.tables l.tables (items_of_all (take l.part-index l.parts));
}
