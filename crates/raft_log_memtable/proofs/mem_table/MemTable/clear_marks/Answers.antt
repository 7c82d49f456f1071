use Rattle.std.proofs.Common.{ap, ◌∙◌}
use Rattle.raft_log_memtable.specs.Room.{with_room_of}
use Rattle.raft_log_memtable.specs.Table.{promise, shown}
use Rattle.raft_log_memtable.specs.contracts.mem_table.MemTable.{the_view}
use Rattle.raft_log_memtable.proofs.mem_table.MemTable.clear_marks.Goals as goal

pub returns-clause-room : goal.returns-clause-room
returns-clause-room c =
    ap (λ ks. record (promise (the_view c.self.inside)) { has = ks.has }) c.clear_marks.ensures
    ∙ ap (λ t. with_room_of (promise t) (shown t)) c.self.view_is
