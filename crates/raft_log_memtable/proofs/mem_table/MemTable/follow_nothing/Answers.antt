use Rattle.std.proofs.Common.{ap, sym, ◌∙◌}
use Rattle.raft_log_memtable_index.specs.Replayed.{joined, nothing_replayed}
use Rattle.raft_log_memtable.specs.Replays.{begin_alone}
use Rattle.raft_log_memtable.specs.Table.{replay_of, shown}
use Rattle.raft_log_memtable.specs.contracts.mem_table.MemTable.{the_view}
use Rattle.raft_log_memtable.proofs.Behind.{joined_first}
use Rattle.raft_log_memtable.proofs.Reread.{replays}
use Rattle.raft_log_memtable.proofs.mem_table.MemTable.follow_nothing.Goals as goal

pub returns-clause-read : goal.returns-clause-read
returns-clause-read c =
    let t = the_view c.self.inside in
    let begins = c.begin_alone-self-inside.ensures ∙ ap (λ u. begin_alone (shown u)) (sym c.self.view_is) in
    replays (replay_of c.take_back.new.self) (record (replay_of t) { table = record (shown t) { first = begin_alone (shown t) } })
    (c.take_back.ensures.shows ∙ ap (λ n. record (shown t) { first = n }) begins) c.take_back.ensures.bounds.0 c.take_back.ensures.bounds.1
    ∙ joined_first (replay_of t) c.self.invariant.0
    ∙ ap (λ u. joined nothing_replayed (replay_of u)) c.self.view_is
