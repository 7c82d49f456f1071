use Rattle.std.proofs.Common.{ap, false, ◌∙◌}
use Rattle.raft_log_extents.specs.Entries.{PlaceList, run_of}
use Rattle.raft_log_memtable_index.specs.Replayed.{high_with, replay_step, replayed}
use Rattle.raft_log_memtable.specs.Table.{replay_of, shown}
use Rattle.raft_log_memtable.specs.contracts.mem_table.MemTable.{the_view}
use Rattle.raft_log_memtable.proofs.Reread.{replays, same_low}
use Rattle.raft_log_memtable.proofs.mem_table.MemTable.replay_rewrite.Goals as goal

pub returns-clause-ok : goal.returns-clause-ok
returns-clause-ok c = λ n.
    let x = run_of c.args.entries.now in
    replays (replay_of c.take_back-2.new.self) (replayed false n (replay_of c.args.self.now) x)
    (c.take_back-2.ensures.shows ∙ ap shown c.note_run.ensures ∙ c.come_over.ensures.shows n
    ∙ ap (λ v. replay_step false n v x)
    (ap (λ (ps : PlaceList). record (shown (the_view c.self.inside)) { places = ps.items }) c.in_ok-make_room.ensures.ok
    ∙ ap shown c.self.view_is ∙ c.take_back.ensures.shows))
    (c.take_back-2.ensures.bounds.0 ∙ ap (λ t. t.low) c.note_run.ensures ∙ c.come_over.ensures.bounds.0 ∙ ap (λ t. t.low) c.self.view_is
    ∙ c.take_back.ensures.bounds.0 ∙ same_low c.args.entries.now c.args.self.now.low)
    (c.take_back-2.ensures.bounds.1 ∙ ap (λ t. t.high) c.note_run.ensures
    ∙ ap (high_with x) (c.come_over.ensures.bounds.1 ∙ ap (λ t. t.high) c.self.view_is ∙ c.take_back.ensures.bounds.1))
