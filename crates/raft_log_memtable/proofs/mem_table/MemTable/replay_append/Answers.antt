use Rattle.std.proofs.Common.{ap, subst, sym, true, ◌∙◌}
use Rattle.raft_log_extents.specs.Entries.{run_of}
use Rattle.raft_log_memtable_index.specs.Replayed.{high_with, replayed}
use Rattle.raft_log_memtable_index.specs.Shown.{span, stepped}
use Rattle.raft_log_memtable.specs.Room.{kept, IsForgotten}
use Rattle.raft_log_memtable.specs.Table.{promise, replay_of, shown}
use Rattle.raft_log_memtable.proofs.Reread.{append_step, replays, same_low}
use Rattle.raft_log_memtable.proofs.Ready.{prepared_takes, taken_forgets, taken_rests}
use Rattle.raft_log_memtable.proofs.mem_table.MemTable.replay_append.Goals as goal

pub append-requires : goal.append-requires
append-requires c = record {
  run = c.requires;
  room = prepared_takes (shown c.args.self.now) (shown c.prepare_append.new.self) (promise c.take_back.new.self) (promise c.prepare_append.new.self)
      (run_of c.args.entries.now) (c.in_ok-prepare_append.ensures.shows ∙ c.take_back.ensures.shows) (ap (λ q. q.ends) c.take_back.ensures.room)
      c.in_ok-prepare_append.ensures.follows c.in_ok-prepare_append.ensures.ok;
}

pub returns-clause-ok : goal.returns-clause-ok
returns-clause-ok c = λ n.
    let x = run_of c.args.entries.now in
    replays (replay_of c.note_run.new.self) (replayed true n (replay_of c.args.self.now) x)
    (ap shown c.note_run.ensures ∙ c.append.ensures.shows n
    ∙ ap (λ v. stepped n v x) (c.in_ok-prepare_append.ensures.shows ∙ c.take_back.ensures.shows) ∙ append_step n (shown c.args.self.now) x)
    (ap (λ t. t.low) c.note_run.ensures ∙ c.append.ensures.bounds.0 ∙ c.in_ok-prepare_append.ensures.bounds.0
    ∙ c.take_back.ensures.bounds.0 ∙ same_low c.args.entries.now c.args.self.now.low)
    (ap (λ t. t.high) c.note_run.ensures
    ∙ ap (high_with x) (c.append.ensures.bounds.1 ∙ c.in_ok-prepare_append.ensures.bounds.1 ∙ c.take_back.ensures.bounds.1))

pub returns-clause-ends : goal.returns-clause-ends
returns-clause-ends c =
    let x = run_of c.args.entries.now in
    ap (λ t. (promise t).ends) c.note_run.ensures ∙ ap (λ q. q.ends) c.append.ensures.room
    ∙ taken_rests 0 (shown c.args.self.now) (shown c.prepare_append.new.self) (promise c.take_back.new.self) (promise c.prepare_append.new.self) x
    (c.in_ok-prepare_append.ensures.shows ∙ c.take_back.ensures.shows) (ap (λ q. q.ends) c.take_back.ensures.room)
    c.in_ok-prepare_append.ensures.follows c.in_ok-prepare_append.ensures.ok
    ∙ sym (ap span (ap shown c.note_run.ensures ∙ c.append.ensures.shows 0))

pub returns-clause-forgotten : goal.returns-clause-forgotten
returns-clause-forgotten c =
    let x = run_of c.args.entries.now in
    subst IsForgotten
    (sym (ap promise c.note_run.ensures ∙ c.append.ensures.room ∙ ap (λ q. kept q x) c.in_ok-prepare_append.ensures.ok))
    (taken_forgets (promise c.take_back.new.self) x (ap (λ q. q.wanted) c.take_back.ensures.room, ap (λ q. q.moves) c.take_back.ensures.room))
