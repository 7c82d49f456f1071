use Rattle.std.proofs.Common.{◌≡◌, ap, map, subst, sym, ◌∙◌}
use Rattle.raft_log_record_items.specs.Placed.{written_entry}
use Rattle.raft_log_extents.specs.Entries.{run_of}
use Rattle.raft_log_memtable.specs.Room.{CanTake}
use Rattle.raft_log_memtable.specs.Table.{promise, shown}
use Rattle.raft_examples.proofs.Written.{takes_written}
use Rattle.raft_examples.proofs.tables.write_entries.Goals as goal

pub append-requires-clause-room : goal.append-requires-clause-room
append-requires-clause-room g c =
    let same : map (written_entry c.in_ok-block.block) c.as_slice.result.now ≡ c.as_slice-3.result.now =
    ap (map (written_entry c.in_ok-block.block)) c.as_slice.ensures.value ∙ sym c.set_written.ensures ∙ sym c.as_slice-3.ensures.value in
    subst (λ es. CanTake (shown c.prepare_append.new.self) (promise c.prepare_append.new.self) (run_of es)) same
    (takes_written (shown c.args.table.now) (shown c.prepare_append.new.self) (promise c.take_back.new.self) (promise c.prepare_append.new.self)
    c.in_ok-block.block c.as_slice.result.now (c.in_ok-prepare_append.ensures.shows ∙ c.take_back.ensures.shows) (ap (λ q. q.ends) c.take_back.ensures.room)
    c.in_ok-prepare_append.ensures.follows c.in_ok-prepare_append.ensures.ok)
