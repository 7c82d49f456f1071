use Rattle.raft_crash_examples.proofs.unsynced.load_and_end.Goals as goal

pub returns : goal.returns
returns g c =
    record {
      ok = record { engine = _; opens = c.in_ok-engine.ensures.ok; told = c.in_ok-found.ensures.ok; ends = c.in_ok-left.ensures };
    }
