use Rattle.raft_crash_examples.proofs.lives.change_keys.Goals as goal

pub returns : goal.returns
returns g c =
    record {
      ok = record { opened = _; opens = c.in_ok-engine.ensures.ok; done = c.in_ok-write_changes.ensures.ok };
    }
