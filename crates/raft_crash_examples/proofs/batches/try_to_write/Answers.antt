use Rattle.raft_crash_examples.proofs.batches.try_to_write.Goals as goal

pub returns : goal.returns
returns g c =
    record {
      ok = record { opened = _; opens = c.in_ok-engine.ensures.ok; done = c.in_ok-answered.ensures.ok };
    }
