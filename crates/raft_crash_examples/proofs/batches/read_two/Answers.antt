use Rattle.std.proofs.Common.{◌≡◌, List, Option, ℕ, subst}
use Rattle.raft_log_engine.specs.raft_log_engine_laws.specs.EngineState.{EngineState}
use Rattle.raft_log_engine.specs.raft_log_engine_laws.specs.Reading.{ReadsValue}
use Rattle.raft_crash_examples.proofs.batches.read_two.Goals as goal

-- what was read under bytes that are the key
read_under : (e : EngineState) (g : ℕ) (read k : List ℕ) (found : Option (List ℕ)) → read ≡ k → ReadsValue e g read found → ReadsValue e g k found
read_under e g read k found same reads = subst (λ (x : List ℕ). ReadsValue e g x found) same reads

pub returns : goal.returns
returns g c =
    record {
      ok = (
        read_under _ _ _ _ _ c.as_slice.ensures.value c.in_ok-first.ensures.ok,
        read_under _ _ _ _ _ c.as_slice-2.ensures.value c.in_ok-second.ensures.ok,
      );
    }
