use Rattle.std.proofs.Common.{ap}
use Rattle.std.specs.Prelude.{Result, is_ok}
use Rattle.raft_log_engine.specs.raft_log_record_base.specs.declared.errors.Error.{Error}
use Rattle.raft_crash_examples.proofs.Steps.{proper}
use Rattle.raft_crash_examples.proofs.reopening.change_and_close.Goals as goal

pub returns : goal.returns
returns g c =
    let sound = (g.met.F.FileSystem g.world.𝓛 g.world.𝓜 g.world.𝓡 ((λ s x. x), (λ x. x), (λ x. x), λ x. x)).sound in
    record {
      ok = record {
        engine = _;
        sound = sound _;
        changed = c.in_ok-engine.ensures.ok;
        closes = proper _ c.close-closed.result.result _ c.close-closed.ensures.value (λ fails. (c.close-closed.ensures.model.fails fails).0) (ap (λ (r : Result (Unit {0}) Error). is_ok r) c.in_ok-closed.was);
      };
    }
