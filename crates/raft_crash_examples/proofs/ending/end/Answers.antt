use Rattle.std.specs.Prelude.{is_ok}
use Rattle.raft_crash_examples.proofs.Steps.{proper}
use Rattle.raft_crash_examples.proofs.ending.end.Goals as goal

pub returns-in-Close : goal.returns-in-Close
returns-in-Close g c =
    let sound = (g.met.F.FileSystem g.world.𝓛 g.world.𝓜 g.world.𝓡 ((λ s x. x), (λ x. x), (λ x. x), λ x. x)).sound in
    rw c.in-Close.is (
      is_ok c.close.result.result,
      record {
        before = sound _;
        after = sound _;
        held = c.close.ensures.held;
        proper = proper _ c.close.result.result _ c.close.ensures.value (λ fails. (c.close.ensures.model.fails fails).0);
      },
    )
