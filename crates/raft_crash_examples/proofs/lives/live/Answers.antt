use Rattle.std.proofs.lemmas.Result.{IfOk-weaker}
use Rattle.raft_crash_examples.proofs.Lived.{lives_once}
use Rattle.raft_crash_examples.proofs.lives.live.Goals as goal

pub returns : goal.returns
returns g c =
    record {
      ok = IfOk-weaker _ _ _ (λ left ends. lives_once g.F.FileSystem.disk g.F.FileSystem.tells_space c.args.life.now c.in_ok-config.config c.args.files left _ _ c.as_slice.ensures.value c.in_ok-config.ensures c.in_ok-engine.ensures.ok ends) c.end.ensures;
    }
