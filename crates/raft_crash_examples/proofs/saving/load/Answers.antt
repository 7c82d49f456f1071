use Rattle.std.proofs.lemmas.Result.{IfOk-weaker}
use Rattle.raft_crash_examples.proofs.Lived.{loads_of}
use Rattle.raft_crash_examples.proofs.saving.load.Goals as goal

pub returns : goal.returns
returns g c =
    record {
      ok = IfOk-weaker _ _ _ (λ value reads. loads_of g.F.FileSystem.disk g.F.FileSystem.tells_space c.args.config c.args.group c.args.key.now c.args.files _ _ c.in_ok-engine.ensures.ok reads) c.get.ensures.ok;
    }
