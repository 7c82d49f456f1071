use Rattle.std.proofs.lemmas.Result.{IfOk-weaker}
use Rattle.raft_crash_examples.proofs.Both.{loads_both}
use Rattle.raft_crash_examples.proofs.batches.load_both.Goals as goal

pub returns : goal.returns
returns g c =
    record {
      ok = IfOk-weaker _ _ _ (λ found reads. loads_both g.F.FileSystem.disk g.F.FileSystem.tells_space c.args.config c.args.one.now c.args.other.now c.args.files _ _ _ c.in_ok-engine.ensures.ok reads) c.read_two.ensures.ok;
    }
