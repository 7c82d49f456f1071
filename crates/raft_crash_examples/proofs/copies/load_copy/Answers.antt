use Rattle.std.proofs.lemmas.Result.{IfOk-weaker}
use Rattle.raft_crash_examples.proofs.Copied.{loads_copy}
use Rattle.raft_crash_examples.proofs.copies.load_copy.Goals as goal

pub returns : goal.returns
returns g c =
    record {
      ok = IfOk-weaker _ _ _ (λ found loads. loads_copy g.F.FileSystem.disk g.F.FileSystem.tells_space c.args.config.now c.args.target.now c.args.to c.args.group c.args.key.now c.args.files c.fork.new.file_system _ _ c.in_ok-fork.ensures.ok loads) c.load.ensures.ok;
    }
