use Rattle.std.proofs.lemmas.Result.{IfOk-weaker}
use Rattle.raft_crash_examples.proofs.Lived.{reads_the_fold}
use Rattle.raft_crash_examples.proofs.lives.read_behind_lives.Goals as goal

pub returns : goal.returns
returns g c =
    record {
      ok = IfOk-weaker _ _ _ (λ found loads. reads_the_fold _ _ c.lives_follow_the_model.ensures c.args.last c.args.lives.now c.args.group c.args.key.now c.args.files c.in_ok-left.left _ c.in_ok-left.ensures.ok loads)
          c.load.ensures.ok;
    }
