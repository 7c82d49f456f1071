use Rattle.std.proofs.lemmas.Result.{IfOk-weaker}
use Rattle.raft_crash_examples.proofs.Lived.{reads_all_changes}
use Rattle.raft_crash_examples.proofs.reopening.read_behind_two_closes.Goals as goal

pub returns : goal.returns
returns g c =
    record {
      ok = IfOk-weaker _ _ _ (λ found loads. reads_all_changes _ _ c.lives_follow_the_model.ensures c.args.first c.args.second c.args.last c.args.before.now c.args.after.now c.args.group c.args.key.now
          c.args.files c.in_ok-left.left c.in_ok-again.again _ c.in_ok-left.ensures.ok c.in_ok-again.ensures.ok loads)
          c.load.ensures.ok;
    }
