use Rattle.std.proofs.lemmas.Result.{IfOk-weaker}
use Rattle.raft_crash_examples.proofs.Lived.{saves_across}
use Rattle.raft_crash_examples.proofs.crashing.save_across_a_crash.Goals as goal

pub returns : goal.returns
returns g c =
    record {
      ok = IfOk-weaker _ _ _ (λ found loads. saves_across _ _ c.lives_follow_the_model.ensures c.args.config c.args.again c.args.group c.args.key.now c.args.value.now c.new-files.result c.in_ok-left.left _ _ c.new-files.ensures.empty c.in_ok-engine.ensures.ok c.in_ok-left.ensures loads)
          c.load.ensures.ok;
    }
