use Rattle.std.proofs.lemmas.Result.{IfOk-weaker}
use Rattle.raft_crash_examples.proofs.Purged.{reads_behind_purges}
use Rattle.raft_crash_examples.proofs.purging.read_behind_purges.Goals as goal

pub returns : goal.returns
returns g c =
    record {
      ok = IfOk-weaker _ _ _ (λ found loads. reads_behind_purges _ _ c.lives_follow_the_model.ensures c.args.config c.args.changes.now c.args.again c.args.group c.args.key.now c.args.files c.in_ok-left.left _ _ _
          c.in_ok-engine.ensures.ok c.purge_all.ensures c.in_ok-left.ensures loads)
          c.load.ensures.ok;
    }
