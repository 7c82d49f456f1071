use Rattle.std.proofs.lemmas.Result.{on_err_weaker}
use Rattle.raft_log_purge.proofs.counted.rewrite_and_count.Goals as goal

-- where it was refused, what was counted before stands between
pub returns-clause-kept : goal.returns-clause-kept
returns-clause-kept g c =
    on_err_weaker c.sync_and_rewrite.result (λ kept. record {
      counted = c.count_live.new.self;
      first = c.count_live.ensures;
      stats = kept;
      rounds = c.count_live.ensures.rounds;
    }) c.sync_and_rewrite.ensures.kept
