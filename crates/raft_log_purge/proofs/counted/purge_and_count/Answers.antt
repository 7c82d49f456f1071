use Rattle.std.proofs.lemmas.Result.{err_from_is_err_and}
use Rattle.raft_log_purge.proofs.counted.purge_and_count.Goals as goal

-- where it was answered, what was counted before and behind stands between
pub returns-clause-ok : goal.returns-clause-ok
returns-clause-ok g c = record {
  past = c.is_any_past-past.result;
  tells = c.is_any_past-past.ensures;
  counted = c.count_and_survey-seen.new.self;
  first = c.count_and_survey-seen.ensures.counted;
  purged = c.purge_expired_files.new.counts;
  purges = c.in_ok-answered.ensures.ok;
  second = c.count_behind.ensures;
}

pub returns-in_err-answered-clause-err : goal.returns-in_err-answered-clause-err
returns-in_err-answered-clause-err g c =
    let p = err_from_is_err_and c.from_residual.result c.from_residual.ensures.1 in
    rw (p.1, p.2) c.in_err-answered.ensures.err

pub returns-in_err-answered-clause-kept : goal.returns-in_err-answered-clause-kept
returns-in_err-answered-clause-kept g c =
    let p = err_from_is_err_and c.from_residual.result c.from_residual.ensures.1 in
    rw p.1 (record {
      past = c.is_any_past-past.result;
      tells = c.is_any_past-past.ensures;
      counted = c.count_and_survey-seen.new.self;
      first = c.count_and_survey-seen.ensures.counted;
      kept = c.in_err-answered.ensures.kept;
    })
