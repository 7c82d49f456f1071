use Rattle.raft_log_offline.specs.Directory.FailsToCheckDirectory.{unchecked}
use Rattle.raft_log_offline.proofs.directory.consistency_check_with_file_system.Goals as goal

pub returns-in-Ok-check_log-clause-ok : goal.returns-in-Ok-check_log-clause-ok
returns-in-Ok-check_log-clause-ok g c = record {
  there = c.in-Ok-true.ensures.ok.0 c.in-Ok-true.field-0-test;
  config = c.in-Ok.config;
  usual = c.in-Ok.ensures.ok;
  checks = c.in-Ok-check_log.ensures.ok;
}

pub returns-in-Err-check_log-clause-err : goal.returns-in-Err-check_log-clause-err
returns-in-Err-check_log-clause-err g c =
    unchecked (c.in-Ok-true.ensures.ok.0 c.in-Ok-true.field-0-test) c.in-Ok.config c.in-Ok.ensures.ok c.in-Err-check_log.ensures.err
