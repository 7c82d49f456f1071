use Rattle.raft_log_offline.proofs.Ends.{ends_are}
use Rattle.raft_log_offline.proofs.group_runs.GroupRuns.of_entries.Goals as goal

pub returns : goal.returns
returns c = ends_are c.args.entries.now c.in_ok-first.first.now c.in_ok-last.last.now c.in_ok-first.ensures.value c.in_ok-last.ensures.value
