use Rattle.std.proofs.Common.{Some}
use Rattle.raft_log_purge.proofs.Expiring.{seen_behind}
use Rattle.raft_log_purge.proofs.expired_files.PurgeCounts.count_and_survey.Goals as goal

pub returns-in-Some-clause-seen : goal.returns-in-Some-clause-seen
returns-in-Some-clause-seen g c =
    seen_behind c.args.wanted c.args.tables.now c.args.self.now c.count_behind.new.self (Some c.in-Some.seen) c.count_behind.ensures c.in-Some.ensures.seen
