use Rattle.raft_log_offline.specs.Findings.{found_among, told_by}
use Rattle.raft_log_offline.proofs.Telling.{lists_told, none_in_empty, tells_alone}
use Rattle.raft_log_offline.proofs.checker.ConsistencyChecker.finish.Goals as goal

pub returns : goal.returns
returns c =
    lists_told (λ v. v.items) (found_among c.tell_over.new.found) (told_by c.args.self)
    (tells_alone (told_by c.args.self) c.new-found.result c.tell_over.new.found (none_in_empty c.new-found.result c.new-found.ensures.empty) c.in_ok-tell_over.ensures) c.list.result c.list.ensures
