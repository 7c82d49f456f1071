use Rattle.raft_log_offline.specs.Findings.{found_among, told_by, told_over}
use Rattle.raft_log_offline.proofs.Telling.{lists_told, none_in_empty, tells_both}
use Rattle.raft_log_offline.proofs.checker.telling.join_findings.Goals as goal

pub returns : goal.returns
returns c =
    lists_told (λ v. v.items) (found_among c.tell_over-2.new.found) (told_over (told_by c.args.rewrite) (told_by c.args.append))
    (tells_both (told_by c.args.rewrite) (told_by c.args.append) c.new-found.result c.tell_over.new.found c.tell_over-2.new.found (none_in_empty c.new-found.result c.new-found.ensures.empty) c.in_ok-tell_over.ensures c.in_ok-tell_over-2.ensures)
    c.list.result c.list.ensures
