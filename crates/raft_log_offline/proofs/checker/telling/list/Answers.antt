use Rattle.raft_log_offline.proofs.Telling.{list_begins, lists_map}
use Rattle.raft_log_offline.proofs.checker.telling.list.Goals as goal

pub loop-finding-init : goal.loop-finding-init
loop-finding-init c = record { all = list_begins _ _ _ c.new-findings.ensures.items c.into_iter-finding-iterator.ensures.into_iter_gives.0; ordered = c.into_iter-finding-iterator.ensures.into_iter_gives.5 }

pub returns : goal.returns
returns c = lists_map c.args.found c.loop-finding.findings.items _ c.loop-finding.invariant.ordered c.in-None.ensures.steps.0 c.loop-finding.invariant.all
