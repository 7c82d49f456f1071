use Rattle.raft_log_machine_laws.proofs.CallLaws.{group_begun, begin_may_be_there}
use Rattle.raft_log_machine_laws.proofs.rewrite_calls.begun_group_keeps_the_map.Goals as goal

pub returns : goal.returns
returns g c = record {
  answered = group_begun g.P.TiedFiles.ties g.P.TiedFiles.allows;
  failed = begin_may_be_there g.P.TiedFiles.ties g.P.TiedFiles.allows;
}
