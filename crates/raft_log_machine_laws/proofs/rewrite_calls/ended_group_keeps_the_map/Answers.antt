use Rattle.raft_log_machine_laws.proofs.GroupCalls.{end_answered, end_may_be_there}
use Rattle.raft_log_machine_laws.proofs.rewrite_calls.ended_group_keeps_the_map.Goals as goal

pub returns : goal.returns
returns g c = record {
  answered = end_answered g.P.TiedFiles.ties g.P.TiedFiles.allows;
  failed = end_may_be_there g.P.TiedFiles.ties g.P.TiedFiles.allows;
}
