use Rattle.raft_log_machine_laws.proofs.GroupCalls.{group_given_up, group_left_out, middle_answered, middle_may_be_there}
use Rattle.raft_log_machine_laws.proofs.rewrite_calls.unended_group_keeps_the_map.Goals as goal

pub returns : goal.returns
returns g c = record {
  answered = middle_answered g.P.TiedFiles.ties g.P.TiedFiles.allows;
  failed = middle_may_be_there g.P.TiedFiles.ties g.P.TiedFiles.allows;
  left_out = group_left_out g.P.TiedFiles.ties g.P.TiedFiles.allows;
  given_up = λ s. group_given_up g.P.TiedFiles.ties g.P.TiedFiles.allows s s;
}
