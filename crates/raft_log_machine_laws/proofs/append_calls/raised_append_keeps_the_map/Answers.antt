use Rattle.raft_log_machine_laws.proofs.GroupCalls.{append_raise_settled, append_raise_failed}
use Rattle.raft_log_machine_laws.proofs.append_calls.raised_append_keeps_the_map.Goals as goal

pub returns : goal.returns
returns g c = record {
  answered = append_raise_settled g.P.TiedFiles.ties g.P.TiedFiles.ties;
  failed = append_raise_failed g.P.TiedFiles.ties g.P.TiedFiles.allows;
}
