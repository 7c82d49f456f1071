use Rattle.raft_log_machine_laws.proofs.GroupCalls.{rewrite_raise_settled, rewrite_raise_failed}
use Rattle.raft_log_machine_laws.proofs.rewrite_calls.raised_rewrite_keeps_the_map.Goals as goal

pub returns : goal.returns
returns g c = record {
  answered = rewrite_raise_settled g.P.TiedFiles.ties g.P.TiedFiles.ties;
  failed = rewrite_raise_failed g.P.TiedFiles.ties g.P.TiedFiles.allows;
}
