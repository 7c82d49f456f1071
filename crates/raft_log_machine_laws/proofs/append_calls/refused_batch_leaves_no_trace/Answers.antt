use Rattle.raft_log_machine_laws.proofs.CallLaws.{append_cut_back, append_left_out}
use Rattle.raft_log_machine_laws.proofs.append_calls.refused_batch_leaves_no_trace.Goals as goal

pub returns : goal.returns
returns g c = record {
  cut_back = append_cut_back g.P.TiedFiles.ties g.P.TiedFiles.allows;
  left_out = append_left_out g.P.TiedFiles.ties g.P.TiedFiles.allows;
}
