use Rattle.raft_log_machine_laws.proofs.SettledLaws.{ends_in_turn, logs_end_in_turn, all_done}
use Rattle.raft_log_machine_laws.proofs.append_calls.ends_of_calls_compose.Goals as goal

pub returns : goal.returns
returns g c = record {
  view = λ t. ends_in_turn (g.P.TiedFiles.ties t);
  log = λ t. logs_end_in_turn (g.P.TiedFiles.allows t);
  all = λ t. all_done (g.P.TiedFiles.ties t);
}
