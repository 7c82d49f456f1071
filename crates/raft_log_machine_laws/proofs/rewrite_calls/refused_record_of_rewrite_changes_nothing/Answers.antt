use Rattle.raft_log_machine_laws.proofs.CallLaws.{rewrite_synced, rewrite_cut_back, rewrite_left_out}
use Rattle.raft_log_machine_laws.proofs.SettledLaws.{rewrite_settles}
use Rattle.raft_log_machine_laws.proofs.rewrite_calls.refused_record_of_rewrite_changes_nothing.Goals as goal

pub returns : goal.returns
returns g c = record {
  sync = rewrite_synced g.P.TiedFiles.ties g.P.TiedFiles.allows;
  settled = rewrite_settles g.P.TiedFiles.ties;
  cut_back = rewrite_cut_back g.P.TiedFiles.ties g.P.TiedFiles.allows;
  left_out = rewrite_left_out g.P.TiedFiles.ties g.P.TiedFiles.allows;
}
