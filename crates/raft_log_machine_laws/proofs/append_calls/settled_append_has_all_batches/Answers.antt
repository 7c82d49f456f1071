use Rattle.raft_log_machine_laws.proofs.SettledLaws.{append_settles, settled_stays, sync_settles, cut_back_settles}
use Rattle.raft_log_machine_laws.proofs.append_calls.settled_append_has_all_batches.Goals as goal

pub returns : goal.returns
returns g c = record {
  batches = append_settles g.P.TiedFiles.ties;
  stays = settled_stays g.P.TiedFiles.ties;
  sync = sync_settles g.P.TiedFiles.ties;
  cut_back = cut_back_settles g.P.TiedFiles.ties;
}
