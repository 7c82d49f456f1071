use Rattle.raft_log_machine_laws.proofs.CallLaws.{append_synced, failed_whole}
use Rattle.raft_log_machine_laws.proofs.append_calls.synced_batches_are_in_the_map.Goals as goal

pub returns : goal.returns
returns g c = record {
  answered = append_synced g.P.TiedFiles.ties g.P.TiedFiles.allows;
  failed = failed_whole g.P.TiedFiles.ties g.P.TiedFiles.allows;
}
