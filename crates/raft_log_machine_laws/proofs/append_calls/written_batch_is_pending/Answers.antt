use Rattle.raft_log_machine_laws.proofs.CallLaws.{append_answered}
use Rattle.raft_log_machine_laws.proofs.append_calls.written_batch_is_pending.Goals as goal

pub returns : goal.returns
returns g c = append_answered g.P.TiedFiles.ties g.P.TiedFiles.allows
