use Rattle.raft_log_machine_laws.proofs.CallLaws.{append_may_be_there}
use Rattle.raft_log_machine_laws.proofs.append_calls.batch_of_a_failed_pipe_may_be_there.Goals as goal

pub returns : goal.returns
returns g c = append_may_be_there g.P.TiedFiles.ties g.P.TiedFiles.allows
